use Rattle.std.proofs.Common.{ℕ, List, sym, subst}
use Rattle.std.specs.Prelude.{IfOk, MatchResult}
use Rattle.lucy_page.specs.Pages.{IsRefusedPage}
use Rattle.lucy_views.specs.Meets.{options_of}
use Rattle.lucy_views.specs.Owes.{OwesRefusedPage}
use Rattle.lucy_views.specs.Failures.{IsOutcome, IsTold, Tellable}
use Rattle.lucy_views.proofs.Texts.{refusal_out, refusal_told}
use Rattle.lucy_views.proofs.pages.page_of.Goals as goal

pub returns-clause-outcome : goal.returns-clause-outcome
returns-clause-outcome c =
    let o = options_of c.args.words.program in
    let page = subst (λ (t : List ℕ). IfOk c.refused_page-print.result (λ v. IsRefusedPage t c.args.text.now v.items)) c.deref.ensures.value c.refused_page-print.ensures in
    subst (IsOutcome (OwesRefusedPage c.args.ops.now o c.args.text.now)) (sym c.refusal_with.ensures)
    (refusal_out c.args.ops.now o c.args.text.now c.args.explained.text.items c.refused_page-print.result c.args.explained.refusal c.requires page)

pub returns-clause-told : goal.returns-clause-told
returns-clause-told c =
    subst (λ r. MatchResult r IsTold Tellable) (sym c.refusal_with.ensures)
    (refusal_told c.args.ops.now (options_of c.args.words.program) c.args.text.now c.args.explained.text.items c.refused_page-print.result c.args.explained.refusal c.requires)
