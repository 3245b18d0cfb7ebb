use Rattle.std.proofs.Common.{Some, None, refl, ap, map}
use Rattle.std.proofs.lemmas.Result.{IfOk-weaker}
use Rattle.lucy_tree.specs.View.{def_tree}
use Rattle.lucy_grammar.specs.Reading.{IsOther}
use Rattle.lucy_grammar.proofs.LeafProductions.{begun, unbegun, a_body}
use Rattle.lucy_syntax.proofs.Leaving.{leaves, hands_on}
use Rattle.lucy_syntax.proofs.Facts.{is_first}
use Rattle.lucy_token.specs.declared.mark.Mark.TheVariants as mark
use Rattle.lucy_token.specs.declared.token.Kind.TheVariants as kind
use Rattle.lucy_grammar.proofs.NodeProductions as by
use Rattle.lucy_syntax.proofs.program.body.Goals as goal

pub returns-in_err-ts-clause-refused : goal.returns-in_err-ts-clause-refused
returns-in_err-ts-clause-refused c =
    leaves (IsOther c.in-Some.ts.now (kind.Mark mark.Rec)) _ c.from_residual.result c.from_residual.ensures.1 c.in_err-ts.ensures.refused (λ rest u. ((begun c.args.ts.now a_body (is_first c.in-Some.ensures.read.1)), by.body_2 c.in-Some.ensures.read.1 u))

pub returns-in-Some-clause-ok : goal.returns-in-Some-clause-ok
returns-in-Some-clause-ok c = IfOk-weaker c.defs.result _ _ (λ p r. (Some (map def_tree p.0.items), (begun c.args.ts.now a_body (is_first c.in-Some.ensures.read.1), by.body c.in-Some.ensures.read.1 c.in_ok-ts.ensures.ok.1 r), refl)) c.defs.ensures.ok

pub returns-in-Some-clause-refused : goal.returns-in-Some-clause-refused
returns-in-Some-clause-refused c = hands_on c.defs.result c.defs.ensures.refused (λ rest u. (begun c.args.ts.now a_body (is_first c.in-Some.ensures.read.1), by.body_3 c.in-Some.ensures.read.1 c.in_ok-ts.ensures.ok.1 u))

pub returns-clause-ok : goal.returns-clause-ok
returns-clause-ok c = (None, (unbegun c.args.ts.now a_body c.in_default.ensures.read, refl), ap (map def_tree) c.new.ensures.items)
