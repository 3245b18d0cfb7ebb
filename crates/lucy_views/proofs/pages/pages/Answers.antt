use Rattle.std.proofs.Common.{inl, inr}
use Rattle.lucy_views.specs.Meets.{options_of}
use Rattle.lucy_views.proofs.Texts.{pages_out}
use Rattle.lucy_views.proofs.pages.pages.Goals as goal

pub returns-in-Some-clause-outcome : goal.returns-in-Some-clause-outcome
returns-in-Some-clause-outcome c = inr (inl c.in-Some.ensures)

pub returns-in-None-clause-outcome : goal.returns-in-None-clause-outcome
returns-in-None-clause-outcome c =
    pages_out c.args.ops.now (options_of c.args.words.program) c.args.text.now _ c.refused.ensures.outcome
