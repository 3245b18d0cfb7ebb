use Rattle.lucy_front.specs.Refusing.{RefusesSyntax}
use Rattle.lucy_app.specs.Show.{IsPrintOf}
use Rattle.lucy_app.proofs.Outcomes.{program_outcome}
use Rattle.lucy_app.proofs.show.answer.Goals as goal

pub returns-clause-outcome : goal.returns-clause-outcome
returns-clause-outcome c = program_outcome IsPrintOf RefusesSyntax _ _ _ c.in_ok-text.was (rw c.deref.ensures.value at c.print_of.ensures.ok) (rw c.deref.ensures.value at c.print_of.ensures.refused)
