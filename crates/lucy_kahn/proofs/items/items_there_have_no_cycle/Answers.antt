use Rattle.lucy_kahn.proofs.ByNumber.{needs_there, no_cycle_there}
use Rattle.lucy_kahn.proofs.items.items_there_have_no_cycle.Goals as goal

pub returns-clause-before : goal.returns-clause-before
returns-clause-before c = λ kinds inputs nodes n x y proper low d l. needs_there nodes proper kinds inputs n x y low d l

pub returns-clause-no_cycle : goal.returns-clause-no_cycle
returns-clause-no_cycle c = λ kinds inputs nodes n x walk proper low l leads. no_cycle_there nodes proper kinds inputs n x walk low l leads
