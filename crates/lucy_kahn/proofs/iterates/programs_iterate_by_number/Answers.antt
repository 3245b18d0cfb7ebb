use Rattle.lucy_kahn.proofs.ByNumber.{by_number}
use Rattle.lucy_kahn.proofs.iterates.programs_iterate_by_number.Goals as goal

pub returns : goal.returns
returns c = λ kinds inputs nodes n spot proper is. by_number nodes proper kinds inputs n spot is
