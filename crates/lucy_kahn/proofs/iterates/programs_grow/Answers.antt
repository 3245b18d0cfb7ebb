use Rattle.lucy_kahn.proofs.ByNumber.{kahn_later, kahn_inputs}
use Rattle.lucy_kahn.proofs.iterates.programs_grow.Goals as goal

pub returns-clause-later : goal.returns-clause-later
returns-clause-later c = λ kinds inputs nodes n m spot proper is l. kahn_later nodes proper kinds inputs n m spot is l

pub returns-clause-inputs : goal.returns-clause-inputs
returns-clause-inputs c = λ kinds inputs more nodes n spot proper is l. kahn_inputs nodes proper kinds inputs more n spot is l
