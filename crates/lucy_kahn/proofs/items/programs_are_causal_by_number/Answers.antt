use Rattle.lucy_kahn.proofs.ByNumber.{causal_places, causal_program}
use Rattle.lucy_kahn.proofs.items.programs_are_causal_by_number.Goals as goal

pub returns : goal.returns
returns c = λ nodes proper. (causal_places nodes proper, causal_program nodes proper)
