use Rattle.lucy_interleaving.proofs.InterleavingLaws.{states_safe}
use Rattle.lucy_interleaving.proofs.laws.every_state_is_safe.Goals as goal

pub returns : goal.returns
returns c = states_safe c.accepted_programs_are_clocked.ensures.proper c.accepted_programs_are_clocked.ensures.clocked
