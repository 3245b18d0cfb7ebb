use Rattle.lucy_interleaving.proofs.InterleavingLaws.{runs_safe}
use Rattle.lucy_interleaving.proofs.laws.every_interleaving_is_safe.Goals as goal

pub returns : goal.returns
returns c = runs_safe c.accepted_programs_are_clocked.ensures.proper c.accepted_programs_are_clocked.ensures.clocked
