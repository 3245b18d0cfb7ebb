use Rattle.lucy_right.proofs.MeaningLaws.{stand}
use Rattle.lucy_right.proofs.laws.accepted_programs_stand.Goals as goal

pub returns : goal.returns
returns c = stand c.accepted_programs_are_clocked.ensures.clocked c.accepted_programs_are_clocked.ensures.proper c.flat_nets_are_causal_as_programs.ensures
