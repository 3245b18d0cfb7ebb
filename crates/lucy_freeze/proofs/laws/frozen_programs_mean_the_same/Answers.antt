use Rattle.lucy_freeze.proofs.ProgramLaws.{means_same, written_all}
use Rattle.lucy_freeze.proofs.laws.frozen_programs_mean_the_same.Goals as goal

pub returns-clause-streams : goal.returns-clause-streams
returns-clause-streams c = means_same

pub returns-clause-written : goal.returns-clause-written
returns-clause-written c = written_all
