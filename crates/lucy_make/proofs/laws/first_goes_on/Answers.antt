use Rattle.lucy_make.proofs.FirstLaws.{goes_on, short, agrees}
use Rattle.lucy_make.proofs.laws.first_goes_on.Goals as goal

pub returns-clause-goes_on : goal.returns-clause-goes_on
returns-clause-goes_on c = goes_on c.streams_go_on.ensures

pub returns-clause-short : goal.returns-clause-short
returns-clause-short c = short c.streams_are_whole.ensures

pub returns-clause-agrees : goal.returns-clause-agrees
returns-clause-agrees c = agrees c.streams_agree.ensures
