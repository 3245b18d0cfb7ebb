use Rattle.lucy_wave.proofs.StepLaws.{count_once}
use Rattle.lucy_wave.proofs.laws.one_count.Goals as goal

pub returns : goal.returns
returns c = count_once
