use Rattle.lucy_wave.proofs.ReadLaws.{read_once}
use Rattle.lucy_wave.proofs.laws.one_reading.Goals as goal

pub returns : goal.returns
returns c = read_once
