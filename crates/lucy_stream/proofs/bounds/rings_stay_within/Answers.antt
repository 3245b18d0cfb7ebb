use Rattle.lucy_stream.specs.Runs.{none_done}
use Rattle.lucy_stream.proofs.RunLaws.{IsWithin-run, IsWithin-none}
use Rattle.lucy_stream.proofs.bounds.rings_stay_within.Goals as goal

pub returns : goal.returns
returns c = record {
  run = λ sys picks run. IsWithin-run sys none_done picks run (IsWithin-none sys);
  later = λ sys done picks within run. IsWithin-run sys done picks run within;
}
