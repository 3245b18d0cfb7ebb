use Rattle.lucy_stream.specs.Runs.{none_done}
use Rattle.lucy_stream.specs.States.{start}
use Rattle.lucy_stream.proofs.RunLaws.{IsWithin-none}
use Rattle.lucy_stream.proofs.ReachLaws.{converse}
use Rattle.lucy_stream.proofs.HorizonLaws.{IsRun-longer, events-longer, IsState-longer, IsWhole-longer}
use Rattle.lucy_stream.proofs.horizon.longer_lists_keep_runs.Goals as goal

pub returns : goal.returns
returns c = record {
  run = λ sys longer picks h run. IsRun-longer sys longer none_done picks h (IsWithin-none sys) run;
  same = λ m longer picks h keeps local run. events-longer m longer start picks h keeps local run;
  state = IsState-longer;
  reached = λ m longer low high order h keeps wired local whole early late le. converse longer low high order wired local whole (IsState-longer m longer low h keeps local early) late le;
  whole = IsWhole-longer;
}
