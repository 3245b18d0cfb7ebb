use Rattle.lucy_stream.specs.States.{start}
use Rattle.lucy_stream.proofs.StateLaws.{IsState-start, IsState-events}
use Rattle.lucy_stream.proofs.states.runs_keep_states.Goals as goal

pub returns : goal.returns
returns c = record {
  run = λ m picks wired local run. IsState-events m start picks wired local run (IsState-start m);
  later = λ m s picks wired local state run. IsState-events m s picks wired local run state;
}
