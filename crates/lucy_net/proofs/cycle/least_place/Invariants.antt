use Rattle.std.proofs.Common.{ℕ, ◌<◌, ◌≤◌, length}
use Rattle.lucy_net.specs.Waiting.{actor_at}
use Rattle.lucy_net.proofs.cycle.least_place.Given as goal

abbrev pub invariant-loop-place : goal.invariant-loop-place
invariant-loop-place l = record {
  there : l.least < length l.waits;
  least : (k : ℕ) → k < l.place → actor_at l.waits 0 l.least ≤ actor_at l.waits 0 k;
}
