use Rattle.std.proofs.Common.{ℕ, ◌≡◌, ◌<◌, [], length, slice_index}
use Rattle.lucy_net.specs.Instants.{slot}
use Rattle.lucy_net.specs.Play.{IsPlayedSoFar}
use Rattle.lucy_net.proofs.instant.settle_all.Given as goal

abbrev pub invariant-loop-actor : goal.invariant-loop-actor
invariant-loop-actor l = record {
  played : IsPlayedSoFar l.net l.before l.order.items l.steps l.held;
  depths : length l.depth ≡ length l.net.actors;
  unmarked : (a : ℕ) → slice_index l.depth a ≡ 0;
  none : l.waits.items ≡ [];
  done : (k : ℕ) → k < l.actor-index → slice_index l.steps (slice_index l.firing k) ≡ length (slot l.net l.before (slice_index l.firing k));
}
