use Rattle.std.proofs.Common.{ℕ, ◌+◌, ◌-◌, ◌*◌, ◌<◌, ◌≤◌, length, slice_index}
use Rattle.lucy_net.specs.Instants.{slot}
use Rattle.lucy_net.specs.Play.{IsPlayedSoFar}
use Rattle.lucy_net.specs.Waiting.{IsStack}
use Rattle.lucy_net.proofs.PlayLaws.{left_in}
use Rattle.lucy_net.proofs.settle.settle.Given as goal

abbrev pub invariant-events : goal.invariant-events
invariant-events l = record {
  played : IsPlayedSoFar l.net l.before l.order.items l.steps l.held;
  stack : IsStack l.net l.before l.steps l.held l.depth l.waits.items l.first l.now;
  busy : 0 < length (slot l.net l.before l.now);
  grown : (a : ℕ) → slice_index l.initial.steps a ≤ slice_index l.steps a;
}

abbrev pub decreases-events : goal.decreases-events
decreases-events l = left_in l.net l.before l.steps * (length l.net.actors + 1) + (length l.net.actors - length l.waits.items)
