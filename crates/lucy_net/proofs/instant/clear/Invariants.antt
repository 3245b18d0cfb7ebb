use Rattle.std.proofs.Common.{ℕ, ◌≡◌, ◌<◌, slice_index}
use Rattle.lucy_net.proofs.instant.clear.Given as goal

abbrev pub invariant-loop-actor : goal.invariant-loop-actor
invariant-loop-actor l = record {
  cleared : (k : ℕ) → k < l.actor-index → slice_index l.steps (slice_index l.firing k) ≡ 0;
  kept : (a : ℕ) → slice_index l.initial.steps a ≡ 0 → slice_index l.steps a ≡ 0;
}
