use Rattle.std.proofs.Common.{ℕ, ◌≡◌, ◌<◌, ◌≤◌, slice_index}
use Rattle.lucy_explain.specs.Joining.{renamed}
use Rattle.lucy_explain.proofs.streams.rename.Given as goal

abbrev pub invariant-each : goal.invariant-each
invariant-each l = record {
  done : (k : ℕ) → k < l.stream-index → slice_index l.streams k ≡ renamed l.old l.new (slice_index l.initial.streams k);
  rest : (k : ℕ) → l.stream-index ≤ k → slice_index l.streams k ≡ slice_index l.initial.streams k;
}
