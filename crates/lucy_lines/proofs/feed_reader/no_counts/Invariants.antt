use Rattle.std.proofs.Common.{ℕ, ◌≡◌, length}
use Rattle.std.specs.Prelude.{slice_index_or}
use Rattle.lucy_lines.proofs.feed_reader.no_counts.Given as goal

abbrev pub invariant-loop : goal.invariant-loop
invariant-loop l = record {
  many : length l.counts.items ≡ l.counter;
  none : (i : ℕ) → slice_index_or l.counts.items i 0 ≡ 0;
}
