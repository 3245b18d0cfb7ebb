use Rattle.std.proofs.Common.{ℕ, ◌≡◌, ◌<◌, length}
use Rattle.std.specs.Prelude.{slice_index}
use Rattle.lucy_stream.specs.Items.{list_at}
use Rattle.lucy_results.proofs.lists.lengths.Given as goal

-- the lengths of the lists so far
abbrev pub invariant-each : goal.invariant-each
invariant-each l = record {
  many : length l.lengths.items ≡ l.i;
  are : (k : ℕ) → k < l.i → slice_index l.lengths.items k ≡ length (list_at l.lists k);
}
