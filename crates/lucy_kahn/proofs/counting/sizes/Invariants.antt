use Rattle.std.proofs.Common.{ℕ, ◌≡◌, ◌<◌, length}
use Rattle.std.specs.Prelude.{slice_index, slice_get, Some}
use Rattle.lucy_place.specs.declared.placed.PlacedNode.{PlacedNode}
use Rattle.lucy_kahn.proofs.counting.sizes.Given as goal

abbrev pub invariant-each : goal.invariant-each
invariant-each l = (length l.counts ≡ 256) × ((i : ℕ) (n : PlacedNode) → i < l.node → slice_get l.placed.nodes i ≡ Some n → slice_index l.counts i ≡ length n.places)
