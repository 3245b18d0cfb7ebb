use Rattle.std.proofs.Common.{ℕ, ◌≡◌, ◌≤◌, length}
use Rattle.std.specs.Prelude.{slice_index}
use Rattle.lucy_place.specs.declared.placed.PlacedNode.{PlacedNode}
use Rattle.lucy_kahn.specs.Sizes.{AreCapped, total_of}
use Rattle.lucy_kahn.proofs.SizeLaws.{AreOwn}
use Rattle.lucy_kahn.proofs.counting.add_calls.Given as goal

abbrev pub invariant-each : goal.invariant-each
invariant-each l = (length l.counts ≡ length l.initial.counts)
    × ((own : ℕ → PlacedNode → ℕ) → AreOwn own l.placed.nodes l.initial.counts → AreCapped (total_of own l.placed.nodes) l.node l.counts)
    × ((i : ℕ) → l.node ≤ i → slice_index l.counts i ≡ slice_index l.initial.counts i)
