-- How far behind its begin each part of an instance ends: its own places, and then the instance of each of its calls.
use Rattle.std.specs.Prelude.{ℕ, ◌+◌, ◌≤◌, ◌≡◌, List, Some, length, take, sum_by, slice_get, slice_index}
use Rattle.lucy_place.specs.declared.placed.PlacedNode.{PlacedNode}
use Rattle.lucy_kahn.specs.Sizes.{capped, size_of}

-- the end of the instances of the first calls
abbrev pub end_of : List PlacedNode → PlacedNode → ℕ → ℕ
end_of nodes n calls = length n.places + sum_by (λ site. size_of nodes site.node) (take calls n.calls)

-- the ends up to that, capped
pub record AreEndsTo (nodes : List PlacedNode) (n : PlacedNode) (calls : ℕ) (ends : List ℕ) : Type 0 where
  pub count : length ends ≡ calls + 1
  pub each : (j : ℕ) → j ≤ calls → slice_index ends j ≡ capped (end_of nodes n j)

-- those of the first nodes
pub record AreAllEnds (nodes : List PlacedNode) (upto : ℕ) (rows : List (List ℕ)) : Type 0 where
  pub count : length rows ≡ upto
  pub each : (i : ℕ) (n : PlacedNode) (ends : List ℕ) → slice_get nodes i ≡ Some n → slice_get rows i ≡ Some ends → AreEndsTo nodes n (length n.calls) ends
