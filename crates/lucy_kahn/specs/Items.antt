-- Which items of a program depend on which, with its calls written out, and which programs are causal.
use Rattle.std.specs.Prelude.{ℕ, ◌<◌, ◌≤◌, ◌≡◌, List, [], ◌∷◌, slice_get, Some}
use Rattle.lucy_stream.specs.Forms.{operands}
use Rattle.lucy_stream.specs.Needs.{IsNeed}
use Rattle.lucy_place.specs.declared.placed.PlacedNode.{PlacedNode}
use Rattle.lucy_kahn.specs.Spots.{Spot, IsSpot, form_at, reads_at}

-- an item: its instance place, and its number in the place's stream. The items of a stream count from 1.
pub record SpotItem : Type 0 where
  pub spot : Spot
  pub number : ℕ

-- the one item depends on the other, by some operand of its instance place
pub record DependsOn (nodes : List PlacedNode) (x y : SpotItem) : Type 0 where
  pub there : IsSpot nodes x.spot
  pub operand : ℕ
  pub within : operand < operands (form_at nodes x.spot)
  pub reads : slice_get (reads_at nodes x.spot) operand ≡ Some y.spot
  pub counted : 1 ≤ y.number
  pub need : IsNeed (form_at nodes x.spot) x.number operand y.number

-- each item of the walk depends on the next one, and the last one on `end`
abbrev pub IsSpotWalk : List PlacedNode → SpotItem → List SpotItem → SpotItem → Type 0
IsSpotWalk nodes x [] end = DependsOn nodes x end
IsSpotWalk nodes x (y ∷ walk) end = DependsOn nodes x y × IsSpotWalk nodes y walk end

-- no item reaches itself
abbrev pub IsCausalProgram : List PlacedNode → Type 0
IsCausalProgram nodes = (x : SpotItem) (walk : List SpotItem) → 1 ≤ x.number → IsSpotWalk nodes x walk x → ⊥
