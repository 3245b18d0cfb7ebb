-- What the parts of a chronogram ask of the clocks of a node.
use Rattle.std.specs.Prelude.{ℕ, ◌+◌, ◌<◌, ◌≡◌, ◌≢◌, List, Option, Some, None, length, slice_index}
use Rattle.lucy_word.specs.Adaptable.{Precedes}
use Rattle.lucy_place.specs.declared.entry.PlaceKind.TheVariants.{Buffer}
use Rattle.lucy_place.specs.declared.placed.PlacedNode.{PlacedNode}
use Rattle.lucy_place.specs.Standing.{Stands}
use Rattle.lucy_need.specs.Meeting.{assigned}
use Rattle.lucy_clock.specs.declared.node_clock.NodeClock.{NodeClock}
use Rattle.lucy_clock.specs.Clocks.{clocks_of}
use Rattle.lucy_clock.specs.NodeClocks.{AreSizes}

-- each clock has a word, each buffer its size, and nothing is read from a buffer before it is written
pub record IsDrawn (n : PlacedNode) (c : NodeClock) : Type 0 where
  pub words : length c.words ≡ clocks_of n
  pub sizes : AreSizes n c
  pub precedes : (p k e : ℕ) → Stands n p (Buffer k e) → Precedes (assigned c.words e) (assigned c.words p)

-- one more than the first place in a list at which this number stands, where it stands there
abbrev pub IsFirstWith : List ℕ → (number : ℕ) → Option ℕ → Type 0
IsFirstWith list number None = (k : ℕ) → k < length list → slice_index list k ≢ number
IsFirstWith list number (Some at) =
    (k : ℕ) × (at ≡ k + 1) × (k < length list) × (slice_index list k ≡ number) × ((j : ℕ) → j < k → slice_index list j ≢ number)
