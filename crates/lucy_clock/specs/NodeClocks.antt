-- The clocks of the nodes of a program, as the crates above hand them on.
use Rattle.std.specs.Prelude.{ℕ, ◌≡◌, List, [], ◌∷◌, Some, length, map, take, drop, slice_get}
use Rattle.lucy_word.specs.Adaptable.{IsSize}
use Rattle.lucy_place.specs.declared.entry.PlaceKind.TheVariants.{Buffer}
use Rattle.lucy_place.specs.declared.placed.PlacedNode.{PlacedNode}
use Rattle.lucy_place.specs.Standing.{Stands}
use Rattle.lucy_need.specs.Meeting.{assigned}
use Rattle.lucy_clock.specs.declared.signature.Signature.{Signature}
use Rattle.lucy_clock.specs.declared.node_clock.NodeClock.{NodeClock}

-- what the callers of a node need of its clocks: the words of its parameters, which are its first places, and of its results
abbrev pub ports : PlacedNode → NodeClock → Signature
ports n c = record { params = take n.params (drop 1 c.words); results = map (assigned c.words) n.results }

-- of each of the nodes
abbrev pub signatures : List PlacedNode → List NodeClock → List Signature
signatures [] cs = []
signatures (n ∷ ns) [] = []
signatures (n ∷ ns) (c ∷ cs) = ports n c ∷ signatures ns cs

-- each buffer has its size: the greatest number of items that wait in it
pub record AreSizes (n : PlacedNode) (c : NodeClock) : Type 0 where
  pub count : length c.sizes ≡ length n.buffers
  pub each : (i p k e size : ℕ) → slice_get n.buffers i ≡ Some p → slice_get c.sizes i ≡ Some size → Stands n p (Buffer k e) →
      IsSize (assigned c.words e) (assigned c.words p) size
