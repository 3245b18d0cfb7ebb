-- The clocks that flattening wants: for each node words that keep its clock rules, and the sizes of its buffers.
use Rattle.std.specs.Prelude.{ℕ, ◌≡◌, List, length, Some, slice_get, take}
use Rattle.lucy_place.specs.declared.placed.PlacedNode.{PlacedNode}
use Rattle.lucy_need.specs.Meeting.{assigned}
use Rattle.lucy_clock.specs.declared.signature.Signature.{Signature}
use Rattle.lucy_clock.specs.declared.node_clock.NodeClock.{NodeClock}
use Rattle.lucy_clock.specs.Clocks.{clocks_of}
use Rattle.lucy_clock.specs.WellClocked.{IsWellClocked}
use Rattle.lucy_clock.specs.NodeClocks.{signatures, AreSizes}

-- a node's clocks, with those of its parameters and results in the nodes above it
pub record IsClock (above : List Signature) (n : PlacedNode) (clock : NodeClock) : Type 0 where
  pub count : length clock.words ≡ clocks_of n
  pub well : IsWellClocked above n (assigned clock.words)
  pub sizes : AreSizes n clock

-- one for each node, in order
pub record AreClocked (nodes : List PlacedNode) (clocks : List NodeClock) : Type 0 where
  pub count : length clocks ≡ length nodes
  pub each : (i : ℕ) (n : PlacedNode) (clock : NodeClock) → slice_get nodes i ≡ Some n → slice_get clocks i ≡ Some clock →
      IsClock (signatures (take i nodes) (take i clocks)) n clock
