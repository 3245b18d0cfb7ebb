-- The clocks of a node that isn't written, with the options that say how they are inferred.
use Rattle.std.specs.Prelude.{ℕ, ◌<◌, ◌≤◌, ◌≡◌, false, List}
use Rattle.lucy_place.specs.declared.placed.PlacedNode.{PlacedNode}
use Rattle.lucy_place.specs.WrittenNodes.{IsWritten}
use Rattle.lucy_need.specs.declared.need.Needs.{Needs}
use Rattle.lucy_need.specs.Meeting.{Assignment, assigned}
use Rattle.lucy_clock.specs.declared.signature.Signature.{Signature}
use Rattle.lucy_clock.specs.declared.node_clock.NodeClock.{NodeClock}
use Rattle.lucy_clock.specs.Clocks.{clocks_of}
use Rattle.lucy_clock.specs.Listing.{needs_of}
use Rattle.lucy_clock.specs.WellClocked.{IsWellClocked}
use Rattle.lucy_shape.specs.Index.{index_of}
use Rattle.lucy_shape.specs.Fitting.{FitsShape}
use Rattle.lucy_inference.specs.Inference.{IsInference}
use Rattle.lucy_program.specs.declared.options.Options.{Options}

-- a scale and a lead are numbers from 1 to this one
abbrev pub most_scale : ℕ
most_scale = 64

-- options with such a scale and such a lead
pub record AreOptions (o : Options) : Type 0 where
  pub scale : 1 ≤ o.scale
  pub scale_few : o.scale ≤ most_scale
  pub lead : 1 ≤ o.lead
  pub lead_few : o.lead ≤ most_scale

-- the needs of a node, between its clocks
abbrev pub node_needs : List Signature → PlacedNode → Needs
node_needs above n = record { clocks = clocks_of n; list = needs_of above n }

-- the clocks of the node are inferred: it isn't written, and needn't be
abbrev pub IsOpen : Options → PlacedNode → Type 0
IsOpen o n = (o.written_only ≡ false) × (IsWritten n → ⊥)

-- they are inferred from its needs with the scale and the lead of the options: of the assignments by which it is well clocked
-- and which fit the shape of its needs, they are the earliest, for no other one has any one of any clock earlier. the needs have
-- sizes, of which those of the buffers are some
pub record IsInferred (o : Options) (above : List Signature) (n : PlacedNode) (c : NodeClock) : Type 0 where
  pub is_open : IsOpen o n
  pub sizes : List ℕ
  pub inferred : IsInference (node_needs above n) o.scale o.lead c.words sizes
  pub fits : FitsShape (assigned c.words) inferred.shape
  pub earliest : (other : Assignment) → IsWellClocked above n other → FitsShape other inferred.shape →
      (clock number : ℕ) → clock < clocks_of n → index_of (assigned c.words clock) number ≤ index_of (other clock) number
