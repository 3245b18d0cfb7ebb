-- The clocks of the nodes of a program, one for each clock of a node.
use Rattle.std.specs.Prelude.{ℕ, ◌≤◌, ◌≡◌, ◌⊎◌, List, Some, length, take, slice_get}
use Rattle.lucy_word.specs.Bits.{Bits}
use Rattle.lucy_word.specs.Limits.{limit_number}
use Rattle.lucy_word.specs.declared.limit.Limit.TheVariants as limit
use Rattle.lucy_place.specs.declared.placed.PlacedNode.{PlacedNode}
use Rattle.lucy_place.specs.WrittenNodes.{IsWritten}
use Rattle.lucy_need.specs.Meeting.{assigned, all_bits, most_needs}
use Rattle.lucy_clock.specs.declared.signature.Signature.{Signature}
use Rattle.lucy_clock.specs.declared.node_clock.NodeClock.{NodeClock}
use Rattle.lucy_clock.specs.Clocks.{clocks_of}
use Rattle.lucy_clock.specs.NodeClocks.{signatures, AreSizes}
use Rattle.lucy_clock.specs.WellClocked.{IsWellClocked}
use Rattle.lucy_clock.specs.Listing.{needs_of}
use Rattle.lucy_clock.specs.HandedDown.{AreWordsOf, IsWordTooLong, word_bits}
use Rattle.lucy_check.specs.Passing.{AllWithinLimits}
use Rattle.lucy_program.specs.declared.options.Options.{Options}
use Rattle.lucy_program.specs.Inferring.{IsInferred}

-- the needs of a node pass no limit
pub record AreFewNeeds (above : List Signature) (n : PlacedNode) : Type 0 where
  pub count : length (needs_of above n) ≤ most_needs
  pub bits : all_bits (needs_of above n) ≤ limit_number limit.Bits

-- the words of a written node, within the limits
pub record AreNodeWords (n : PlacedNode) (words : List Bits) : Type 0 where
  pub of : AreWordsOf n words
  pub fit : IsWordTooLong n → ⊥
  pub bits : word_bits words ≤ limit_number limit.Bits

-- the clocks of a node, within all limits: by these words it is well clocked
pub record IsClocked (o : Options) (above : List Signature) (n : PlacedNode) (c : NodeClock) : Type 0 where
  pub needs : AreFewNeeds above n
  pub its : (IsWritten n × AreNodeWords n c.words) ⊎ IsInferred o above n c
  pub count : length c.words ≡ clocks_of n
  pub well : IsWellClocked above n (assigned c.words)
  pub within : AllWithinLimits (assigned c.words) (needs_of above n)
  pub sizes : AreSizes n c

-- the clocks of nodes, each by the clocks of those above
pub record AreClocksOf (o : Options) (nodes : List PlacedNode) (clocks : List NodeClock) : Type 0 where
  pub all : length clocks ≡ length nodes
  pub each : (i : ℕ) (n : PlacedNode) (c : NodeClock) → slice_get nodes i ≡ Some n → slice_get clocks i ≡ Some c →
      IsClocked o (signatures (take i nodes) (take i clocks)) n c
