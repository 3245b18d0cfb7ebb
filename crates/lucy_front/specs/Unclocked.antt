-- Why a node of a program has no clocks.
use Rattle.std.specs.Prelude.{ℕ, ◌≡◌, true, List, ◌⊎◌, Some, take, slice_get}
use Rattle.lucy_place.specs.declared.placed.PlacedNode.{PlacedNode}
use Rattle.lucy_place.specs.WrittenNodes.{IsWritten}
use Rattle.lucy_need.specs.declared.need.Needs.{Needs}
use Rattle.lucy_need.specs.Meeting.{assigned}
use Rattle.lucy_clock.specs.declared.signature.Signature.{Signature}
use Rattle.lucy_clock.specs.declared.node_clock.NodeClock.{NodeClock}
use Rattle.lucy_clock.specs.Listing.{needs_of, RefusesNeeds}
use Rattle.lucy_inference.specs.declared.refusal.Uninferred.{Uninferred}
use Rattle.lucy_inference.specs.Refusals.{RefusesInference}
use Rattle.lucy_program.specs.declared.options.Options.{Options}
use Rattle.lucy_word.specs.Bits.{Bits}
use Rattle.lucy_word.specs.declared.limit.Limit.{Limit}
use Rattle.lucy_place.specs.PlacedProgram.{PlacedProgram}
use Rattle.lucy_clock.specs.declared.error.ClockError.TheVariants as error
use Rattle.lucy_clock.specs.NodeClocks.{signatures}
use Rattle.lucy_clock.specs.HandedDown.{RefusesWords}
use Rattle.lucy_check.specs.declared.fault.CheckFault.{CheckFault}
use Rattle.lucy_check.specs.declared.fault.CheckFault.TheVariants as fault
use Rattle.lucy_check.specs.Passing.{IsFirstRefusal}
use Rattle.lucy_inference.specs.declared.refusal.Uninferred.TheVariants as uninferred
use Rattle.lucy_front.specs.declared.fault.NodeFault.{NodeFault}
use Rattle.lucy_front.specs.declared.fault.NodeFault.TheVariants.{NotWritten, Rates, Clocks, Check}
use Rattle.lucy_program.specs.Inferring.{node_needs, IsOpen}
use Rattle.lucy_program.specs.Clocked.{AreFewNeeds, AreNodeWords, AreClocksOf}

-- the node has to be written, and isn't
abbrev pub IsShut : Options → PlacedNode → Type 0
IsShut o n = (o.written_only ≡ true) × (IsWritten n → ⊥)

-- the clocks of a node would be inferred, and there are none, for this reason
abbrev pub IsUninferred : Options → List Signature → PlacedNode → Uninferred → Type 0
IsUninferred o above n e = IsOpen o n × RefusesInference (node_needs above n) o.scale o.lead e

-- a node is written, and this is what the checker first refuses of the words that it hands down
abbrev pub FailsCheck : List Signature → PlacedNode → CheckFault → Type 0
FailsCheck above n e = IsWritten n × (words : List Bits) × AreNodeWords n words × IsFirstRefusal (assigned words) (needs_of above n) e

-- the limit that a node passes, unless it has to be written and isn't: one of its needs, else one of the words that it hands down,
-- of the checker or of inference
abbrev pub PassesNodeLimit : Options → List Signature → PlacedNode → Limit → Type 0
PassesNodeLimit o above n l =
    ((IsShut o n → ⊥) × RefusesNeeds (needs_of above n) (error.Limit l))
    ⊎ (AreFewNeeds above n × ((IsWritten n × RefusesWords n (error.Limit l))
    ⊎ ((need : ℕ) × FailsCheck above n (fault.Limit need l)) ⊎ IsUninferred o above n (uninferred.Limit l)))

-- these are the needs of the node, and they pass no limit
abbrev pub AreItsNeeds : List Signature → PlacedNode → Needs → Type 0
AreItsNeeds above n needs = (needs ≡ node_needs above n) × AreFewNeeds above n

-- why a node of a program is refused: it has to be written and isn't, as this span of its text shows, or its needs are these, and no
-- clocks that meet them are inferred, or handed down
abbrev pub RefusesNode : Options → PlacedProgram → (node : ℕ) → NodeFault → List Signature → PlacedNode → Type 0
RefusesNode o placed node (NotWritten span) above n = (slice_get placed.unwritten node ≡ Some (Some span)) × IsShut o n
RefusesNode o placed node (Rates needs walk) above n = AreItsNeeds above n needs × IsUninferred o above n (uninferred.Rates walk)
RefusesNode o placed node (Clocks needs shape diffs cycle) above n =
    AreItsNeeds above n needs × IsUninferred o above n (uninferred.Clocks shape diffs cycle)
RefusesNode o placed node (Check needs (fault.Limit need l)) above n = ⊥
RefusesNode o placed node (Check needs fault.OutOfMemory) above n = ⊥
RefusesNode o placed node (Check needs e) above n = AreItsNeeds above n needs × FailsCheck above n e

-- this node is refused so, and those above it have clocks
pub record IsUnclocked (o : Options) (nodes : List PlacedNode) (node : ℕ) (Refuses : List Signature → PlacedNode → Type 0) : Type 0 where
  pub clocks : List NodeClock
  pub above : AreClocksOf o (take node nodes) clocks
  pub n : PlacedNode
  pub stands : slice_get nodes node ≡ Some n
  pub refused : Refuses (signatures (take node nodes) clocks) n
