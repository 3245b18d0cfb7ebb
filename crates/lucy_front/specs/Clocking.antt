-- Why a node has no clocks, as it is told: a fault of it, or a limit or want of memory, of which the node isn't told.
use Rattle.std.specs.Prelude.{ℕ, ◌⊎◌, List}
use Rattle.lucy_place.specs.declared.placed.PlacedNode.{PlacedNode}
use Rattle.lucy_place.specs.PlacedProgram.{PlacedProgram}
use Rattle.lucy_place.specs.WrittenNodes.{IsWritten}
use Rattle.lucy_clock.specs.declared.node_clock.NodeClock.{NodeClock}
use Rattle.lucy_clock.specs.declared.signature.Signature.{Signature}
use Rattle.lucy_clock.specs.declared.error.ClockError.{ClockError}
use Rattle.lucy_clock.specs.declared.error.ClockError.TheVariants as error
use Rattle.lucy_need.specs.declared.need.Needs.{Needs}
use Rattle.lucy_check.specs.declared.fault.CheckFault.{CheckFault}
use Rattle.lucy_check.specs.declared.fault.CheckFault.TheVariants as fault
use Rattle.lucy_inference.specs.declared.refusal.Uninferred.{Uninferred}
use Rattle.lucy_inference.specs.declared.refusal.Uninferred.TheVariants as uninferred
use Rattle.lucy_program.specs.declared.options.Options.{Options}
use Rattle.lucy_front.specs.declared.fault.NodeFault.TheVariants.{Rates, Clocks, Check}
use Rattle.lucy_front.specs.declared.fault.NoClocks.{NoClocks}
use Rattle.lucy_front.specs.declared.fault.NoClocks.TheVariants.{Fault, Limit, OutOfMemory}
use Rattle.lucy_front.specs.declared.fault.Unclocked.{Unclocked}
use Rattle.lucy_front.specs.declared.refusal.Refusal.{Refusal}
use Rattle.lucy_front.specs.declared.refusal.Refusal.TheVariants as refusal
use Rattle.lucy_program.specs.Inferring.{IsInferred}
use Rattle.lucy_program.specs.Clocked.{AreNodeWords}
use Rattle.lucy_front.specs.Unclocked.{PassesNodeLimit, RefusesNode, IsUnclocked}

-- where a node has no needs, or no words, for this reason
abbrev pub clock_fault : ClockError → NoClocks
clock_fault (error.Limit l) = Limit l
clock_fault error.OutOfMemory = OutOfMemory

-- where none are inferred
abbrev pub inference_fault : Needs → Uninferred → NoClocks
inference_fault needs (uninferred.Rates walk) = Fault (Rates needs walk)
inference_fault needs (uninferred.Clocks shape diffs cycle) = Fault (Clocks needs shape diffs cycle)
inference_fault needs (uninferred.Limit l) = Limit l
inference_fault needs uninferred.OutOfMemory = OutOfMemory

-- and where the checker refuses its words
abbrev pub check_fault : Needs → CheckFault → NoClocks
check_fault needs (fault.Limit need l) = Limit l
check_fault needs fault.OutOfMemory = OutOfMemory
check_fault needs e = Fault (Check needs e)

-- why a node with these signatures above it has no clocks
abbrev pub HasNoClocks : Options → PlacedProgram → (node : ℕ) → List Signature → PlacedNode → NoClocks → Type 0
HasNoClocks o placed node above n (Fault fault) = RefusesNode o placed node fault above n
HasNoClocks o placed node above n (Limit l) = PassesNodeLimit o above n l
HasNoClocks o placed node above n OutOfMemory = Unit {0}

-- the first node that has no clocks
abbrev pub IsFirstUnclocked : Options → PlacedProgram → Unclocked → Type 0
IsFirstUnclocked o placed u = IsUnclocked o placed.nodes u.node (λ above n. HasNoClocks o placed u.node above n u.why)

-- the refusal of the program where a node of it has none
abbrev pub refusal_for : PlacedProgram → ℕ → NoClocks → Refusal
refusal_for placed node (Fault fault) = refusal.Node placed node fault
refusal_for placed node (Limit l) = refusal.Limit l
refusal_for placed node OutOfMemory = refusal.OutOfMemory

abbrev pub clock_refusal : PlacedProgram → Unclocked → Refusal
clock_refusal placed u = refusal_for placed u.node u.why

-- the clocks of a node: of a written one the words that it hands down, of another one those that are inferred
abbrev pub AreItsClocks : Options → List Signature → PlacedNode → NodeClock → Type 0
AreItsClocks o above n c = (IsWritten n × AreNodeWords n c.words) ⊎ IsInferred o above n c

-- the checker tells of a need that isn't met, and not of a limit
abbrev pub IsTold : CheckFault → Type 0
IsTold (fault.Limit need l) = ⊥
IsTold fault.OutOfMemory = ⊥
IsTold e = Unit {0}
