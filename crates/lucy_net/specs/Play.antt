-- An instant that is played event by event.
use Rattle.std.specs.Prelude.{ℕ, ◌+◌, ◌-◌, ◌<◌, ◌≤◌, ◌≡◌, List, length, slice_get, slice_set, slice_index, Option, Some, None}
use Rattle.lucy_word.specs.Bits.{ones_to}
use Rattle.lucy_word.specs.Limits.{limit_number}
use Rattle.lucy_word.specs.declared.limit.Limit.TheVariants as limit
use Rattle.lucy_stream.specs.Systems.{RingOp, Takes, Gives, given, taken}
use Rattle.lucy_stream.specs.Runs.{IsRun, after}
use Rattle.lucy_net.specs.declared.net.RingSpec.{RingSpec}
use Rattle.lucy_net.specs.declared.net.Net.{Net}
use Rattle.lucy_net.specs.Plans.{net_system, done_by}
use Rattle.lucy_net.specs.declared.advance.Event.{Event}
use Rattle.lucy_net.specs.declared.advance.Event.TheVariants.{Took, Gave, Waits, Over}
use Rattle.lucy_net.specs.Instants.{slot}

-- an operation was done, and the ring then holds so many items
pub record IsMoved (step new_step : ℕ) (held new_held : List ℕ) (r items : ℕ) : Type 0 where
  pub stepped : new_step ≡ step + 1
  pub now : new_held ≡ slice_set held r items

-- nothing was done
pub record IsStill (step new_step : ℕ) (held new_held : List ℕ) : Type 0 where
  pub stepped : new_step ≡ step
  pub now : new_held ≡ held

-- what became of the operation that was next, and of the counts
abbrev pub Becomes : Option RingOp → ℕ → ℕ → List ℕ → List ℕ → Event → Type 0
Becomes next step new_step held new_held Took =
    (r : ℕ) × (next ≡ Some (Takes r)) × (0 < slice_index held r) × IsMoved step new_step held new_held r (slice_index held r - 1)
Becomes next step new_step held new_held (Gave r) = (next ≡ Some (Gives r)) × IsMoved step new_step held new_held r (slice_index held r + 1)
Becomes next step new_step held new_held (Waits r) = (next ≡ Some (Takes r)) × (slice_index held r ≡ 0) × IsStill step new_step held new_held
Becomes next step new_step held new_held Over = (next ≡ None) × IsStill step new_step held new_held

-- an operation is on a ring that is there, with room for a count more
pub record IsWithinRings (next : Option RingOp) (held : List ℕ) : Type 0 where
  pub takes : (r : ℕ) → next ≡ Some (Takes r) → r < length held
  pub gives : (r : ℕ) → next ≡ Some (Gives r) → r < length held
  pub room : (r : ℕ) → slice_index held r ≤ limit_number limit.Slots + 1

-- how many operations each actor has done after these events of the instant
abbrev pub done_in : Net → ℕ → List ℕ → ℕ → ℕ
done_in net before events = after (done_by net before) events

-- the events of the instant are a run so far; each actor has done so many operations in it, and each ring holds so many items
pub record IsPlayedSoFar (net : Net) (before : ℕ) (events steps held : List ℕ) : Type 0 where
  pub actors : length steps ≡ length net.actors
  pub rings : length held ≡ length net.rings
  pub run : IsRun (net_system net (before + 1)) (done_by net before) events
  pub steps_are : (a : ℕ) → done_in net before events a ≡ done_by net before a + slice_index steps a
  pub within : (a : ℕ) → slice_index steps a ≤ length (slot net before a)
  pub held_are : (r : ℕ) → r < length net.rings →
      given (net_system net (before + 1)) (done_in net before events) r ≡ taken (net_system net (before + 1)) (done_in net before events) r + slice_index held r

-- nothing is done yet in the instant, and each ring holds what its words say
pub record CanBeginInstant (net : Net) (before : ℕ) (steps held depth : List ℕ) : Type 0 where
  pub actors : length steps ≡ length net.actors
  pub rings : length held ≡ length net.rings
  pub depths : length depth ≡ length net.actors
  pub unmoved : (a : ℕ) → slice_index steps a ≡ 0
  pub unmarked : (a : ℕ) → slice_index depth a ≡ 0
  pub held_are : (r : ℕ) (ring : RingSpec) → slice_get net.rings r ≡ Some ring → ones_to ring.write before ≡ ones_to ring.read before + slice_index held r
