-- What a runner keeps from one call to the next: its parts and the ends of its rings are the state of its counts.
use Rattle.std.specs.Prelude.{ℕ, ◌+◌, ◌<◌, ◌≤◌, ◌≡◌, List, [], ℤ, length, take, slice_get, slice_index_or, Some}
use Rattle.lucy_word.specs.Bits.{ones_to}
use Rattle.lucy_host.specs.Operators.{kinds_of}
use Rattle.lucy_stream.specs.Runs.{IsWithin}
use Rattle.lucy_stream.specs.States.{held}
use Rattle.lucy_net.specs.declared.kind.ActorKind.{ActorKind}
use Rattle.lucy_net.specs.declared.kind.ActorKind.TheVariants.{Output}
use Rattle.lucy_net.specs.declared.net.Actor.{Actor}
use Rattle.lucy_net.specs.declared.net.RingSpec.{RingSpec}
use Rattle.lucy_core.specs.Seen.{Seen, machine_of, state_of, done_of, CanMakeCore}
use Rattle.lucy_ring.specs.Views.{GiverView, TakerView}
use Rattle.lucy_worker.specs.declared.part.Part.{Part}
use Rattle.lucy_worker.specs.Parts.{IsPartAt}
use Rattle.lucy_runner.specs.declared.place.Place.{Place}
use Rattle.lucy_runner.specs.declared.place.Ends.{Ends}
use Rattle.lucy_runner.specs.Views.{most_workers}
use Rattle.lucy_runner.specs.Crews.{part_of, AreShared, IsJoined}

-- what the actor of a part took from its first operand
abbrev pub took_first : Seen → Part → List ℤ
took_first seen p = (state_of seen).took (slice_index_or p.actor.takes 0 0)

-- of what an output took, the items of the blocks before
abbrev pub carried : Seen → ℕ → Part → List ℤ
carried seen before p = take (ones_to p.actor.firing before) (took_first seen p)

-- an output took so many items at least
abbrev pub TookAsMany : ActorKind → ℕ → ℕ → Type 0
TookAsMany (Output output) most took = most ≤ took
TookAsMany kind most took = Unit {0}

-- the part is the actor of this number, and stands in the state of the counts
pub record IsPartOf (seen : Seen) (before : ℕ) (crew : List (List Part)) (places : List Place) (a : ℕ) : Type 0 where
  pub part : Part
  pub at : part_of crew places a ≡ Some part
  pub number : part.number ≡ a
  pub stands : IsPartAt (kinds_of seen.operators) seen.inputs seen.net seen.instants (state_of seen) (carried seen before part) part
  pub took : TookAsMany part.actor.kind (ones_to part.actor.firing before) (length (took_first seen part))

-- the two ends of a ring have met: they hold what the state says, know all of it and all free slots of the ring, of which it
-- has one more than its size, and nothing was given or taken since
pub record IsHeld (seen : Seen) (r : ℕ) (ring : RingSpec) (g : GiverView) (t : TakerView) : Type 0 where
  pub given : g.given ≡ []
  pub taken : t.taken ≡ []
  pub held : t.held ≡ held (state_of seen) r
  pub known : t.known ≡ t.held
  pub slots : g.slots + length t.held ≡ ring.size + 1
  pub capacity : g.ring.capacity ≡ ring.size + 1

-- a ring has its two ends at the places where they were joined, and they have met
pub record HasEnds (seen : Seen) (crew : List (List Part)) (places : List Place) (ends : List Ends) (r : ℕ) (ring : RingSpec) : Type 0 where
  pub joined : IsJoined crew places ends r ring
  pub holds : IsHeld seen r ring joined.g joined.t

-- each part is at the place of its actor
abbrev pub AreCovered : List (List Part) → List Place → Type 0
AreCovered crew places = (s k : ℕ) (parts : List Part) (p : Part) → slice_get crew s ≡ Some parts → slice_get parts k ≡ Some p →
    slice_get places p.number ≡ Some (record { seat = s; part = k })

-- the parts and ends of a net are its state of these counts
pub record IsStanding (seen : Seen) (before : ℕ) (crew : List (List Part)) (places : List Place) (ends : List Ends) : Type 0 where
  pub fixed : CanMakeCore seen.net seen.schedule seen.inputs seen.operators seen.instants
  pub within : IsWithin (machine_of seen).sys (done_of seen.done)
  pub early : before ≤ seen.instants
  pub few : length crew ≤ most_workers
  pub placed : length places ≡ length seen.net.actors
  pub ended : length ends ≡ length seen.net.rings
  pub shared : AreShared crew (length seen.net.actors)
  pub covered : AreCovered crew places
  pub actors : (a : ℕ) → a < length seen.net.actors → IsPartOf seen before crew places a
  pub rings : (r : ℕ) (ring : RingSpec) → slice_get seen.net.rings r ≡ Some ring → HasEnds seen crew places ends r ring

-- the actor of each output
abbrev pub AreOutputs : List Actor → List ℕ → Type 0
AreOutputs actors outputs = (number a : ℕ) (actor : Actor) → slice_get actors a ≡ Some actor → actor.kind ≡ Output number → slice_get outputs number ≡ Some a
