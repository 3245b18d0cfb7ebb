-- How a core keeps its state.
use Rattle.std.specs.Prelude.{ℕ, ◌+◌, ◌<◌, ◌≤◌, ◌≡◌, ℤ, List, [], ◌∷◌, ◌++◌, map, length, nat_lt, replicate, slice_get, slice_set, slice_index_or, sum_by, if◌then◌else◌, Some}
use Rattle.lucy_word.specs.Bits.{ones_to}
use Rattle.lucy_stream.specs.Forms.{operands}
use Rattle.lucy_stream.specs.Runs.{IsWithin, first_left}
use Rattle.lucy_stream.specs.States.{Machine, held}
use Rattle.lucy_net.specs.declared.kind.ActorKind.{ActorKind}
use Rattle.lucy_net.specs.declared.kind.ActorKind.TheVariants.{Output}
use Rattle.lucy_net.specs.declared.net.Actor.{Actor}
use Rattle.lucy_net.specs.declared.net.RingSpec.{RingSpec}
use Rattle.lucy_net.specs.declared.net.Net.{Net}
use Rattle.lucy_net.specs.declared.state.ActorState.{ActorState}
use Rattle.lucy_net.specs.Plans.{form_of}
use Rattle.lucy_net.specs.States.{IsActorState}
use Rattle.lucy_net.specs.Schedules.{Timetable}
use Rattle.lucy_core.specs.declared.making.Beginning.{Beginning}
use Rattle.lucy_core.specs.Circles.{HeldItems}
use Rattle.lucy_core.specs.Cursors.{StandsInOrder}
use Rattle.lucy_core.specs.Seen.{done_of, order_on, state_on, first_ring}

-- 1 where an actor has a firing left, else 0
abbrev pub left_in : ActorState → ℕ
left_in s = if nat_lt s.fired s.quota then 1 else 0

-- how many actors have one
abbrev pub going_in : List ActorState → ℕ
going_in states = sum_by left_in states

-- what isn't there
abbrev pub no_held : HeldItems
no_held = record { items = []; room = 0 }

-- an output's item is put into its tray
abbrev pub put_out : ActorKind → List HeldItems → ℤ → List HeldItems
put_out (Output output) trays value = slice_set trays output (record { items = (slice_index_or trays output no_held).items ++ value ∷ []; room = (slice_index_or trays output no_held).room })
put_out kind trays value = trays

-- the tray of this number has these items, and room for so many
pub record HasTray (trays : List HeldItems) (number : ℕ) (items : List ℤ) (most : ℕ) : Type 0 where
  pub there : number < length trays
  pub items_are : (t : HeldItems) → slice_get trays number ≡ Some t → t.items ≡ items
  pub room : (t : HeldItems) → slice_get trays number ≡ Some t → most ≤ t.room

-- the actors' states are those after their counts and what they took, and the circles and trays have what the state says
pub record KeepsState (net : Net) (m : Machine) (order : List ℕ) (instants : ℕ) (done : List ℕ) (states : List ActorState) (circles trays : List HeldItems) : Type 0 where
  pub within : IsWithin m.sys (done_of done)
  pub states_count : length states ≡ length net.actors
  pub done_count : length done ≡ length net.actors
  pub actors : (a : ℕ) (actor : Actor) (s : ActorState) → slice_get net.actors a ≡ Some actor → slice_get states a ≡ Some s →
      IsActorState actor instants (done_of done a) (map (state_on m order done).took actor.takes) s
  pub circles_count : length circles ≡ length net.rings
  pub circles_hold : (r : ℕ) (circle : HeldItems) → slice_get circles r ≡ Some circle → circle.items ≡ held (state_on m order done) r
  pub rooms : (r : ℕ) (ring : RingSpec) (circle : HeldItems) → slice_get net.rings r ≡ Some ring → slice_get circles r ≡ Some circle → circle.room ≡ ring.size + 1
  pub trays_hold : (a number : ℕ) (actor : Actor) → slice_get net.actors a ≡ Some actor → actor.kind ≡ Output number →
      HasTray trays number ((state_on m order done).took (first_ring actor)) (ones_to actor.firing instants)

-- the states of actors that have done nothing
pub record AreFirst (actors : List Actor) (instants : ℕ) (states : List ActorState) : Type 0 where
  pub count : length states ≡ length actors
  pub each : (a : ℕ) (actor : Actor) (s : ActorState) → slice_get actors a ≡ Some actor → slice_get states a ≡ Some s → IsActorState actor instants 0 (replicate (operands (form_of actor.kind)) []) s

-- empty circles with the slots of the rings
pub record AreEmpty (rings : List RingSpec) (circles : List HeldItems) : Type 0 where
  pub count : length circles ≡ length rings
  pub items : (r : ℕ) (circle : HeldItems) → slice_get circles r ≡ Some circle → circle.items ≡ []
  pub rooms : (r : ℕ) (ring : RingSpec) (circle : HeldItems) → slice_get rings r ≡ Some ring → slice_get circles r ≡ Some circle → circle.room ≡ ring.size + 1

-- an empty tray for each output among the first actors
abbrev pub HaveTrays : List Actor → ℕ → ℕ → List HeldItems → Type 0
HaveTrays actors instants count trays = (a number : ℕ) (actor : Actor) → a < count → slice_get actors a ≡ Some actor → actor.kind ≡ Output number → HasTray trays number [] (ones_to actor.firing instants)

-- an empty tray with so much room, where the actor is an output
abbrev pub with_tray : ActorKind → ℕ → List HeldItems → List HeldItems
with_tray (Output output) room trays = slice_set trays output (record { items = []; room = room })
with_tray kind room trays = trays

-- what is kept where nothing is done
pub record HasBegun (net : Net) (schedule : Timetable) (instants : ℕ) (b : Beginning) : Type 0 where
  pub states : AreFirst net.actors instants b.states.items
  pub done : b.done.items ≡ replicate (length net.actors) 0
  pub going : b.going ≡ going_in b.states.items
  pub circles : AreEmpty net.rings b.circles.items
  pub trays : HaveTrays net.actors instants (length net.actors) b.trays.items
  pub within : StandsInOrder schedule instants b.done.items b.cursor
  pub next : b.cursor.next ≡ first_left (done_of b.done.items) (order_on schedule instants)
