-- What contracts see of a core, and the state of the net that it is. Actors and rings count from 0, instants from 1.
use Rattle.std.specs.Prelude.{ℕ, ◌+◌, ◌*◌, ◌<◌, ◌≤◌, ◌≡◌, ℤ, List, [], ◌∷◌, length, replicate, slice_get, slice_set, slice_index, slice_index_or, Some}
use Rattle.lucy_word.specs.Limits.{limit_number}
use Rattle.lucy_word.specs.declared.limit.Limit.TheVariants as limit
use Rattle.lucy_host.specs.declared.kind.HostKind.{HostKind}
use Rattle.lucy_host.specs.Operators.{Operator, kinds_of}
use Rattle.lucy_stream.specs.Runs.{IsPossible, IsRun, IsFinished}
use Rattle.lucy_stream.specs.States.{Machine, State}
use Rattle.lucy_stream.specs.Plans.{Plan, machine, kahn_list}
use Rattle.lucy_stream.specs.Counted.{state_at}
use Rattle.lucy_stream.specs.Schedules.{events_to}
use Rattle.lucy_net.specs.declared.kind.ActorKind.TheVariants.{Output}
use Rattle.lucy_net.specs.declared.net.Actor.{Actor}
use Rattle.lucy_net.specs.declared.net.Net.{Net}
use Rattle.lucy_net.specs.Plans.{plan}
use Rattle.lucy_net.specs.Proper.{IsProper, IsSupplied}
use Rattle.lucy_net.specs.States.{KnowsOperator}
use Rattle.lucy_net.specs.Orders.{IsSound}
use Rattle.lucy_net.specs.Schedules.{Timetable, events_at}

-- a core: the net with its schedule, the inputs' lists, the operators of the host, the horizon, and how many operations each
-- actor has done, which decide its state
pub record Seen : Type 0 where
  pub net : Net
  pub schedule : Timetable
  pub inputs : List (List ℤ)
  pub operators : List Operator
  pub instants : ℕ
  pub done : List ℕ

-- the actors up to the horizon, with their values
unfoldable pub machine_on : Net → List (List ℤ) → List HostKind → ℕ → Machine
machine_on net inputs kinds instants = machine kinds inputs (plan net instants)

-- those of a core up to its horizon, with its inputs and operators
abbrev pub machine_of : Seen → Machine
machine_of seen = machine_on seen.net seen.inputs (kinds_of seen.operators) seen.instants

-- what the actors have to do
abbrev pub plan_of : Seen → Plan
plan_of seen = plan seen.net seen.instants

-- the events of all instants up to the horizon, in the schedule's order
unfoldable pub order_on : Timetable → ℕ → List ℕ
order_on schedule instants = events_to (events_at schedule) instants

-- those of a core, up to its horizon
abbrev pub order_of : Seen → List ℕ
order_of seen = order_on seen.schedule seen.instants

-- how many operations an actor has done
unfoldable pub done_of : List ℕ → ℕ → ℕ
done_of done a = slice_index done a

-- the state in which the net is: that after the events that are done, in the schedule's order
unfoldable pub state_on : Machine → List ℕ → List ℕ → State
state_on m order done = state_at m order (done_of done)

-- the state in which a core is
abbrev pub state_of : Seen → State
state_of seen = state_on (machine_of seen) (order_of seen) seen.done

-- the counts with one operation of the actor more
abbrev pub one_more : List ℕ → ℕ → List ℕ
one_more done a = slice_set done a (slice_index done a + 1)

-- the core after the actor's event
abbrev pub stepped : Seen → ℕ → Seen
stepped seen a = record seen { done = one_more seen.done a }

-- the counts with operations of these actors more
abbrev pub more_done : List ℕ → List ℕ → List ℕ
more_done done [] = done
more_done done (a ∷ picks) = more_done (one_more done a) picks

-- the core after the events of these actors
abbrev pub after_picks : Seen → List ℕ → Seen
after_picks seen picks = record seen { done = more_done seen.done picks }

-- the actor's event is possible
abbrev pub CanStep : Seen → ℕ → Type 0
CanStep seen a = IsPossible (machine_of seen).sys (done_of seen.done) a

-- these events are a run from here on
abbrev pub CanRun : Seen → List ℕ → Type 0
CanRun seen picks = IsRun (machine_of seen).sys (done_of seen.done) picks

-- every actor has done its list
abbrev pub IsOver : Seen → Type 0
IsOver seen = IsFinished (machine_of seen).sys (done_of seen.done)

-- no actor has done more than so many operations, a number for each
abbrev pub HasDoneAtMost : Seen → (counts : List ℕ) → Type 0
HasDoneAtMost seen counts = (a : ℕ) → done_of seen.done a ≤ done_of counts a

-- an actor that has done fewer operations than its number can do the next one
pub record CanGoOn (seen : Seen) (counts : List ℕ) : Type 0 where
  pub actor : ℕ
  pub can : CanStep seen actor
  pub fewer : done_of seen.done actor < done_of counts actor

-- what a core may be made of: a proper net, a schedule that is sound for it, for each input the items that its actor gives up
-- to the horizon, and operators with the numbers that the net has
pub record CanMakeCore (net : Net) (schedule : Timetable) (inputs : List (List ℤ)) (operators : List Operator) (instants : ℕ) : Type 0 where
  pub proper : IsProper net
  pub sound : IsSound net (events_at schedule)
  pub early : instants ≤ limit_number limit.Instants
  pub supplied : IsSupplied inputs net instants
  pub known : (a : ℕ) (actor : Actor) → slice_get net.actors a ≡ Some actor → KnowsOperator actor.kind (length operators)

-- a core without an event so far
abbrev pub first_seen : Net → Timetable → List (List ℤ) → List Operator → ℕ → Seen
first_seen net schedule inputs operators instants =
    record { net = net; schedule = schedule; inputs = inputs; operators = operators; instants = instants; done = replicate (length net.actors) 0 }

-- no event is done
abbrev pub IsUnbegun : Seen → Type 0
IsUnbegun seen = (a : ℕ) → done_of seen.done a ≡ 0

-- the actor is the output of this number
pub record IsOutputOf (net : Net) (number a : ℕ) (actor : Actor) : Type 0 where
  pub there : slice_get net.actors a ≡ Some actor
  pub kind : actor.kind ≡ Output number

-- the ring from which an actor takes its first operand
abbrev pub first_ring : Actor → ℕ
first_ring actor = slice_index_or actor.takes 0 0

-- the stream of a ring's giver, as long as the horizon needs, where only the first actors give, so many of them: the list of
-- the giver in the iterate after one turn for each of them and each instant (Kahn 1974)
abbrev pub stream_of : Seen → (givers : ℕ) → (ring : ℕ) → List ℤ
stream_of seen givers ring = kahn_list (kinds_of seen.operators) seen.inputs (plan_of seen) (givers * seen.instants) ring
