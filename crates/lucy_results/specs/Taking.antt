-- What the outputs of a flat net took.
use Rattle.std.specs.Prelude.{ℕ, ℤ, ◌<◌, ◌≡◌, List, All, length, map, drop}
use Rattle.lucy_host.specs.Operators.{Operator, kinds_of}
use Rattle.lucy_place.specs.declared.placed.PlacedNode.{PlacedNode}
use Rattle.lucy_place.specs.Proper.{AreProper}
use Rattle.lucy_clock.specs.declared.node_clock.NodeClock.{NodeClock}
use Rattle.lucy_stream.specs.Runs.{none_done, after, IsWhole}
use Rattle.lucy_stream.specs.States.{State, start, events}
use Rattle.lucy_net.specs.declared.net.Actor.{Actor}
use Rattle.lucy_net.specs.declared.net.Net.{Net}
use Rattle.lucy_net.specs.Plans.{net_system}
use Rattle.lucy_net.specs.Schedules.{Timetable}
use Rattle.lucy_core.specs.Seen.{Seen, CanRun, CanMakeCore, IsOver, after_picks, done_of, first_ring, first_seen, machine_of}
use Rattle.lucy_kahn.specs.Sizes.{all_places}
use Rattle.lucy_flat.specs.Flat.{IsFlat}
use Rattle.lucy_results.specs.Streams.{main_streams, taken_of}

-- the lists that the outputs took in a state, one for each result of main: their actors stand behind those of all instance places
abbrev pub taken_lists : List PlacedNode → Net → State → List (List ℤ)
taken_lists nodes net s = map (λ (actor : Actor). s.took (first_ring actor)) (drop (all_places nodes) net.actors)

-- these events, of actors alone, lead a core without an event so far to its end, and its outputs then took the output streams
pub record LeadToStreams (nodes : List PlacedNode) (clocks : List NodeClock) (first : Seen) (picks : List ℕ) : Type 0 where
  pub actors : All (λ a. a < length first.net.actors) picks
  pub run : CanRun first picks
  pub over : IsOver (after_picks first picks)
  pub taken : taken_lists nodes first.net (events (machine_of first) start picks)
      ≡ main_streams (kinds_of first.operators) first.inputs nodes clocks first.instants

-- so do all events of a program's flat net up to a horizon, in whatever order they are possible
abbrev pub WholeRunsLeadToStreams : Type 0
WholeRunsLeadToStreams = (nodes : List PlacedNode) (clocks : List NodeClock) (net : Net) (schedule : Timetable) (inputs : List (List ℤ)) (operators : List Operator) (instants : ℕ)
    (picks : List ℕ) → AreProper nodes → IsFlat nodes clocks net → CanMakeCore net schedule inputs operators instants → IsWhole (net_system net instants) picks →
    LeadToStreams nodes clocks (first_seen net schedule inputs operators instants) picks

-- these events lead a core without an event so far to these counts, and of each output stream its output then took a front of as many
-- items as it has done operations
pub record LeadAlongStreams (nodes : List PlacedNode) (clocks : List NodeClock) (first : Seen) (picks : List ℕ) : Type 0 where
  pub counts : (a : ℕ) → done_of (after_picks first picks).done a ≡ after none_done picks a
  pub taken : taken_lists nodes first.net (events (machine_of first) start picks)
      ≡ taken_of (all_places nodes) (after none_done picks) (main_streams (kinds_of first.operators) first.inputs nodes clocks first.instants)

-- so do all events of a program's flat net up to a horizon that are a run
abbrev pub RunsLeadAlongStreams : Type 0
RunsLeadAlongStreams = (nodes : List PlacedNode) (clocks : List NodeClock) (net : Net) (schedule : Timetable) (inputs : List (List ℤ)) (operators : List Operator)
    (instants : ℕ) (picks : List ℕ) → AreProper nodes → IsFlat nodes clocks net → CanMakeCore net schedule inputs operators instants →
    CanRun (first_seen net schedule inputs operators instants) picks → LeadAlongStreams nodes clocks (first_seen net schedule inputs operators instants) picks
