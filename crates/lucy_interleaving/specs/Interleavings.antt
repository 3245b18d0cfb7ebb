-- What holds of an accepted program's net whatever events happen. Rings, actors and results count from 0, places and buffers from 1.
use Rattle.std.specs.Prelude.{ℕ, ◌+◌, ◌-◌, ◌*◌, ◌<◌, ◌≤◌, ◌≡◌, List, [], length, ℤ, Some, slice_get, slice_index_or}
use Rattle.lucy_host.specs.declared.kind.HostKind.{HostKind}
use Rattle.lucy_host.specs.Operators.{Operator, kinds_of}
use Rattle.lucy_stream.specs.Fronts.{IsFront}
use Rattle.lucy_stream.specs.Runs.{none_done, IsPossible, IsRun, IsFinished}
use Rattle.lucy_stream.specs.States.{Machine, State, start, held, events, IsState}
use Rattle.lucy_place.specs.declared.entry.PlaceKind.TheVariants.{Buffer}
use Rattle.lucy_net.specs.Plans.{giver, taker, net_system}
use Rattle.lucy_core.specs.Seen.{machine_on}
use Rattle.lucy_kahn.specs.Spots.{Spot, at, main_of, kind_at, results_in, IsSpot}
use Rattle.lucy_kahn.specs.Sizes.{all_places}
use Rattle.lucy_kahn.specs.Numbers.{number}
use Rattle.lucy_kahn.specs.Kahn.{kahn}
use Rattle.lucy_kahn.specs.Horizons.{Suffice}
use Rattle.lucy_flat.specs.Instances.{index_at, sizes_in}
use Rattle.lucy_results.specs.Streams.{param_words}
use Rattle.lucy_program.specs.declared.accepted.Accepted.{Accepted}
use Rattle.lucy_program.specs.declared.options.Options.{Options}
use Rattle.lucy_program.specs.Accepting.{IsAccepted}

-- the actors of the program's net up to a horizon, with what each gives, on a host's operators of these kinds and these inputs
abbrev pub machine_for : List HostKind → Accepted → (inputs : List (List ℤ)) → (horizon : ℕ) → Machine
machine_for kinds a inputs horizon = machine_on a.net inputs kinds horizon

-- the instance place is the buffer of this number of its node
abbrev pub IsBuffer : Accepted → Spot → (buffer : ℕ) → Type 0
IsBuffer a spot buffer = (operand : ℕ) × (kind_at a.placed.nodes spot ≡ Some (Buffer buffer operand))

-- the size that the report prints for the buffer of this number in the node of the instance place
abbrev pub reported_size : Accepted → Spot → (buffer : ℕ) → ℕ
reported_size a spot buffer = slice_index_or (sizes_in (slice_get a.clocks.items (index_at a.placed.nodes spot.path))) (buffer - 1) 0

-- the instance place's list in the iterate K(T * A), for T instants and A instance places (Kahn 1974)
abbrev pub stream_for : List HostKind → Accepted → (inputs : List (List ℤ)) → (horizon : ℕ) → Spot → List ℤ
stream_for kinds a inputs horizon spot = kahn kinds inputs a.placed.nodes (horizon * all_places a.placed.nodes) spot

-- in this state each ring holds at most its buffer's printed size and one more, and one where no buffer takes from it; what the
-- actor of a place gave, and what an output took, is a front of the place's list; and some event is possible unless all is done
pub record IsSafe (kinds : List HostKind) (a : Accepted) (inputs : List (List ℤ)) (horizon : ℕ) (s : State) : Type 0 where
  pub buffers : (spot : Spot) (buffer r : ℕ) → IsBuffer a spot buffer → r < length a.net.rings → taker a.net r ≡ number a.placed.nodes spot →
      length (held s r) ≤ reported_size a spot buffer + 1
  pub others : (r : ℕ) → ((spot : Spot) (buffer : ℕ) → IsBuffer a spot buffer → taker a.net r ≡ number a.placed.nodes spot → ⊥) →
      length (held s r) ≤ 1
  pub places : (spot : Spot) (r : ℕ) → IsSpot a.placed.nodes spot → giver a.net r ≡ number a.placed.nodes spot →
      IsFront (s.gave r) (stream_for kinds a inputs horizon spot)
  pub results : (i place r : ℕ) → slice_get (results_in (main_of a.placed.nodes)) i ≡ Some place →
      r < length a.net.rings → taker a.net r ≡ all_places a.placed.nodes + i →
      IsFront (s.took r) (stream_for kinds a inputs horizon (at [] place))
  pub goes_on : (IsFinished (net_system a.net horizon) s.done → ⊥) → (actor : ℕ) × IsPossible (net_system a.net horizon) s.done actor

-- inputs that suffice for a horizon of a text that is accepted as this program
pub record IsFedText (ops : List Operator) (o : Options) (text : List ℕ) (a : Accepted) (inputs : List (List ℤ)) (horizon : ℕ) : Type 0 where
  pub accepted : IsAccepted ops o text a
  pub suffice : Suffice (param_words a.placed.nodes a.clocks.items) inputs horizon

-- every run of the net's events leads to such a state
abbrev pub RunsAreSafe : Type 0
RunsAreSafe = (ops : List Operator) (o : Options) (text : List ℕ) (a : Accepted) (inputs : List (List ℤ)) (horizon : ℕ) (picks : List ℕ) →
    IsFedText ops o text a inputs horizon → IsRun (net_system a.net horizon) none_done picks →
    IsSafe (kinds_of ops) a inputs horizon (events (machine_for (kinds_of ops) a inputs horizon) start picks)

-- and every state of the net is one
abbrev pub StatesAreSafe : Type 0
StatesAreSafe = (ops : List Operator) (o : Options) (text : List ℕ) (a : Accepted) (inputs : List (List ℤ)) (horizon : ℕ) (s : State) →
    IsFedText ops o text a inputs horizon → IsState (machine_for (kinds_of ops) a inputs horizon) s → IsSafe (kinds_of ops) a inputs horizon s
