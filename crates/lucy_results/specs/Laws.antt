-- What holds of the output streams of every program whose flat net has a sound schedule.
use Rattle.std.specs.Prelude.{ℕ, ℤ, ◌≡◌, ◌≤◌, List, [], Some, length, map, take, slice_get}
use Rattle.lucy_word.specs.Bits.{Bits, ones_to}
use Rattle.lucy_word.specs.Limits.{limit_number}
use Rattle.lucy_word.specs.declared.limit.Limit.TheVariants as limit
use Rattle.lucy_host.specs.declared.kind.HostKind.{HostKind}
use Rattle.lucy_host.specs.Operators.{Operator, kinds_of}
use Rattle.lucy_stream.specs.Fronts.{AreFronts}
use Rattle.lucy_stream.specs.Plans.{GiveBelow}
use Rattle.lucy_place.specs.declared.placed.PlacedNode.{PlacedNode}
use Rattle.lucy_place.specs.Proper.{AreProper, HaveOperators}
use Rattle.lucy_clock.specs.declared.node_clock.NodeClock.{NodeClock}
use Rattle.lucy_net.specs.declared.net.Actor.{Actor}
use Rattle.lucy_net.specs.declared.net.Net.{Net}
use Rattle.lucy_net.specs.Plans.{plan}
use Rattle.lucy_net.specs.Orders.{IsSound}
use Rattle.lucy_net.specs.Schedules.{Timetable, events_at}
use Rattle.lucy_core.specs.Seen.{Seen, CanMakeCore, IsOutputOf, first_ring, stream_of}
use Rattle.lucy_kahn.specs.Spots.{Spot, at, main_of, IsSpot, results_in}
use Rattle.lucy_kahn.specs.Sizes.{all_places}
use Rattle.lucy_kahn.specs.Horizons.{Suffice}
use Rattle.lucy_kahn.specs.Kahn.{kahn}
use Rattle.lucy_kahn.specs.Turns.{params_in}
use Rattle.lucy_flat.specs.Clocked.{AreClocked}
use Rattle.lucy_flat.specs.Instances.{IsSpotWord}
use Rattle.lucy_flat.specs.Flat.{IsFlat}
use Rattle.lucy_results.specs.Streams.{main_word, param_words, result_words, main_streams, cut_to, cut_inputs}
use Rattle.lucy_results.specs.Running.{HasSchedule, whole_turn}

-- of the flat net of a program with a sound schedule, inputs with the items of the horizon and the operators that the program names
-- a core can be made
abbrev pub NetsCanBeRun : Type 0
NetsCanBeRun = (nodes : List PlacedNode) (clocks : List NodeClock) (net : Net) (schedule : Timetable) (inputs : List (List ℤ)) (operators : List Operator) (instants : ℕ) →
    AreProper nodes → HaveOperators (length operators) nodes → IsFlat nodes clocks net → IsSound net (events_at schedule) →
    Suffice (param_words nodes clocks) inputs instants → instants ≤ limit_number limit.Instants →
    CanMakeCore net schedule inputs operators instants

-- only the actors of its instance places give
abbrev pub PlacesGive : Type 0
PlacesGive = (nodes : List PlacedNode) (clocks : List NodeClock) (net : Net) (instants : ℕ) →
    AreProper nodes → IsFlat nodes clocks net → GiveBelow (plan net instants) (all_places nodes)

-- each place of the program with its calls written out has a word
abbrev pub PlacesHaveWords : Type 0
PlacesHaveWords = (nodes : List PlacedNode) (clocks : List NodeClock) (spot : Spot) →
    AreProper nodes → AreClocked nodes clocks → HasSchedule nodes clocks → IsSpot nodes spot → (word : Bits) × IsSpotWord nodes clocks spot word

-- in the iterate of the horizon it has at least as many items as that word has ones up to there
abbrev pub PlacesHaveItems : Type 0
PlacesHaveItems = (kinds : List HostKind) (inputs : List (List ℤ)) (nodes : List PlacedNode) (clocks : List NodeClock) (spot : Spot) (word : Bits) (instants : ℕ) →
    AreProper nodes → AreClocked nodes clocks → HasSchedule nodes clocks → Suffice (param_words nodes clocks) inputs instants →
    IsSpot nodes spot → IsSpotWord nodes clocks spot word →
    ones_to word instants ≤ length (kahn kinds inputs nodes (whole_turn nodes instants) spot)

-- each output stream has as many items as its word has ones up to the horizon
abbrev pub StreamsAreWhole : Type 0
StreamsAreWhole = (kinds : List HostKind) (inputs : List (List ℤ)) (nodes : List PlacedNode) (clocks : List NodeClock) (instants : ℕ) →
    AreProper nodes → HasSchedule nodes clocks → Suffice (param_words nodes clocks) inputs instants →
    map length (main_streams kinds inputs nodes clocks instants) ≡ map (λ word. ones_to word instants) (result_words nodes clocks)

-- the items of the horizon suffice for it
abbrev pub CutInputsSuffice : Type 0
CutInputsSuffice = (inputs : List (List ℤ)) (nodes : List PlacedNode) (clocks : List NodeClock) (instants : ℕ) →
    params_in (main_of nodes) ≡ length inputs → Suffice (param_words nodes clocks) inputs instants →
    Suffice (param_words nodes clocks) (cut_inputs nodes clocks inputs instants) instants

-- and give the output streams
abbrev pub CutInputsGive : Type 0
CutInputsGive = (kinds : List HostKind) (inputs : List (List ℤ)) (nodes : List PlacedNode) (clocks : List NodeClock) (instants : ℕ) →
    AreProper nodes → HasSchedule nodes clocks → params_in (main_of nodes) ≡ length inputs → Suffice (param_words nodes clocks) inputs instants →
    main_streams kinds (cut_inputs nodes clocks inputs instants) nodes clocks instants ≡ main_streams kinds inputs nodes clocks instants

-- the output streams of more instants, from inputs that go on, begin with those of fewer
abbrev pub StreamsGoOn : Type 0
StreamsGoOn = (kinds : List HostKind) (inputs more : List (List ℤ)) (nodes : List PlacedNode) (clocks : List NodeClock) (s t : ℕ) →
    AreProper nodes → HasSchedule nodes clocks → AreFronts inputs more → s ≤ t → Suffice (param_words nodes clocks) inputs s →
    cut_to s (result_words nodes clocks) (main_streams kinds more nodes clocks t) ≡ main_streams kinds inputs nodes clocks s

-- inputs that go on give the same output streams up to a horizon for which those before suffice
abbrev pub StreamsAgree : Type 0
StreamsAgree = (kinds : List HostKind) (inputs more : List (List ℤ)) (nodes : List PlacedNode) (clocks : List NodeClock) (instants : ℕ) →
    AreProper nodes → HasSchedule nodes clocks → AreFronts inputs more → Suffice (param_words nodes clocks) inputs instants →
    main_streams kinds more nodes clocks instants ≡ main_streams kinds inputs nodes clocks instants

-- the stream of an output of the flat net, cut at the horizon, is what the plain interpreter has of its result from the items of the
-- horizon
abbrev pub TwoWaysAgree : Type 0
TwoWaysAgree = (seen : Seen) (nodes : List PlacedNode) (clocks : List NodeClock) (i place a : ℕ) (actor : Actor) →
    AreProper nodes → IsFlat nodes clocks seen.net → IsSound seen.net (events_at seen.schedule) →
    params_in (main_of nodes) ≡ length seen.inputs → Suffice (param_words nodes clocks) seen.inputs seen.instants →
    slice_get (results_in (main_of nodes)) i ≡ Some place → IsOutputOf seen.net i a actor →
    take (ones_to actor.firing seen.instants) (stream_of seen (all_places nodes) (first_ring actor))
    ≡ take (ones_to (main_word nodes clocks place) seen.instants)
    (kahn (kinds_of seen.operators) (cut_inputs nodes clocks seen.inputs seen.instants) nodes (whole_turn nodes seen.instants) (at [] place))
