-- The output streams of a program whose nodes have clocks, up to a horizon in instants.
use Rattle.std.specs.Prelude.{ℕ, ◌+◌, List, [], ◌∷◌, length, map, take, drop, ℤ}
use Rattle.std.specs.List.{range_with_len}
use Rattle.lucy_word.specs.Bits.{Bits, ones_to}
use Rattle.lucy_host.specs.declared.kind.HostKind.{HostKind}
use Rattle.lucy_stream.specs.Items.{list_at}
use Rattle.lucy_place.specs.declared.placed.PlacedNode.{PlacedNode}
use Rattle.lucy_clock.specs.declared.node_clock.NodeClock.{NodeClock}
use Rattle.lucy_kahn.specs.Spots.{at, main_of, results_in}
use Rattle.lucy_kahn.specs.Kahn.{stream_to}
use Rattle.lucy_kahn.specs.Turns.{params_in}
use Rattle.lucy_flat.specs.Instances.{word_at}

-- the word of a place of main
abbrev pub main_word : List PlacedNode → List NodeClock → ℕ → Bits
main_word nodes clocks place = word_at nodes clocks [] place

-- the words of main's parameters, which are its first places, in order
abbrev pub param_words : List PlacedNode → List NodeClock → List Bits
param_words nodes clocks = map (main_word nodes clocks) (range_with_len 1 (params_in (main_of nodes)))

-- those of main's results, in order
abbrev pub result_words : List PlacedNode → List NodeClock → List Bits
result_words nodes clocks = map (main_word nodes clocks) (results_in (main_of nodes))

-- the stream of a place of main, cut at the horizon
abbrev pub main_stream : List HostKind → List (List ℤ) → List PlacedNode → List NodeClock → ℕ → ℕ → List ℤ
main_stream kinds inputs nodes clocks instants place = stream_to kinds inputs nodes instants (main_word nodes clocks place) (at [] place)

-- those of main's results, in order
abbrev pub main_streams : List HostKind → List (List ℤ) → List PlacedNode → List NodeClock → ℕ → List (List ℤ)
main_streams kinds inputs nodes clocks instants = map (main_stream kinds inputs nodes clocks instants) (results_in (main_of nodes))

-- what the stream of a place of main has past an earlier horizon
abbrev pub later_stream : List HostKind → List (List ℤ) → List PlacedNode → List NodeClock → (before instants : ℕ) → ℕ → List ℤ
later_stream kinds inputs nodes clocks before instants place = drop (ones_to (main_word nodes clocks place) before) (main_stream kinds inputs nodes clocks instants place)

-- so of main's results, in order
abbrev pub later_streams : List HostKind → List (List ℤ) → List PlacedNode → List NodeClock → (before instants : ℕ) → List (List ℤ)
later_streams kinds inputs nodes clocks before instants = map (later_stream kinds inputs nodes clocks before instants) (results_in (main_of nodes))

-- what outputs have taken of these streams: the first items of each, as many as its output has done operations, whose actors stand behind
-- so many others
abbrev pub taken_of : (places : ℕ) → (done : ℕ → ℕ) → (streams : List (List ℤ)) → List (List ℤ)
taken_of places done streams = map (λ i. take (done (places + i)) (list_at streams i)) (range_with_len 0 (length streams))

-- lists cut at the horizon, each by the word of its number
abbrev pub cut_to : ℕ → List Bits → List (List ℤ) → List (List ℤ)
cut_to instants [] lists = []
cut_to instants (word ∷ words) [] = []
cut_to instants (word ∷ words) (list ∷ lists) = take (ones_to word instants) list ∷ cut_to instants words lists

-- of each input the items that its parameter has up to the horizon
abbrev pub cut_inputs : List PlacedNode → List NodeClock → List (List ℤ) → ℕ → List (List ℤ)
cut_inputs nodes clocks inputs instants = cut_to instants (param_words nodes clocks) inputs
