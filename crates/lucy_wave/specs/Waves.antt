-- The dump of a run: what the variables of main show, and what a call owes.
use Rattle.std.specs.Prelude.{ℕ, suc, zero, ◌+◌, ◌<◌, ◌^◌, ◌≡◌, ℤ, pos, Bool, true, false, ◌||◌, nat_eq, nat_le, List, [], ◌∷◌, ◌++◌, map, length, Option, Some, None, slice_index_or, codes, if◌then◌else◌}
use Rattle.std.specs.Int.{w64, cast_unsigned}
use Rattle.std.specs.Int.RustNames.{FitsSigned}
use Rattle.std.specs.List.{AllByRecursion}
use Rattle.std.specs.Option.{unwrap_or, option_map_or}
use Rattle.lucy_word.specs.Bits.{Bits, bit_at, ones_to, one_if}
use Rattle.lucy_host.specs.declared.kind.HostKind.{HostKind}
use Rattle.lucy_lines.specs.declared.reader.TextFault.{TextFault}
use Rattle.lucy_text.specs.Sources.{ReadStop}
use Rattle.lucy_lines.specs.declared.output.OutputSpec.{OutputSpec}
use Rattle.lucy_tree.specs.declared.span.Name.{Name}
use Rattle.lucy_place.specs.declared.entry.PlaceEntry.{PlaceEntry}
use Rattle.lucy_place.specs.declared.placed.PlacedNode.{PlacedNode}
use Rattle.lucy_need.specs.Meeting.{Assignment}
use Rattle.lucy_clock.specs.declared.node_clock.NodeClock.{NodeClock}
use Rattle.lucy_net.specs.declared.net.Net.{Net}
use Rattle.lucy_kahn.specs.Spots.{main_of, results_in}
use Rattle.lucy_results.specs.Streams.{main_word, param_words, main_stream, main_streams}
use Rattle.lucy_program.specs.declared.accepted.Accepted.{Accepted}
use Rattle.lucy_program.specs.Names.{name_at}
use Rattle.lucy_program.specs.Report.{first_operand}
use Rattle.lucy_picture.specs.Charts.{waiting}
use Rattle.lucy_run.specs.declared.ending.Ending.{Ending}
use Rattle.lucy_run.specs.Owes.{EndsFor, IsMainFed}
use Rattle.lucy_wave.specs.Dumps.{Variable, dump, text_of}
use Rattle.lucy_wave.specs.Names.{there_name, buffer_name}
use Rattle.lucy_wave.specs.Watching.{CanWatch}

-- whether an item of a stream comes
abbrev pub there : (name : List ℕ) → Bits → Variable
there name word = record { name = there_name name; is_wide = false; value = λ t. one_if (bit_at word t) }

-- the last of so many items, and 0 where there is none
abbrev pub last_item : List ℤ → (count : ℕ) → ℤ
last_item items zero = pos 0
last_item items (suc n) = slice_index_or items n (pos 0)

-- the item of a stream that came last
abbrev pub last : (name : List ℕ) → Bits → (items : List ℤ) → Variable
last name word items = record { name = name; is_wide = true; value = λ t. cast_unsigned w64 (last_item items (ones_to word t)) }

-- how many items wait in a buffer
abbrev pub waits : (number : ℕ) → (write read : Bits) → Variable
waits number write read = record { name = buffer_name number; is_wide = true; value = waiting write read }

-- what is shown of a stream with its items
abbrev pub stream : (name : List ℕ) → Bits → (items : List ℤ) → List Variable
stream name word items = there name word ∷ (last name word items ∷ [])

-- the results, with their streams
abbrev pub results : List OutputSpec → (streams : List (List ℤ)) → List Variable
results [] streams = []
results (o ∷ outputs) [] = []
results (o ∷ outputs) (items ∷ streams) = stream o.name o.word items ++ results outputs streams

-- the bytes of a name, where there is one
abbrev pub bytes_of : Option Name → List ℕ
bytes_of None = []
bytes_of (Some name) = name.text

-- the written name of a place
abbrev pub written_name : PlacedNode → (place : ℕ) → List ℕ
written_name n place = bytes_of (name_at n place)

-- a number is among these
abbrev pub is_among : ℕ → List ℕ → Bool
is_among number [] = false
is_among number (n ∷ ns) = nat_eq n number || is_among number ns

-- an input with its items; one that is also a result stands among the results alone
abbrev pub input : PlacedNode → Bits → (place : ℕ) → (items : List ℤ) → List Variable
input n word place items = if is_among place n.results then [] else stream (written_name n place) word items

-- the inputs from a place on
abbrev pub inputs : PlacedNode → Assignment → (place : ℕ) → (lists : List (List ℤ)) → List Variable
inputs n w place [] = []
inputs n w place (items ∷ lists) = input n (w place) place items ++ inputs n w (place + 1) lists

-- a place is an input or a result
abbrev pub is_outer : PlacedNode → (place : ℕ) → Bool
is_outer n place = nat_le place n.params || is_among place n.results

-- the other places, from one on, that have a name
abbrev pub inner_place : PlacedNode → (place : ℕ) → Option Name → List ℕ
inner_place n place None = []
inner_place n place (Some name) = if is_outer n place then [] else place ∷ []

abbrev pub inner_places : PlacedNode → (place : ℕ) → List PlaceEntry → List ℕ
inner_places n place [] = []
inner_places n place (entry ∷ entries) = inner_place n place entry.name ++ inner_places n (place + 1) entries

-- the streams that are neither inputs nor results
abbrev pub inner_of : PlacedNode → List ℕ
inner_of n = inner_places n 1 n.places

-- whether an item of each comes
abbrev pub there_bits : PlacedNode → Assignment → (places : List ℕ) → List Variable
there_bits n w [] = []
there_bits n w (p ∷ places) = there (written_name n p) (w p) ∷ there_bits n w places

-- each with its items
abbrev pub with_items : PlacedNode → Assignment → (places : List ℕ) → (streams : List (List ℤ)) → List Variable
with_items n w [] streams = []
with_items n w (p ∷ places) [] = []
with_items n w (p ∷ places) (items ∷ streams) = stream (written_name n p) (w p) items ++ with_items n w places streams

-- the inner streams, with their items where these are known
abbrev pub inner : PlacedNode → Assignment → Option (List (List ℤ)) → List Variable
inner n w None = there_bits n w (inner_of n)
inner n w (Some streams) = with_items n w (inner_of n) streams

-- the buffers from a number on, by their places
abbrev pub buffers : PlacedNode → Assignment → (number : ℕ) → (places : List ℕ) → List Variable
buffers n w number [] = []
buffers n w number (p ∷ places) = waits number (w (unwrap_or (first_operand n p) 0)) (w p) ∷ buffers n w (number + 1) places

-- all variables of main: its results, its other inputs, its inner streams and its buffers
abbrev pub variables : PlacedNode → Assignment → List OutputSpec → (lists streams : List (List ℤ)) → Option (List (List ℤ)) → List Variable
variables n w outputs lists streams inside = results outputs streams ++ (inputs n w 1 lists ++ (inner n w inside ++ buffers n w 1 n.buffers))

-- the line that says that items of inner streams are left out
abbrev pub notes : Option (List (List ℤ)) → List (List ℕ)
notes None = codes "$comment A limit keeps the items of the inner streams out. $end" ∷ []
notes (Some streams) = []

-- each item is a 64-bit number
abbrev pub Fit : List ℤ → Type 0
Fit items = (i : ℕ) → FitsSigned w64 (slice_index_or items i (pos 0))

-- where there are streams, each of their items is
abbrev pub FitInside : Option (List (List ℤ)) → Type 0
FitInside None = Unit {0}
FitInside (Some streams) = AllByRecursion Fit streams

-- the lines are those of the dump of main's variables, with these lists of its inputs, and these streams of its results and of its inner
-- places, up to the horizon
abbrev pub wave_lines : PlacedNode → Assignment → List OutputSpec → (lists streams : List (List ℤ)) → Option (List (List ℤ)) → (horizon : ℕ) → List (List ℕ)
wave_lines n w outputs lists streams inside horizon = notes inside ++ dump n.name.text (variables n w outputs lists streams inside) horizon

-- the text has these lines
pub record IsWave (nodes : List PlacedNode) (clocks : List NodeClock) (outputs : List OutputSpec) (lists streams : List (List ℤ)) (inside : Option (List (List ℤ))) (horizon : ℕ) (text : List ℕ) : Type 0 where
  pub main : PlacedNode
  pub main_is : main_of nodes ≡ Some main
  pub few : length (variables main (main_word nodes clocks) outputs lists streams inside) < 2 ^ 64
  pub fit : AllByRecursion Fit streams
  pub fit_inside : FitInside inside
  pub text_is : text ≡ text_of (wave_lines main (main_word nodes clocks) outputs lists streams inside horizon)

-- the places of the inner streams of main
abbrev pub inner_in : Option PlacedNode → List ℕ
inner_in o = option_map_or inner_of o []

-- the net of the program with an output for each inner stream keeps all limits
abbrev pub CanShow : List PlacedNode → List NodeClock → Net → Type 0
CanShow nodes clocks net = CanWatch net (main_word nodes clocks) (length (results_in (main_of nodes))) (inner_in (main_of nodes))

-- the items of the inner streams are known exactly where that net keeps all limits: they are those of the program's Kahn streams
abbrev pub AreInside : List HostKind → (lists : List (List ℤ)) → List PlacedNode → List NodeClock → Net → (horizon : ℕ) → Option (List (List ℤ)) → Type 0
AreInside kinds lists nodes clocks net horizon None = CanShow nodes clocks net → ⊥
AreInside kinds lists nodes clocks net horizon (Some streams) =
    CanShow nodes clocks net × (streams ≡ map (main_stream kinds lists nodes clocks horizon) (inner_in (main_of nodes)))

-- what is written of a run, and how it ends
abbrev pub Waves : List HostKind → List PlacedNode → List NodeClock → Net → List OutputSpec → (given : Option ℕ) → (lists : List (List ℤ)) → Option TextFault → (horizon : ℕ) →
    (output : List ℕ) → Ending → Type 0
Waves kinds nodes clocks net outputs given lists fault horizon output end =
    (inside : Option (List (List ℤ))) × AreInside kinds lists nodes clocks net horizon inside
    × IsWave nodes clocks outputs lists (main_streams kinds lists nodes clocks horizon) inside horizon output × EndsFor (param_words nodes clocks) given lists fault end

-- `wave`: the dump alone
abbrev pub OwesWave : List HostKind → Accepted → (given : Option ℕ) → (taken : List ℕ) → ReadStop → (output : List ℕ) → Ending → Type 0
OwesWave kinds a given taken stop output end =
    (lists : List (List ℤ)) × (fault : Option TextFault) × (horizon : ℕ) × IsMainFed a given taken stop lists fault horizon
    × Waves kinds a.placed.nodes a.clocks.items a.net a.outputs.items given lists fault horizon output end
