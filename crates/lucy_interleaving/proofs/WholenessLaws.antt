-- The values of an accepted program's outputs are all there.
use Rattle.std.proofs.Common.{ℕ, ◌+◌, ◌-◌, ◌<◌, ◌≤◌, ◌≡◌, true, cond, List, [], Option, Some, None, length, map, ap, sym, ◌∙◌, arith}
use Rattle.std.specs.Prelude.{ℤ, slice_get}
use Rattle.std.specs.Option.{option_map}
use Rattle.std.proofs.lemmas.Option.{slice_get-map, get_or_from_slice_get}
use Rattle.lucy_word.specs.Bits.{Bits, bit_at, one_if, ones_to}
use Rattle.lucy_word.proofs.BitsLaws.{ones_to-more}
use Rattle.lucy_word.proofs.IndexLaws.{ones_to-rises}
use Rattle.lucy_stream.specs.Items.{item_at, list_at}
use Rattle.lucy_stream.proofs.MergeLaws.{get_some}
use Rattle.lucy_lines.specs.declared.output.OutputSpec.{OutputSpec}
use Rattle.lucy_lines.specs.Outputs.{value_at}
use Rattle.lucy_place.specs.declared.placed.PlacedNode.{PlacedNode}
use Rattle.lucy_types.specs.declared.ty.Ty.{Ty}
use Rattle.lucy_types.specs.Tables.{table_at}
use Rattle.lucy_clock.specs.declared.node_clock.NodeClock.{NodeClock}
use Rattle.lucy_kahn.specs.Spots.{main_of, results_in}
use Rattle.lucy_kahn.proofs.JoinedLists.{mapped}
use Rattle.lucy_flat.specs.Instances.{words_in}
use Rattle.lucy_net.specs.Schedules.{events_at}
use Rattle.lucy_results.specs.Streams.{main_word, result_words}
use Rattle.lucy_results.specs.Running.{HasSchedule}
use Rattle.lucy_program.specs.declared.accepted.Accepted.{Accepted}
use Rattle.lucy_program.specs.declared.options.Options.{Options}
use Rattle.lucy_program.specs.Names.{of_one}
use Rattle.lucy_program.specs.Scheduled.{main_output, main_outputs}
use Rattle.lucy_program.specs.Accepting.{IsAccepted}
use Rattle.lucy_host.specs.Operators.{Operator}

-- an accepted program's net has a sound schedule
pub scheduled : (ops : List Operator) (o : Options) (text : List ℕ) (a : Accepted) → IsAccepted ops o text a →
    HasSchedule a.placed.nodes a.clocks.items
scheduled ops o text a is = record { net = a.net; events = events_at a.schedule; flat = is.net.flat.flat; sound = is.schedule.sound }

-- an output's word is that of its result
pub output_word : (nodes : List PlacedNode) (tables : List (List Ty)) (clocks : List NodeClock) (i : ℕ) (output : OutputSpec) →
    slice_get (main_outputs nodes tables clocks) i ≡ Some output →
    slice_get (result_words nodes clocks) i ≡ Some output.word
output_word nodes tables clocks i output e = from_main (main_of nodes) e
  where
    from_main : (o : Option PlacedNode) → slice_get (of_one (λ main. map
        (main_output main (table_at tables (length nodes - 1)) (words_in (slice_get clocks (length nodes - 1)))) main.results) o) i
        ≡ Some output →
        slice_get (map (main_word nodes clocks) (results_in o)) i ≡ Some output.word
    from_main None f = absurd (cc f)
    from_main (Some main) f =
        let made : ℕ → OutputSpec = main_output main (table_at tables (length nodes - 1)) (words_in (slice_get clocks (length nodes - 1))) in
        let place = mapped made (slice_get main.results i) output (sym (slice_get-map made main.results i) ∙ f) in
        slice_get-map (main_word nodes clocks) main.results i ∙ ap (option_map (main_word nodes clocks)) place.1
        ∙ ap (λ (x : OutputSpec). Some x.word) place.2

-- the list of an output's number has as many items as its word has ones
pub list_count : (streams : List (List ℤ)) (words : List Bits) (t i : ℕ) (word : Bits) →
    map length streams ≡ map (λ w. ones_to w t) words → slice_get words i ≡ Some word → length (list_at streams i) ≡ ones_to word t
list_count streams words t i word e there =
    let count : slice_get (map length streams) i ≡ Some (ones_to word t) =
    ap (λ xs. slice_get xs i) e ∙ slice_get-map (λ w. ones_to w t) words i ∙ ap (option_map (λ w. ones_to w t)) there in
    let list = mapped length (slice_get streams i) (ones_to word t) (sym (slice_get-map length streams i) ∙ count) in
    ap length (get_or_from_slice_get streams i list.0 [] list.1) ∙ list.2

-- in a list of so many items the value at each of the word's ones is there
pub value_there : (o : OutputSpec) (items : List ℤ) (t instants : ℕ) → 1 ≤ t → t ≤ instants → bit_at o.word t ≡ true →
    length items ≡ ones_to o.word instants → (value : ℤ) × (value_at o items t ≡ Some value)
value_there o items t instants low high one count =
    let back : t - 1 + 1 ≡ t = omega arith in
    let bit : one_if (bit_at o.word (t - 1 + 1)) ≡ 1 = ap (λ n. one_if (bit_at o.word n)) back ∙ ap one_if one in
    let same : ones_to o.word (t - 1 + 1) ≡ ones_to o.word t = ap (ones_to o.word) back in
    let k : ℕ = ones_to o.word t - 1 in
    let within : k < length items = omega (arith, bit, same, count, ones_to-more o.word (t - 1), ones_to-rises o.word t instants high) in
    (item_at items k, ap (λ b. cond b (slice_get items k) None) one ∙ get_some items k within)
