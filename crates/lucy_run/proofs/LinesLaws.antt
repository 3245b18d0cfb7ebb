-- Lines up to one horizon and up to a later one.
use Rattle.std.proofs.Common.{ℕ, ◌≡◌, List, [], ◌++◌, Some, take, drop, ap, sym, ◌∙◌, arith}
use Rattle.std.specs.Prelude.{ℤ, slice_get, option_map}
use Rattle.std.proofs.lemmas.List.{length-map, take-take}
use Rattle.std.proofs.lemmas.Option.{slice_get-map}
use Rattle.lucy_word.specs.Bits.{ones_to}
use Rattle.lucy_stream.specs.Items.{list_at}
use Rattle.lucy_lines.specs.declared.output.OutputSpec.{OutputSpec}
use Rattle.lucy_lines.specs.Outputs.{lines_after}
use Rattle.lucy_lines.specs.OutputLaws.{BeginAlike, FrontsSuffice, AreRests, BlockByBlock}
use Rattle.lucy_kahn.specs.Spots.{main_of, results_in}
use Rattle.lucy_kahn.proofs.JoinedLists.{mapped}
use Rattle.lucy_results.specs.Streams.{main_word, result_words, main_stream, main_streams, later_stream, later_streams, cut_to}
use Rattle.lucy_results.specs.Laws.{StreamsGoOn}
use Rattle.lucy_results.proofs.StreamLaws.{cut_at}
use Rattle.lucy_results.proofs.OutputLaws.{stream_at}
use Rattle.lucy_run.specs.Courses.{Program, CanBeRunInBlocks}
use Rattle.lucy_run.specs.Played.{LinesAgree, LinesByBlock}

module _ (p : Program) (can : CanBeRunInBlocks p) where
  -- the word of a result, among those of the outputs
  word_at : (i : ℕ) (o : OutputSpec) → slice_get p.outputs i ≡ Some o → slice_get (result_words p.nodes p.clocks) i ≡ Some o.word
  word_at i o e = ap (λ xs. slice_get xs i) (sym can.words) ∙ slice_get-map (λ (o : OutputSpec). o.word) p.outputs i ∙ ap (option_map (λ (o : OutputSpec). o.word)) e

  place_at : (i : ℕ) (o : OutputSpec) → slice_get p.outputs i ≡ Some o → (place : ℕ) × (slice_get (results_in (main_of p.nodes)) i ≡ Some place) × (main_word p.nodes p.clocks place ≡ o.word)
  place_at i o e =
      let found = mapped (main_word p.nodes p.clocks) (slice_get (results_in (main_of p.nodes)) i) o.word
      (sym (slice_get-map (main_word p.nodes p.clocks) (results_in (main_of p.nodes)) i) ∙ word_at i o e) in
      (found.0, found.1, found.2)

  module _ (lists more : List (List ℤ)) (s t : ℕ) where
    are_rests : AreRests p.outputs (main_streams p.kinds more p.nodes p.clocks t) (later_streams p.kinds more p.nodes p.clocks s t) s
    are_rests = record {
      lengths = length-map (results_in (main_of p.nodes)) (later_stream p.kinds more p.nodes p.clocks s t) ∙ sym (length-map (results_in (main_of p.nodes)) (main_stream p.kinds more p.nodes p.clocks t));
      each = λ i o e.
          let place = place_at i o e in
          stream_at (later_stream p.kinds more p.nodes p.clocks s t) (results_in (main_of p.nodes)) i place.0 [] place.1
          ∙ ap (λ w. drop (ones_to w s) (main_stream p.kinds more p.nodes p.clocks t place.0)) place.2
          ∙ ap (drop (ones_to o.word s)) (sym (stream_at (main_stream p.kinds more p.nodes p.clocks t) (results_in (main_of p.nodes)) i place.0 [] place.1));
    }

    alike : cut_to s (result_words p.nodes p.clocks) (main_streams p.kinds more p.nodes p.clocks t) ≡ main_streams p.kinds lists p.nodes p.clocks s →
        BeginAlike p.outputs (main_streams p.kinds more p.nodes p.clocks t) (main_streams p.kinds lists p.nodes p.clocks s) s
    alike cut = record {
      lengths = length-map (results_in (main_of p.nodes)) (main_stream p.kinds more p.nodes p.clocks t) ∙ sym (length-map (results_in (main_of p.nodes)) (main_stream p.kinds lists p.nodes p.clocks s));
      fronts = λ i o e.
          let n : ℕ = ones_to o.word s in
          let as_many = length-map (results_in (main_of p.nodes)) (main_word p.nodes p.clocks) ∙ sym (length-map (results_in (main_of p.nodes)) (main_stream p.kinds more p.nodes p.clocks t)) in
          let front : list_at (main_streams p.kinds lists p.nodes p.clocks s) i ≡ take n (list_at (main_streams p.kinds more p.nodes p.clocks t) i) =
          ap (λ xs. list_at xs i) (sym cut) ∙ cut_at s (result_words p.nodes p.clocks) (main_streams p.kinds more p.nodes p.clocks t) i o.word as_many (word_at i o e) in
          sym (ap (take n) front ∙ take-take n n (list_at (main_streams p.kinds more p.nodes p.clocks t) i) (omega arith));
    }

pub agree : StreamsGoOn → FrontsSuffice → LinesAgree
agree on fronts p lists more t can f suffice =
    fronts p.outputs (main_streams p.kinds more p.nodes p.clocks t) (main_streams p.kinds lists p.nodes p.clocks t) t
    (alike p can lists more t t (on p.kinds lists more p.nodes p.clocks t t can.proper can.scheduled f (omega arith) suffice))

pub by_block : StreamsGoOn → FrontsSuffice → BlockByBlock → LinesByBlock
by_block on fronts blocks p lists more s t can f l suffice =
    blocks p.outputs (main_streams p.kinds more p.nodes p.clocks t) (later_streams p.kinds more p.nodes p.clocks s t) s t l (are_rests p can lists more s t)
    ∙ ap (λ xs. xs ++ lines_after p.outputs (later_streams p.kinds more p.nodes p.clocks s t) s t)
    (fronts p.outputs (main_streams p.kinds more p.nodes p.clocks t) (main_streams p.kinds lists p.nodes p.clocks s) s
    (alike p can lists more s t (on p.kinds lists more p.nodes p.clocks s t can.proper can.scheduled f l suffice)))
