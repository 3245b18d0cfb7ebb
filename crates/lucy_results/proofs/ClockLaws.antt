-- The words of main, as they lie in the clocks of its node.
use Rattle.std.proofs.Common.{ℕ, suc, zero, ◌+◌, ◌-◌, ◌<◌, ◌≤◌, ◌≡◌, List, [], ◌∷◌, Some, length, map, take, drop, ap, sym, refl, ◌∙◌, arith}
use Rattle.std.specs.Prelude.{slice_get, slice_index_or, option_map}
use Rattle.std.specs.List.{range_with_len}
use Rattle.std.proofs.lemmas.Option.{slice_get_within, slice_get-get_or, slice_get-map}
use Rattle.lucy_word.specs.Bits.{Bits}
use Rattle.lucy_word.specs.Always.{always}
use Rattle.lucy_host.proofs.Elements.{get_there}
use Rattle.lucy_place.specs.declared.placed.PlacedNode.{PlacedNode}
use Rattle.lucy_place.specs.Proper.{AreProper}
use Rattle.lucy_clock.specs.declared.node_clock.NodeClock.{NodeClock}
use Rattle.lucy_clock.specs.Clocks.{clocks_of}
use Rattle.lucy_kahn.specs.Spots.{main_of, results_in}
use Rattle.lucy_kahn.proofs.Closed.{place_of}
use Rattle.lucy_flat.specs.Instances.{words_in}
use Rattle.lucy_flat.specs.Clocked.{AreClocked}
use Rattle.lucy_kahn.specs.Turns.{params_in}
use Rattle.lucy_results.specs.Streams.{main_word, param_words, result_words}
use Rattle.lucy_results.proofs.StreamLaws.{map_same}

-- main, its clocks, and how many words they are
pub record IsMain (nodes : List PlacedNode) (clocks : List NodeClock) (main : ℕ) (node : PlacedNode) : Type 0 where
  pub node_is : main_of nodes ≡ Some node
  pub clock : NodeClock
  pub there : slice_get clocks main ≡ Some clock
  pub within : main < length clocks
  pub words : length clock.words ≡ clocks_of node
  pub params : node.params ≤ length node.places
  pub few : length node.places ≤ 4096
  pub word_is : (place : ℕ) → main_word nodes clocks place ≡ slice_index_or clock.words place always
  pub result : (i : ℕ) → i < length node.results → (1 ≤ slice_index_or node.results i 0) × (slice_index_or node.results i 0 ≤ length node.places)

pub main_is : (nodes : List PlacedNode) (clocks : List NodeClock) (main : ℕ) (node : PlacedNode) → AreProper nodes → AreClocked nodes clocks → main ≡ length nodes - 1 → slice_get nodes main ≡ Some node → IsMain nodes clocks main node
main_is nodes clocks main node proper clocked e f =
    let node_is : main_of nodes ≡ Some node = ap (slice_get nodes) (sym e) ∙ f in
    let within = slice_get_within nodes main node f in
    let clock = get_there clocks main (omega (arith, clocked.count, within)) in
    let own = proper main node f in
    let is = clocked.each main node clock.0 f clock.1 in
    record {
      node_is = node_is;
      clock = clock.0;
      there = clock.1;
      within = omega (arith, clocked.count, within);
      words = is.count;
      params = own.params;
      few = own.few;
      word_is = λ place. ap (λ k. slice_index_or (words_in (slice_get clocks k)) place always) (sym e) ∙ ap (λ o. slice_index_or (words_in o) place always) clock.1;
      result = λ i l. place_of node node.results i own.results l;
    }

-- the words from one on, as many as there are parameters
first_of : (ws : List Bits) (k m n : ℕ) → m ≡ k + 1 → k < length ws → slice_index_or ws k always ∷ take n (drop m ws) ≡ take (suc n) (drop k ws)
first_of [] k m n e l = absurd (omega arith)
first_of (w ∷ ws) zero m n e l = ap (λ j. w ∷ take n (drop j (w ∷ ws))) e
first_of (w ∷ ws) (suc k) m n e l =
    let next : m ≡ suc (k + 1) = omega arith in
    ap (λ j. slice_index_or ws k always ∷ take n (drop j (w ∷ ws))) next ∙ first_of ws k (k + 1) n refl (omega arith)

words_from : (words : List Bits) (from count : ℕ) → from + count ≤ length words → map (λ place. slice_index_or words place always) (range_with_len from count) ≡ take count (drop from words)
words_from words from zero l = refl
words_from words from (suc count) l =
    ap (λ xs. slice_index_or words from always ∷ xs) (words_from words (from + 1) count (omega arith)) ∙ first_of words from (from + 1) count refl (omega arith)

pub params_are : (nodes : List PlacedNode) (clocks : List NodeClock) (main : ℕ) (node : PlacedNode) (is : IsMain nodes clocks main node) → param_words nodes clocks ≡ take node.params (drop 1 is.clock.words)
params_are nodes clocks main node is =
    let count = is.words in
    let params = is.params in
    ap (λ o. map (main_word nodes clocks) (range_with_len 1 (params_in o))) is.node_is
    ∙ map_same (main_word nodes clocks) (λ place. slice_index_or is.clock.words place always) (range_with_len 1 node.params) (λ i place there. is.word_is place)
    ∙ words_from is.clock.words 1 node.params (omega arith)

pub result_is : (nodes : List PlacedNode) (clocks : List NodeClock) (main : ℕ) (node : PlacedNode) (is : IsMain nodes clocks main node) (i : ℕ) → i < length node.results →
    slice_get (result_words nodes clocks) i ≡ Some (slice_index_or is.clock.words (slice_index_or node.results i 0) always)
result_is nodes clocks main node is i l =
    ap (λ o. slice_get (map (main_word nodes clocks) (results_in o)) i) is.node_is
    ∙ slice_get-map (main_word nodes clocks) node.results i ∙ ap (option_map (main_word nodes clocks)) (slice_get-get_or node.results i 0 l) ∙ ap (λ w. Some w) (is.word_is (slice_index_or node.results i 0))
