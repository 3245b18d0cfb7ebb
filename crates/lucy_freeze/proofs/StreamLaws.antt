-- The output streams of a frozen program are those of the program.
use Rattle.std.proofs.Common.{ℕ, suc, zero, ◌+◌, ◌-◌, ◌*◌, ◌<◌, ◌≤◌, ◌≡◌, List, [], ◌∷◌, Some, length, map, take, ap, sym, refl, ◌∙◌, subst, arith}
use Rattle.std.specs.Prelude.{ℤ, slice_get, option_map}
use Rattle.std.specs.List.{range_with_len}
use Rattle.std.proofs.lemmas.Option.{slice_get-map}
use Rattle.std.proofs.lemmas.Simd.{map-map}
use Rattle.lucy_word.specs.Bits.{Bits, ones_to}
use Rattle.lucy_word.proofs.Lists.{all_at}
use Rattle.lucy_host.specs.declared.kind.HostKind.{HostKind}
use Rattle.lucy_stream.specs.Fronts.{IsFront}
use Rattle.lucy_stream.proofs.FrontLaws.{IsFront-trans}
use Rattle.lucy_place.specs.declared.placed.PlacedNode.{PlacedNode}
use Rattle.lucy_place.specs.Proper.{IsPlace, AreProper}
use Rattle.lucy_need.specs.Meeting.{assigned}
use Rattle.lucy_clock.specs.declared.node_clock.NodeClock.{NodeClock}
use Rattle.lucy_kahn.specs.Spots.{at, main_of, results_in}
use Rattle.lucy_kahn.specs.Sizes.{all_places}
use Rattle.lucy_kahn.specs.Kahn.{kahn}
use Rattle.lucy_kahn.specs.Horizons.{Suffice}
use Rattle.lucy_kahn.proofs.ByNumber.{kahn_later}
use Rattle.lucy_flat.specs.Instances.{words_in}
use Rattle.lucy_kahn.specs.Turns.{params_in}
use Rattle.lucy_results.specs.Streams.{main_word, param_words, main_stream, main_streams}
use Rattle.lucy_results.specs.Running.{HasSchedule}
use Rattle.lucy_results.proofs.StreamLaws.{long, front_takes, map_same}
use Rattle.lucy_freeze.specs.Frozen.{pair, IsFrozenAt, AreFrozen}
use Rattle.lucy_freeze.proofs.Leading.{IsImage, image_spot}
use Rattle.lucy_freeze.proofs.KahnLaws.{back}

-- what is made of numbers in a row is the same, where it is for each of them
range_same : {A : Type 0} (f g : ℕ → A) (from count : ℕ) → ((k : ℕ) → from ≤ k → k < from + count → f k ≡ g k) → map f (range_with_len from count) ≡ map g (range_with_len from count)
range_same f g from zero each = refl
range_same f g from (suc count) each =
    ap (λ x. x ∷ map f (range_with_len (from + 1) count)) (each from (omega arith) (omega arith))
    ∙ ap (λ xs. g from ∷ xs) (range_same f g (from + 1) count (λ k low high. each k (omega arith) (omega arith)))

module _ (nodes : List PlacedNode) (clocks : List NodeClock) (frozen : List PlacedNode) (frozen_clocks : List NodeClock) (proper : AreProper nodes) (frozen_proper : AreProper frozen)
    (schedule : HasSchedule nodes clocks) (frozen_schedule : HasSchedule frozen frozen_clocks) (same : AreFrozen nodes clocks frozen frozen_clocks) (some : 0 < length nodes) where
  -- main
  main : IsFrozenAt nodes clocks frozen frozen_clocks (length nodes - 1)
  main = same.each (length nodes - 1) (omega arith)

  main_is : main_of nodes ≡ Some main.n
  main_is = main.node

  twin_is : main_of frozen ≡ Some main.m
  twin_is = ap (λ l. slice_get frozen (l - 1)) same.count ∙ main.frozen_node

  -- the words of places of main
  word_is : (place : ℕ) → main_word nodes clocks place ≡ assigned main.c.words place
  word_is place = ap (λ o. assigned (words_in o) place) main.clock

  twin_word_is : (place : ℕ) → main_word frozen frozen_clocks place ≡ assigned main.d.words place
  twin_word_is place = ap (λ l. assigned (words_in (slice_get frozen_clocks (l - 1))) place) same.count ∙ ap (λ o. assigned (words_in o) place) main.frozen_clock

  words_same : (place : ℕ) → IsPlace main.n place → main_word frozen frozen_clocks (main.renumbering.place place) ≡ main_word nodes clocks place
  words_same place is = twin_word_is (main.renumbering.place place) ∙ sym (main.is.places place is).word ∙ sym (word_is place)

  param_words_same : param_words frozen frozen_clocks ≡ param_words nodes clocks
  param_words_same =
      ap (λ o. map (main_word frozen frozen_clocks) (range_with_len 1 (params_in o))) twin_is
      ∙ ap (λ count. map (main_word frozen frozen_clocks) (range_with_len 1 count)) main.is.params
      ∙ range_same (main_word frozen frozen_clocks) (main_word nodes clocks) 1 main.n.params
      (λ place low high.
      let own = proper (length nodes - 1) main.n main.node in
      let few = own.params in
      let is : IsPlace main.n place = (low, omega arith) in
      let stands : main.renumbering.place place ≡ place = (main.is.places place is).given (omega arith) in
      ap (main_word frozen frozen_clocks) (sym stands) ∙ words_same place is)
      ∙ sym (ap (λ o. map (main_word nodes clocks) (range_with_len 1 (params_in o))) main_is)

  module _ (kinds : List HostKind) (inputs : List (List ℤ)) (t : ℕ) (suffice : Suffice (param_words nodes clocks) inputs t) where
    twin_suffice : Suffice (param_words frozen frozen_clocks) inputs t
    twin_suffice = subst (λ words. Suffice words inputs t) (sym param_words_same) suffice

    image : (place : ℕ) → IsPlace main.n place → IsImage nodes frozen (at [] place) (at [] (main.renumbering.place place))
    image place is = record {
      p = pair main.n main.c main.m main.d;
      r = main.renumbering;
      lead = record { node = main_is; twin = twin_is; is = main.is };
      above = tt;
      place = is;
      stands = refl;
    }

    -- the stream of a result
    stream_same : (i place : ℕ) → slice_get main.n.results i ≡ Some place → main_stream kinds inputs frozen frozen_clocks t (main.renumbering.place place) ≡ main_stream kinds inputs nodes clocks t place
    stream_same i place e =
        let own = proper (length nodes - 1) main.n main.node in
        let is : IsPlace main.n place = all_at (IsPlace main.n) main.n.results i place own.results e in
        let turns : ℕ = t * all_places nodes in
        let twin_turns : ℕ = t * all_places frozen in
        let most : ℕ = turns + twin_turns in
        let twin : ℕ = main.renumbering.place place in
        let word : Bits = main_word nodes clocks place in
        let all : List ℤ = kahn kinds inputs nodes most (at [] place) in
        let here : slice_get (results_in (main_of nodes)) i ≡ Some place = ap (λ o. slice_get (results_in o) i) main_is ∙ e in
        let beside : slice_get (results_in (main_of frozen)) i ≡ Some twin =
        ap (λ o. slice_get (results_in o) i) twin_is ∙ ap (λ xs. slice_get xs i) main.is.results ∙ slice_get-map main.renumbering.place main.n.results i ∙ ap (option_map main.renumbering.place) e in
        let spot = image_spot nodes clocks frozen frozen_clocks proper same (at [] place) (at [] twin) (image place is) in
        let whole : ones_to word t ≤ length (kahn kinds inputs nodes turns (at [] place)) = long nodes clocks proper schedule kinds inputs t suffice i place here in
        let twin_whole : ones_to (main_word frozen frozen_clocks twin) t ≤ length (kahn kinds inputs frozen twin_turns (at [] twin)) = long frozen frozen_clocks frozen_proper frozen_schedule kinds inputs t twin_suffice i twin beside in
        let twin_long : ones_to word t ≤ length (kahn kinds inputs frozen twin_turns (at [] twin)) = subst (λ w. ones_to w t ≤ length (kahn kinds inputs frozen twin_turns (at [] twin))) (words_same place is) twin_whole in
        let front : IsFront (kahn kinds inputs nodes turns (at [] place)) all = kahn_later nodes proper kinds inputs turns most (at [] place) spot (omega arith) in
        let twin_front : IsFront (kahn kinds inputs frozen twin_turns (at [] twin)) all =
        IsFront-trans (kahn kinds inputs frozen twin_turns (at [] twin)) (kahn kinds inputs nodes twin_turns (at [] place)) all
        (back nodes clocks frozen frozen_clocks proper same kinds inputs twin_turns (at [] place) (at [] twin) (image place is))
        (kahn_later nodes proper kinds inputs twin_turns most (at [] place) spot (omega arith)) in
        ap (λ w. take (ones_to w t) (kahn kinds inputs frozen twin_turns (at [] twin))) (words_same place is)
        ∙ front_takes (kahn kinds inputs frozen twin_turns (at [] twin)) all (ones_to word t) twin_front twin_long
        ∙ sym (front_takes (kahn kinds inputs nodes turns (at [] place)) all (ones_to word t) front whole)

    pub streams_same : main_streams kinds inputs frozen frozen_clocks t ≡ main_streams kinds inputs nodes clocks t
    streams_same =
        ap (λ o. map (main_stream kinds inputs frozen frozen_clocks t) (results_in o)) twin_is
        ∙ ap (map (main_stream kinds inputs frozen frozen_clocks t)) main.is.results
        ∙ map-map (main_stream kinds inputs frozen frozen_clocks t) main.renumbering.place main.n.results
        ∙ map_same (λ place. main_stream kinds inputs frozen frozen_clocks t (main.renumbering.place place)) (main_stream kinds inputs nodes clocks t) main.n.results stream_same
        ∙ sym (ap (λ o. map (main_stream kinds inputs nodes clocks t) (results_in o)) main_is)
