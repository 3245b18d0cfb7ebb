-- A run by the net of a program, and by the net with outputs more.
use Rattle.std.proofs.Common.{ℕ, ◌+◌, ◌-◌, ◌<◌, ◌≡◌, List, [], ◌∷◌, Option, Some, None, length, map, ap, sym, ◌∙◌, subst, arith}
use Rattle.std.specs.Prelude.{ℤ, ◌≤◌, slice_get, MatchOption, Result, Ok, Err, IfOk}
use Rattle.std.specs.List.{AllByRecursion, range_with_len}
use Rattle.lucy_word.specs.Bits.{Bits}
use Rattle.lucy_word.specs.Limits.{limit_number}
use Rattle.lucy_word.specs.declared.limit.Limit.TheVariants as limit
use Rattle.lucy_host.specs.declared.kind.HostKind.{HostKind}
use Rattle.lucy_host.specs.Operators.{Operator}
use Rattle.lucy_need.specs.Meeting.{assigned}
use Rattle.lucy_place.specs.declared.placed.PlacedNode.{PlacedNode}
use Rattle.lucy_place.specs.Proper.{IsNamed, AreProper}
use Rattle.lucy_place.proofs.NodeLaws.{named_place}
use Rattle.lucy_clock.specs.declared.node_clock.NodeClock.{NodeClock}
use Rattle.lucy_net.specs.declared.net.Net.{Net}
use Rattle.lucy_net.specs.Proper.{output_of, IsProper}
use Rattle.lucy_net.proofs.NumberedLaws.{numbers_of}
use Rattle.lucy_net.specs.Schedules.{Timetable, IsScheduleOf}
use Rattle.lucy_core.specs.Seen.{CanMakeCore}
use Rattle.lucy_kahn.specs.Spots.{at, main_of, results_in, IsSpot}
use Rattle.lucy_kahn.specs.Sizes.{all_places}
use Rattle.lucy_kahn.proofs.Closed.{place_spot}
use Rattle.lucy_flat.specs.Clocked.{AreClocked}
use Rattle.lucy_flat.specs.Instances.{words_in}
use Rattle.lucy_flat.specs.Flat.{IsFlat}
use Rattle.lucy_results.specs.Streams.{main_word, main_stream, main_streams}
use Rattle.lucy_flat.proofs.InstanceLaws.{places_within}
use Rattle.lucy_flat.proofs.SpotWords.{clock_of}
use Rattle.lucy_wave.specs.declared.playing.Played.{Played}
use Rattle.lucy_wave.specs.declared.watching.Watched.{Watched}
use Rattle.lucy_wave.specs.Watching.{with_outputs, HasRoom, CanWatch}
use Rattle.lucy_wave.specs.Waves.{inner_of, inner_in, CanShow, AreInside}
use Rattle.lucy_wave.specs.Seen.{IsWithin, IsGrown, AreFed}
use Rattle.lucy_wave.proofs.VariableLaws.{inner_named, named_within}
use Rattle.lucy_wave.proofs.WatchLaws.{IsReady, MayHave, outputs_row, place_below, place_there, flat_grown, flat_fed, may_give, with_outputs_ready, with_outputs_keep, with_outputs_fed, ready_fixed}

-- what a run has at hand: a program with its net, what this is run with, and what is asked of the net with outputs more
pub record AtHand (nodes : List PlacedNode) (clocks : List NodeClock) (net : Net) (lists : List (List ℤ)) (t : ℕ) (operators : List Operator) (schedule : Timetable) (main : PlacedNode)
    (words : List Bits) (results places : List ℕ) : Type 0 where
  pub proper : AreProper nodes
  pub clocked : AreClocked nodes clocks
  pub flat : IsFlat nodes clocks net
  pub early : t ≤ limit_number limit.Instants
  pub fixed : CanMakeCore net schedule lists operators t
  pub main_is : main_of nodes ≡ Some main
  pub words_are : words ≡ words_in (slice_get clocks (length nodes - 1))
  pub results_are : results ≡ main.results
  pub places_are : places ≡ inner_of main

-- what is told of the net with outputs more
abbrev pub IsWatched : Net → List Bits → (first : ℕ) → (places : List ℕ) → Option Watched → Type 0
IsWatched net words first places answer = MatchOption answer (CanWatch net (assigned words) first places → ⊥)
    (λ watched. HasRoom net (length places) × (watched.net ≡ with_outputs net (assigned words) first places) × IsScheduleOf watched.net watched.schedule)

-- it can be played
pub record CanPlay (nodes : List PlacedNode) (clocks : List NodeClock) (net : Net) (lists : List (List ℤ)) (t : ℕ) (operators : List Operator) (results places : List ℕ) (watched : Watched) : Type 0 where
  pub fixed : CanMakeCore watched.net watched.schedule lists operators t
  pub grown : IsGrown nodes watched.net
  pub fed : AreFed nodes clocks watched.net 0 results
  pub fed_too : AreFed nodes clocks watched.net (length results) places
  pub shown : CanShow nodes clocks net

module _ {nodes : List PlacedNode} {clocks : List NodeClock} {net : Net} {lists : List (List ℤ)} {t : ℕ} {operators : List Operator} {schedule : Timetable} {main : PlacedNode}
    {words : List Bits} {results places : List ℕ} (h : AtHand nodes clocks net lists t operators schedule main words results places) where
  own_results : results_in (main_of nodes) ≡ main.results
  own_results = ap results_in h.main_is

  ready : IsReady nodes clocks lists t (length operators) (length main.results) net
  ready = record {
    proper = h.flat.proper;
    numbered = subst (λ rs. numbers_of output_of net.actors ≡ range_with_len 0 (length rs)) own_results (outputs_row nodes clocks net h.proper h.flat);
    grown = flat_grown nodes clocks net h.proper h.flat;
    there_are = place_there nodes clocks net h.proper h.flat;
    supplied = h.fixed.supplied;
    known = h.fixed.known;
  }

  abbrev below : (place : ℕ) → IsSpot nodes (at [] place) → place - 1 < all_places nodes
  below = place_below nodes clocks net h.proper h.flat

  may_all : (ps : List ℕ) → AllByRecursion (IsNamed main) ps → AllByRecursion (MayHave nodes clocks lists t (length operators) below net) ps
  may_all [] named = tt
  may_all (p ∷ ps) named =
      let is = named_place main p named.0 in
      ((place_spot nodes [] main p h.main_is is, may_give nodes clocks net h.proper h.flat h.clocked main p h.main_is is), may_all ps named.1)

  abbrev all_may : AllByRecursion (MayHave nodes clocks lists t (length operators) below net) (inner_of main)
  all_may = may_all (inner_of main) (inner_named main)

  abbrev more : Net
  more = with_outputs net (main_word nodes clocks) (length main.results) (inner_of main)

  pub plain_grown : IsGrown nodes net
  plain_grown = flat_grown nodes clocks net h.proper h.flat

  main_fed : AreFed nodes clocks net 0 main.results
  main_fed = subst (AreFed nodes clocks net 0) own_results (flat_fed nodes clocks net h.proper h.flat)

  pub plain_fed : AreFed nodes clocks net 0 results
  plain_fed = subst (AreFed nodes clocks net 0) (sym h.results_are) main_fed

  module _ (room : HasRoom net (length (inner_of main))) where
    more_ready : IsReady nodes clocks lists t (length operators) (length main.results + length (inner_of main)) more
    more_ready = with_outputs_ready nodes clocks lists t (length operators) below (inner_of main) net (length main.results) ready all_may room

    more_fed : AreFed nodes clocks more 0 main.results
    more_fed i place e = with_outputs_keep nodes clocks lists t (length operators) below (inner_of main) net (length main.results) ready all_may room (0 + i) place (main_fed i place e)

    more_fed_too : AreFed nodes clocks more (length main.results) (inner_of main)
    more_fed_too = with_outputs_fed nodes clocks lists t (length operators) below (inner_of main) net (length main.results) ready all_may room

  -- what is asked about is that net
  same_more : with_outputs net (assigned words) (length results) places ≡ more
  same_more =
      ap (λ ws. with_outputs net (assigned ws) (length results) places) h.words_are ∙ ap (λ rs. with_outputs net (main_word nodes clocks) (length rs) places) h.results_are
      ∙ ap (with_outputs net (main_word nodes clocks) (length main.results)) h.places_are

  same_room : HasRoom net (length places) → HasRoom net (length (inner_of main))
  same_room = subst (λ ps. HasRoom net (length ps)) h.places_are

  pub more_proper : HasRoom net (length places) → IsProper (with_outputs net (assigned words) (length results) places)
  more_proper room = subst IsProper (sym same_more) (more_ready (same_room room)).proper

  pub can_play : {answer : Option Watched} {watched : Watched} → answer ≡ Some watched → IsWatched net words (length results) places answer →
      CanPlay nodes clocks net lists t operators results places watched
  can_play {answer} {watched} answered answer_is =
      let told = subst (IsWatched net words (length results) places) answered answer_is in
      let room = same_room told.0 in
      let is : watched.net ≡ more = told.1 ∙ same_more in
      let scheduled = subst (λ (n : Net). IsScheduleOf n watched.schedule) is told.2 in
      let P : Option PlacedNode → Type 0 = λ m. CanWatch net (main_word nodes clocks) (length (results_in m)) (inner_in m) in
      record {
        fixed = subst (λ (n : Net). CanMakeCore n watched.schedule lists operators t) (sym is)
            (ready_fixed nodes clocks lists t (length main.results + length (inner_of main)) operators more watched.schedule h.early (more_ready room) scheduled);
        grown = subst (IsGrown nodes) (sym is) (more_ready room).grown;
        fed = subst (AreFed nodes clocks watched.net 0) (sym h.results_are) (subst (λ (n : Net). AreFed nodes clocks n 0 main.results) (sym is) (more_fed room));
        fed_too = subst (λ rs. AreFed nodes clocks watched.net (length rs) places) (sym h.results_are)
            (subst (AreFed nodes clocks watched.net (length main.results)) (sym h.places_are)
            (subst (λ (n : Net). AreFed nodes clocks n (length main.results) (inner_of main)) (sym is) (more_fed_too room)));
        shown = subst P (sym h.main_is) (room, watched.schedule, scheduled);
      }

  pub cannot_show : {answer : Option Watched} → answer ≡ None → IsWatched net words (length results) places answer → CanShow nodes clocks net → ⊥
  cannot_show {answer} answered answer_is can =
      let P : Option PlacedNode → Type 0 = λ m. CanWatch net (main_word nodes clocks) (length (results_in m)) (inner_in m) in
      let own : CanWatch net (main_word nodes clocks) (length main.results) (inner_of main) = subst P h.main_is can in
      subst (IsWatched net words (length results) places) answered answer_is
      (subst (λ ws. CanWatch net (assigned ws) (length results) places) (sym h.words_are)
      (subst (λ rs. CanWatch net (main_word nodes clocks) (length rs) places) (sym h.results_are) (subst (CanWatch net (main_word nodes clocks) (length main.results)) (sym h.places_are) own)))

  -- the places are those of the inner streams
  pub inner_is : places ≡ inner_in (main_of nodes)
  inner_is = h.places_are ∙ ap inner_in (sym h.main_is)

  -- and have actors and words
  pub inner_within : AllByRecursion (IsWithin (length net.actors) (length words)) places
  inner_within =
      let clock = clock_of nodes clocks h.proper h.clocked [] main h.main_is in
      let count = clock.is.count in
      let known : length words ≡ length clock.clock.words = ap length (h.words_are ∙ ap words_in clock.stands) in
      let few = places_within nodes (length nodes - 1) main h.proper h.main_is in
      subst (AllByRecursion (IsWithin (length net.actors) (length words))) (sym h.places_are)
      (named_within main (length net.actors) (length words) (inner_of main) (omega (arith, few, h.flat.count)) (omega (arith, known, count)) (inner_named main))

-- the streams of main's results are those of these places
pub main_played : {E : Type 0} (kinds : List HostKind) (lists : List (List ℤ)) (nodes : List PlacedNode) (clocks : List NodeClock) (t : ℕ) (main : PlacedNode) (results : List ℕ) (r : Result Played E) →
    IfOk r (λ played. played.streams ≡ map (main_stream kinds lists nodes clocks t) results) → main_of nodes ≡ Some main → results ≡ main.results →
    IfOk r (λ played. played.streams ≡ main_streams kinds lists nodes clocks t)
main_played kinds lists nodes clocks t main results (Ok played) is e f = is ∙ ap (map (main_stream kinds lists nodes clocks t)) (f ∙ sym (ap results_in e))
main_played kinds lists nodes clocks t main results (Err x) is e f = tt

-- what is known of the inner streams
pub none_inside : {E : Type 0} (kinds : List HostKind) (lists : List (List ℤ)) (nodes : List PlacedNode) (clocks : List NodeClock) (net : Net) (t : ℕ) (r : Result Played E) → IfOk r (λ played. played.inside ≡ None) → (CanShow nodes clocks net → ⊥) →
    IfOk r (λ played. AreInside kinds lists nodes clocks net t played.inside)
none_inside kinds lists nodes clocks net t (Ok played) e never = subst (AreInside kinds lists nodes clocks net t) (sym e) never
none_inside kinds lists nodes clocks net t (Err e) f never = tt

pub some_inside : {E : Type 0} (kinds : List HostKind) (lists : List (List ℤ)) (nodes : List PlacedNode) (clocks : List NodeClock) (net : Net) (t : ℕ) (places : List ℕ) (r : Result Played E) →
    IfOk r (λ played. played.inside ≡ Some (map (main_stream kinds lists nodes clocks t) places)) → CanShow nodes clocks net → places ≡ inner_in (main_of nodes) →
    IfOk r (λ played. AreInside kinds lists nodes clocks net t played.inside)
some_inside kinds lists nodes clocks net t places (Ok played) e can is = subst (AreInside kinds lists nodes clocks net t) (sym e) (can, ap (map (main_stream kinds lists nodes clocks t)) is)
some_inside kinds lists nodes clocks net t places (Err e) f can is = tt
