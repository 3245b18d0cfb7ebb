-- The net of a program with an output more for each inner stream of main.
use Rattle.std.proofs.Common.{ℕ, suc, zero, ◌+◌, ◌-◌, ◌<◌, ◌≤◌, ◌≡◌, List, [], ◌∷◌, ◌++◌, Some, length, map, take, drop, ap, sym, refl, ◌∙◌, subst, append_assoc, arith}
use Rattle.std.specs.Prelude.{ℤ, slice_get, slice_index_or}
use Rattle.std.specs.List.{AllByRecursion, range_with_len}
use Rattle.std.proofs.lemmas.List.{take-append-drop, length-drop}
use Rattle.std.proofs.lemmas.Option.{same_Some, slice_get_within}
use Rattle.lucy_word.specs.Bits.{Bits}
use Rattle.lucy_word.specs.Shortest.{Same}
use Rattle.lucy_word.specs.Limits.{limit_number}
use Rattle.lucy_word.specs.declared.limit.Limit.TheVariants as limit
use Rattle.lucy_host.specs.Operators.{Operator}
use Rattle.lucy_host.proofs.Elements.{get_there}
use Rattle.lucy_stream.specs.Items.{list_at}
use Rattle.lucy_stream.specs.Iterates.{iterate}
use Rattle.lucy_place.specs.declared.placed.PlacedNode.{PlacedNode}
use Rattle.lucy_place.specs.declared.entry.PlaceKind.{PlaceKind}
use Rattle.lucy_place.specs.declared.entry.PlaceKind.TheVariants as place_kind
use Rattle.lucy_place.specs.Proper.{IsPlace, AreProper, Stands}
use Rattle.lucy_clock.specs.declared.node_clock.NodeClock.{NodeClock}
use Rattle.lucy_net.specs.declared.kind.ActorKind.{ActorKind}
use Rattle.lucy_net.specs.declared.net.Actor.{Actor}
use Rattle.lucy_net.specs.declared.net.Net.{Net}
use Rattle.lucy_net.specs.Plans.{form_of, giver}
use Rattle.lucy_net.specs.Causal.{net_places}
use Rattle.lucy_net.specs.Proper.{output_of, IsProper, IsWriteWord, IsSupplied}
use Rattle.lucy_net.proofs.NumberedLaws.{numbers_of}
use Rattle.lucy_net.specs.States.{KnowsOperator}
use Rattle.lucy_net.specs.Schedules.{Timetable, IsScheduleOf}
use Rattle.lucy_core.specs.Seen.{CanMakeCore}
use Rattle.lucy_kahn.specs.Spots.{at, main_of, spot_form, results_in, IsSpot}
use Rattle.lucy_kahn.specs.Sizes.{all_places}
use Rattle.lucy_kahn.specs.Numbers.{number}
use Rattle.lucy_kahn.proofs.Closed.{place_spot}
use Rattle.lucy_kahn.proofs.Paths.{is_at}
use Rattle.lucy_kahn.proofs.Numbered.{number_below, number_reached}
use Rattle.lucy_flat.specs.Clocked.{AreClocked}
use Rattle.lucy_flat.specs.Instances.{IsSpotWord}
use Rattle.lucy_flat.specs.Flat.{IsFlat, fires_at}
use Rattle.lucy_flat.proofs.DraftLaws.{main_word as main_word_is}
use Rattle.lucy_flat.proofs.RingWords.{form_back, none_out}
use Rattle.lucy_flat.proofs.SpotWords.{spot_same, feeds}
use Rattle.lucy_flat.proofs.FlatLaws.{main_spot}
use Rattle.lucy_flat.proofs.MeaningLaws.{places_iterate}
use Rattle.lucy_results.specs.Streams.{main_word}
use Rattle.lucy_results.proofs.NetLaws.{gives_below, main_counts}
use Rattle.lucy_wave.specs.Watching.{with_output, with_outputs, HasRoom}
use Rattle.lucy_wave.specs.Seen.{IsGrown, IsFedBy, AreFed}
use Rattle.lucy_wave.proofs.GiveLaws as give
use Rattle.lucy_wave.proofs.ProperLaws.{MayGive, with_output_proper, with_output_supplied, with_output_known}
use Rattle.lucy_wave.proofs.FedLaws.{takes_there, still_grown, still_fed, newly_fed}

-- numbers of actors in parts
numbers_append : (numbered : ActorKind → List ℕ) (xs ys : List Actor) → numbers_of numbered (xs ++ ys) ≡ numbers_of numbered xs ++ numbers_of numbered ys
numbers_append numbered [] ys = refl
numbers_append numbered (x ∷ xs) ys = ap (λ ns. numbered x.kind ++ ns) (numbers_append numbered xs ys) ∙ sym (append_assoc (numbered x.kind) (numbers_of numbered xs) (numbers_of numbered ys))

numbers_none : (xs : List Actor) → ((i : ℕ) (x : Actor) → slice_get xs i ≡ Some x → output_of x.kind ≡ []) → numbers_of output_of xs ≡ []
numbers_none [] none = refl
numbers_none (x ∷ xs) none = ap (λ ns. ns ++ numbers_of output_of xs) (none zero x refl) ∙ numbers_none xs (λ i y e. none (suc i) y e)

numbers_row : (first : ℕ) (xs : List Actor) → ((i : ℕ) (x : Actor) → slice_get xs i ≡ Some x → output_of x.kind ≡ (first + i) ∷ []) → numbers_of output_of xs ≡ range_with_len first (length xs)
numbers_row first [] each = refl
numbers_row first (x ∷ xs) each =
    let here : first + 0 ≡ first = omega arith in
    ap (λ ns. ns ++ numbers_of output_of xs) (each zero x refl ∙ ap (λ n. n ∷ []) here)
    ∙ ap (λ ns. first ∷ ns) (numbers_row (first + 1) xs (λ i y e. each (suc i) y e ∙ (let s : first + suc i ≡ first + 1 + i = omega arith in ap (λ n. n ∷ []) s)))

get_take : {A : Type 0} (n : ℕ) (xs : List A) (i : ℕ) (x : A) → slice_get (take n xs) i ≡ Some x → (slice_get xs i ≡ Some x) × (i < n)
get_take zero [] i x e = absurd (cc e)
get_take zero (y ∷ xs) i x e = absurd (cc e)
get_take (suc n) [] i x e = absurd (cc e)
get_take (suc n) (y ∷ xs) zero x e = (e, omega arith)
get_take (suc n) (y ∷ xs) (suc i) x e = let r = get_take n xs i x e in (r.0, (let l = r.1 in omega arith))

get_drop : {A : Type 0} (n : ℕ) (xs : List A) (i : ℕ) (x : A) → slice_get (drop n xs) i ≡ Some x → slice_get xs (n + i) ≡ Some x
get_drop zero xs i x e = let z : i ≡ 0 + i = omega arith in ap (slice_get xs) (sym z) ∙ e
get_drop (suc n) [] i x e = absurd (cc e)
get_drop (suc n) (y ∷ xs) i x e = let s : suc n + i ≡ suc (n + i) = omega arith in ap (slice_get (y ∷ xs)) s ∙ get_drop n xs i x e

module _ (nodes : List PlacedNode) (clocks : List NodeClock) (net : Net) (proper : AreProper nodes) (flat : IsFlat nodes clocks net) where
  -- its outputs are those of main's results, in order
  pub outputs_row : numbers_of output_of net.actors ≡ range_with_len 0 (length (results_in (main_of nodes)))
  outputs_row =
      let A : ℕ = all_places nodes in
      ap (numbers_of output_of) (sym (take-append-drop A net.actors))
      ∙ numbers_append output_of (take A net.actors) (drop A net.actors)
      ∙ ap (λ ns. ns ++ numbers_of output_of (drop A net.actors)) (numbers_none (take A net.actors) first_none)
      ∙ numbers_row 0 (drop A net.actors) last_own
      ∙ ap (range_with_len 0) (omega (arith, length-drop {A = Actor} A net.actors, flat.count))
    where
      first_none : (i : ℕ) (x : Actor) → slice_get (take (all_places nodes) net.actors) i ≡ Some x → output_of x.kind ≡ []
      first_none i x e =
          let g = get_take (all_places nodes) net.actors i x e in
          let r = number_reached nodes proper i g.1 in
          let of = flat.actors r.0 r.1.0 r.1.1 in
          let same : of.actor ≡ x = same_Some of.actor x (sym of.there ∙ ap (slice_get net.actors) r.2 ∙ g.0) in
          ap (λ (y : Actor). output_of y.kind) (sym same) ∙ ap output_of of.does ∙ none_out (spot_form r.0 r.1.0)

      last_own : (i : ℕ) (x : Actor) → slice_get (drop (all_places nodes) net.actors) i ≡ Some x → output_of x.kind ≡ (0 + i) ∷ []
      last_own i x e =
          let g = get_drop (all_places nodes) net.actors i x e in
          let within = slice_get_within net.actors (all_places nodes + i) x g in
          let result = get_there (results_in (main_of nodes)) i (omega (arith, flat.count)) in
          let of = flat.outputs i result.0 result.1 in
          let same : of.actor ≡ x = same_Some of.actor x (sym of.there ∙ g) in
          let z : i ≡ 0 + i = omega arith in
          ap (λ (y : Actor). output_of y.kind) (sym same) ∙ ap output_of of.kind ∙ ap (λ n. n ∷ []) z

  -- a place of main is an actor's
  pub place_below : (place : ℕ) → IsSpot nodes (at [] place) → place - 1 < all_places nodes
  place_below place spot =
      let low = number_below nodes proper (at [] place) spot in
      let same : number nodes (at [] place) ≡ place - 1 = omega arith in
      omega arith

  pub place_there : (place : ℕ) → IsSpot nodes (at [] place) → place - 1 < length net.actors
  place_there place spot = let low = place_below place spot in omega (arith, flat.count)

  pub flat_grown : IsGrown nodes net
  flat_grown = record {
    below = gives_below nodes clocks proper net flat;
    iterates = λ kinds inputs n place spot.
        (let same : place - 1 ≡ number nodes (at [] place) = omega arith in
        ap (λ a. list_at (iterate kinds inputs (net_places net) n) a) same
        ∙ places_iterate nodes clocks net proper flat kinds inputs n (at [] place) spot);
  }

  -- what the outputs of results take
  first_of : (f : ℕ → ℕ) (xs : List ℕ) (x : ℕ) → map f xs ≡ x ∷ [] → (r : ℕ) × (slice_get xs 0 ≡ Some r) × (slice_index_or xs 0 0 ≡ r) × (f r ≡ x)
  first_of f [] x e = absurd (cc e)
  first_of f (y ∷ ys) x e = (y, refl, refl, cc)

  pub flat_fed : AreFed nodes clocks net 0 (results_in (main_of nodes))
  flat_fed i place e =
      let of = flat.outputs i place e in
      let first = first_of (giver net) of.actor.takes (number nodes (at [] place)) of.reads in
      let ring = takes_there net flat.proper (all_places nodes + i) 0 first.0 of.actor of.there first.1 in
      let same : number nodes (at [] place) ≡ place - 1 = omega arith in
      let z : i ≡ 0 + i = omega arith in
      subst (λ n. IsFedBy nodes clocks net n place) z (record {
        spot = main_spot nodes proper i place e;
        index = all_places nodes + i;
        actor = of.actor;
        output = record { there = of.there; kind = of.kind };
        counts = λ t. main_counts nodes clocks place t of.actor.firing of.firing;
        ring = subst (λ r. r < length net.rings) (sym first.2) ring;
        from = ap (giver net) first.2 ∙ first.3 ∙ same;
      })

  module _ (clocked : AreClocked nodes clocks) where
    alike : (place : ℕ) (firing : Bits) → IsSpotWord nodes clocks (at [] place) firing → Same firing (main_word nodes clocks place)
    alike place firing word = spot_same nodes clocks (at [] place) firing (main_word nodes clocks place) word (main_word_is nodes clocks place (main_word nodes clocks place) refl)

    -- an actor gives on the word of its place
    writes : (n : PlacedNode) (place : ℕ) (kind : PlaceKind) (firing : Bits) → main_of nodes ≡ Some n → Stands n place kind → IsSpotWord nodes clocks (fires_at (at [] place) kind) firing →
        IsWriteWord (spot_form (at [] place) kind) firing (main_word nodes clocks place)
    writes n place place_kind.Param firing e stands word = alike place firing word
    writes n place (place_kind.Defined q) firing e stands word = alike place firing word
    writes n place (place_kind.Lit l) firing e stands word = alike place firing word
    writes n place (place_kind.Op op args) firing e stands word = alike place firing word
    writes n place (place_kind.Host op a b) firing e stands word = alike place firing word
    writes n place (place_kind.When q p) firing e stands word =
        feeds nodes clocks proper clocked [] n place (place_kind.When q p) e stands 0 (at [] q) firing (main_word nodes clocks place) refl word (main_word_is nodes clocks place (main_word nodes clocks place) refl)
    writes n place (place_kind.Merge p a b) firing e stands word = alike place firing word
    writes n place (place_kind.Fby l q) firing e stands word = alike place firing word
    writes n place (place_kind.Buffer k q) firing e stands word = alike place firing word
    writes n place (place_kind.Result c j) firing e stands word = alike place firing word

    pub may_give : (n : PlacedNode) (place : ℕ) → main_of nodes ≡ Some n → IsPlace n place → MayGive net place (main_word nodes clocks place)
    may_give n place e is =
        let spot = place_spot nodes [] n place e is in
        let of = flat.actors (at [] place) spot.0 spot.1 in
        let own = is_at (main_of nodes) place spot.0 spot.1 in
        let same : own.node ≡ n = same_Some own.node n (sym own.node_is ∙ e) in
        let stands : Stands n place spot.0 = subst (λ (m : PlacedNode). Stands m place spot.0) same (own.entry, own.stands, own.kind_is) in
        let form : spot_form (at [] place) spot.0 ≡ form_of of.actor.kind = sym (ap form_of of.does ∙ form_back (spot_form (at [] place) spot.0)) in
        let index : number nodes (at [] place) ≡ place - 1 = omega arith in
        record {
          actor = of.actor;
          found = ap (slice_get net.actors) (sym index) ∙ of.there;
          write = subst (λ f. IsWriteWord f of.actor.firing (main_word nodes clocks place)) form (writes n place spot.0 of.actor.firing e stands of.firing);
          inner = ap output_of of.does ∙ none_out (spot_form (at [] place) spot.0);
        }

-- with one output more, an actor may still have others
still_may : (net : Net) (output place : ℕ) (word : Bits) (other : ℕ) (own : Bits) → MayGive net other own → MayGive (with_output net output place word) other own
still_may net output place word other own may =
    let to = give.keeps net output place word (other - 1) may.actor may.found in
    record { actor = record may.actor { gives = to.0 }; found = to.1; write = may.write; inner = may.inner }

-- room for more is room for one, and for the others behind it
first_room : (net : Net) (n : ℕ) → HasRoom net (suc n) → HasRoom net 1
first_room net n room = (let a = room.0 in omega arith, let b = room.1 in omega arith, let c = room.2 in omega arith)

next_room : (net : Net) (output place : ℕ) (word : Bits) (n : ℕ) → HasRoom net (suc n) → HasRoom (with_output net output place word) n
next_room net output place word n room = (
  omega (arith, give.actors_count net output place word, room.0),
  omega (arith, give.rings_count net output place word, room.1),
  omega (arith, give.slots_count net output place word, room.2),
)

-- what is known of a net of the program, with so many outputs
pub record IsReady (nodes : List PlacedNode) (clocks : List NodeClock) (inputs : List (List ℤ)) (t count output : ℕ) (net : Net) : Type 0 where
  pub proper : IsProper net
  pub numbered : numbers_of output_of net.actors ≡ range_with_len 0 output
  pub grown : IsGrown nodes net
  pub there_are : (p : ℕ) → IsSpot nodes (at [] p) → p - 1 < length net.actors
  pub supplied : IsSupplied inputs net t
  pub known : (a : ℕ) (actor : Actor) → slice_get net.actors a ≡ Some actor → KnowsOperator actor.kind count

module _ (nodes : List PlacedNode) (clocks : List NodeClock) (inputs : List (List ℤ)) (t count : ℕ) (below : (place : ℕ) → IsSpot nodes (at [] place) → place - 1 < all_places nodes) where
  -- a place of main that may have an output
  abbrev pub MayHave : Net → ℕ → Type 0
  MayHave net place = IsSpot nodes (at [] place) × MayGive net place (main_word nodes clocks place)

  next_ready : (net : Net) (output place : ℕ) → IsReady nodes clocks inputs t count output net → MayHave net place → HasRoom net 1 →
      IsReady nodes clocks inputs t count (output + 1) (with_output net output place (main_word nodes clocks place))
  next_ready net output place ready may room =
      let word : Bits = main_word nodes clocks place in
      record {
        proper = with_output_proper net output place word may.1 ready.proper ready.numbered room;
        numbered = give.outputs_are net output place word ready.numbered;
        grown = still_grown net output place word ready.proper nodes ready.grown (below place may.0) ready.there_are;
        there_are = λ p spot. (let l = ready.there_are p spot in omega (arith, give.actors_count net output place word));
        supplied = with_output_supplied net output place word may.1 ready.proper inputs t ready.supplied;
        known = with_output_known net output place word may.1 ready.proper count ready.known;
      }

  all_may : (net : Net) (output place : ℕ) (places : List ℕ) → AllByRecursion (MayHave net) places → AllByRecursion (MayHave (with_output net output place (main_word nodes clocks place))) places
  all_may net output place [] all = tt
  all_may net output place (p ∷ places) all = ((all.0.0, still_may net output place (main_word nodes clocks place) p (main_word nodes clocks p) all.0.1), all_may net output place places all.1)

  -- the net with all of them is ready, what was fed is, and so are the new outputs
  pub with_outputs_ready : (places : List ℕ) (net : Net) (output : ℕ) → IsReady nodes clocks inputs t count output net → AllByRecursion (MayHave net) places → HasRoom net (length places) →
      IsReady nodes clocks inputs t count (output + length places) (with_outputs net (main_word nodes clocks) output places)
  unfolding with_outputs
  with_outputs_ready [] net output ready all room = let z : output ≡ output + 0 = omega arith in subst (λ n. IsReady nodes clocks inputs t count n net) z ready
  with_outputs_ready (p ∷ places) net output ready all room =
      let next = with_output net output p (main_word nodes clocks p) in
      let s : output + 1 + length places ≡ output + suc (length places) = omega arith in
      subst (λ n. IsReady nodes clocks inputs t count n (with_outputs next (main_word nodes clocks) (output + 1) places)) s
      (with_outputs_ready places next (output + 1) (next_ready net output p ready all.0 (first_room net (length places) room)) (all_may net output p places all.1) (next_room net output p (main_word nodes clocks p) (length places) room))

  pub with_outputs_keep : (places : List ℕ) (net : Net) (output : ℕ) → IsReady nodes clocks inputs t count output net → AllByRecursion (MayHave net) places → HasRoom net (length places) →
      (number of : ℕ) → IsFedBy nodes clocks net number of → IsFedBy nodes clocks (with_outputs net (main_word nodes clocks) output places) number of
  unfolding with_outputs
  with_outputs_keep [] net output ready all room number of fed = fed
  with_outputs_keep (p ∷ places) net output ready all room number of fed =
      let word : Bits = main_word nodes clocks p in
      with_outputs_keep places (with_output net output p word) (output + 1) (next_ready net output p ready all.0 (first_room net (length places) room)) (all_may net output p places all.1)
      (next_room net output p word (length places) room) number of (still_fed net output p word ready.proper nodes clocks number of fed)

  pub with_outputs_fed : (places : List ℕ) (net : Net) (output : ℕ) → IsReady nodes clocks inputs t count output net → AllByRecursion (MayHave net) places → HasRoom net (length places) →
      AreFed nodes clocks (with_outputs net (main_word nodes clocks) output places) output places
  unfolding with_outputs
  with_outputs_fed [] net output ready all room i place e = absurd (cc e)
  with_outputs_fed (p ∷ places) net output ready all room zero place e =
      let word : Bits = main_word nodes clocks p in
      let same : p ≡ place = same_Some p place e in
      let z : output ≡ output + 0 = omega arith in
      subst (λ n. IsFedBy nodes clocks (with_outputs (with_output net output p word) (main_word nodes clocks) (output + 1) places) n place) z
      (subst (IsFedBy nodes clocks (with_outputs (with_output net output p word) (main_word nodes clocks) (output + 1) places) output) same
      (with_outputs_keep places (with_output net output p word) (output + 1) (next_ready net output p ready all.0 (first_room net (length places) room)) (all_may net output p places all.1)
      (next_room net output p word (length places) room) output p (newly_fed net output p word ready.proper nodes clocks all.0.0 (λ t. refl))))
  with_outputs_fed (p ∷ places) net output ready all room (suc i) place e =
      let word : Bits = main_word nodes clocks p in
      let s : output + 1 + i ≡ output + suc i = omega arith in
      subst (λ n. IsFedBy nodes clocks (with_outputs (with_output net output p word) (main_word nodes clocks) (output + 1) places) n place) s
      (with_outputs_fed places (with_output net output p word) (output + 1) (next_ready net output p ready all.0 (first_room net (length places) room)) (all_may net output p places all.1)
      (next_room net output p word (length places) room) i place e)

-- a core can be made of a net that is ready
pub ready_fixed : (nodes : List PlacedNode) (clocks : List NodeClock) (inputs : List (List ℤ)) (t output : ℕ) (operators : List Operator) (net : Net) (schedule : Timetable) → t ≤ limit_number limit.Instants →
    IsReady nodes clocks inputs t (length operators) output net → IsScheduleOf net schedule → CanMakeCore net schedule inputs operators t
ready_fixed nodes clocks inputs t output operators net schedule early ready is =
    record { proper = ready.proper; sound = is.sound; early = early; supplied = ready.supplied; known = ready.known }
