-- What holds of the output streams.
use Rattle.std.proofs.Common.{ℕ, suc, zero, ◌+◌, ◌*◌, ◌≤◌, ◌≡◌, List, [], ◌∷◌, Some, length, map, take, ap, sym, refl, ◌∙◌, arith}
use Rattle.std.specs.Prelude.{ℤ, slice_get}
use Rattle.std.proofs.lemmas.List.{length-map, length-take-le}
use Rattle.std.proofs.lemmas.List.FromFn.{length-map-range_with_len}
use Rattle.std.proofs.lemmas.Simd.{map-map}
use Rattle.std.proofs.lemmas.Option.{same_Some}
use Rattle.lucy_word.specs.Bits.{Bits, ones_to}
use Rattle.lucy_host.specs.declared.kind.HostKind.{HostKind}
use Rattle.lucy_stream.specs.Items.{list_at}
use Rattle.lucy_stream.specs.Fronts.{IsFront, AreFronts}
use Rattle.lucy_stream.proofs.FrontLaws.{IsFront-take}
use Rattle.lucy_host.specs.Operators.{kinds_of}
use Rattle.lucy_stream.specs.Schedules.{events_to}
use Rattle.lucy_place.specs.declared.placed.PlacedNode.{PlacedNode}
use Rattle.lucy_place.specs.Proper.{AreProper}
use Rattle.lucy_clock.specs.declared.node_clock.NodeClock.{NodeClock}
use Rattle.lucy_kahn.specs.Spots.{Spot, at, main_of, results_in, results_of}
use Rattle.lucy_kahn.specs.Sizes.{all_places}
use Rattle.lucy_kahn.specs.Kahn.{kahn}
use Rattle.lucy_kahn.specs.Horizons.{Suffice}
use Rattle.lucy_kahn.proofs.ByNumber.{kahn_inputs}
use Rattle.lucy_kahn.specs.Turns.{params_in}
use Rattle.lucy_net.specs.declared.net.Actor.{Actor}
use Rattle.lucy_net.specs.Orders.{IsSound}
use Rattle.lucy_net.proofs.NumberedLaws.{outputs_apart}
use Rattle.lucy_net.specs.Schedules.{events_at}
use Rattle.lucy_core.specs.Seen.{Seen, IsOutputOf, first_ring, stream_of}
use Rattle.lucy_flat.specs.Flat.{IsFlat}
use Rattle.lucy_flat.proofs.FlatLaws.{main_spot}
use Rattle.lucy_results.specs.Streams.{main_word, param_words, result_words, main_stream, main_streams, cut_to, cut_inputs}
use Rattle.lucy_results.specs.Running.{HasSchedule}
use Rattle.lucy_results.proofs.NetLaws.{output_stream}
use Rattle.lucy_results.proofs.WholeLaws.{enough}

-- a list that is cut
pub cut_at : (t : ℕ) (words : List Bits) (lists : List (List ℤ)) (i : ℕ) (word : Bits) → length words ≡ length lists → slice_get words i ≡ Some word → list_at (cut_to t words lists) i ≡ take (ones_to word t) (list_at lists i)
cut_at t [] lists i word l e = absurd (cc e)
cut_at t (w ∷ words) [] i word l e = absurd (omega arith)
cut_at t (w ∷ words) (xs ∷ lists) zero word l e = ap (λ u. take (ones_to u t) xs) (same_Some w word e)
cut_at t (w ∷ words) (xs ∷ lists) (suc i) word l e = cut_at t words lists i word (omega arith) e

pub cut_count : (t : ℕ) (words : List Bits) (lists : List (List ℤ)) → length words ≡ length lists → length (cut_to t words lists) ≡ length words
cut_count t [] lists l = refl
cut_count t (w ∷ words) [] l = absurd (omega arith)
cut_count t (w ∷ words) (xs ∷ lists) l = ap suc (cut_count t words lists (omega arith))

-- is a front of it
pub cut_front : (t : ℕ) (words : List Bits) (lists : List (List ℤ)) → AreFronts (cut_to t words lists) lists
cut_front t [] lists i = tt
cut_front t (w ∷ words) [] i = tt
cut_front t (w ∷ words) (xs ∷ lists) zero = IsFront-take (ones_to w t) xs
cut_front t (w ∷ words) (xs ∷ lists) (suc i) = cut_front t words lists i

pub cut_suffices : (words : List Bits) (lists : List (List ℤ)) (t : ℕ) → length words ≡ length lists → Suffice words lists t → Suffice words (cut_to t words lists) t
cut_suffices words lists t l suffice i word e =
    let whole = suffice i word e in
    let cut : length (list_at (cut_to t words lists) i) ≡ length (take (ones_to word t) (list_at lists i)) = ap length (cut_at t words lists i word l e) in
    omega (arith, cut, length-take-le (ones_to word t) (list_at lists i) whole)

-- lists that are made place by place, and then cut, are cut place by place
pub cut_mapped : (t : ℕ) (word : ℕ → Bits) (list : Spot → List ℤ) (places : List ℕ) → cut_to t (map word places) (map list (map (at []) places)) ≡ map (λ place. take (ones_to (word place) t) (list (at [] place))) places
cut_mapped t word list [] = refl
cut_mapped t word list (place ∷ places) = ap (λ xs. take (ones_to (word place) t) (list (at [] place)) ∷ xs) (cut_mapped t word list places)

-- a front of a list begins as the list does
pub front_takes : (xs ys : List ℤ) (k : ℕ) → IsFront xs ys → k ≤ length xs → take k xs ≡ take k ys
front_takes xs ys zero f l = refl
front_takes [] ys (suc k) f l = absurd (omega arith)
front_takes (x ∷ xs) [] (suc k) f l = absurd f
front_takes (x ∷ xs) (y ∷ ys) (suc k) f l = ap (λ u. u ∷ take k xs) f.0 ∙ ap (λ zs. y ∷ zs) (front_takes xs ys k f.1 (omega arith))

-- what holds of each place of a list holds of what is made of them
pub map_same : {A : Type 0} (f g : ℕ → A) (places : List ℕ) → ((i place : ℕ) → slice_get places i ≡ Some place → f place ≡ g place) → map f places ≡ map g places
map_same f g [] h = refl
map_same f g (place ∷ places) h = ap (λ x. x ∷ map f places) (h 0 place refl) ∙ ap (λ xs. g place ∷ xs) (map_same f g places (λ i p e. h (suc i) p e))

pub params_count : (nodes : List PlacedNode) (clocks : List NodeClock) → length (param_words nodes clocks) ≡ params_in (main_of nodes)
params_count nodes clocks = length-map-range_with_len (main_word nodes clocks) 1 (params_in (main_of nodes))

pub results_count : (nodes : List PlacedNode) (clocks : List NodeClock) → length (result_words nodes clocks) ≡ length (results_in (main_of nodes))
results_count nodes clocks = length-map (results_in (main_of nodes)) (main_word nodes clocks)

module _ (nodes : List PlacedNode) (clocks : List NodeClock) (proper : AreProper nodes) (schedule : HasSchedule nodes clocks) where
  -- the iterate has the items of a stream
  pub long : (kinds : List HostKind) (inputs : List (List ℤ)) (t : ℕ) → Suffice (param_words nodes clocks) inputs t → (i place : ℕ) → slice_get (results_in (main_of nodes)) i ≡ Some place →
      ones_to (main_word nodes clocks place) t ≤ length (kahn kinds inputs nodes (t * all_places nodes) (at [] place))
  long kinds inputs t suffice i place e = enough nodes clocks proper schedule.net schedule.flat kinds inputs t (events_to schedule.events t) suffice (schedule.sound t) i place e

  pub lengths : (kinds : List HostKind) (inputs : List (List ℤ)) (t : ℕ) → Suffice (param_words nodes clocks) inputs t →
      map length (main_streams kinds inputs nodes clocks t) ≡ map (λ word. ones_to word t) (result_words nodes clocks)
  lengths kinds inputs t suffice =
      map-map length (main_stream kinds inputs nodes clocks t) (results_in (main_of nodes))
      ∙ map_same (λ place. length (main_stream kinds inputs nodes clocks t place)) (λ place. ones_to (main_word nodes clocks place) t) (results_in (main_of nodes))
      (λ i place e. length-take-le (ones_to (main_word nodes clocks place) t) (kahn kinds inputs nodes (t * all_places nodes) (at [] place)) (long kinds inputs t suffice i place e))
      ∙ sym (map-map (λ word. ones_to word t) (main_word nodes clocks) (results_in (main_of nodes)))

  module _ (inputs : List (List ℤ)) (params : params_in (main_of nodes) ≡ length inputs) (t : ℕ) (suffice : Suffice (param_words nodes clocks) inputs t) where
    words_count : length (param_words nodes clocks) ≡ length inputs
    words_count = params_count nodes clocks ∙ params

    pub cut_enough : Suffice (param_words nodes clocks) (cut_inputs nodes clocks inputs t) t
    cut_enough = cut_suffices (param_words nodes clocks) inputs t words_count suffice

    pub cut_stream : (kinds : List HostKind) (i place : ℕ) → slice_get (results_in (main_of nodes)) i ≡ Some place →
        main_stream kinds (cut_inputs nodes clocks inputs t) nodes clocks t place ≡ main_stream kinds inputs nodes clocks t place
    cut_stream kinds i place e =
        front_takes (kahn kinds (cut_inputs nodes clocks inputs t) nodes (t * all_places nodes) (at [] place)) (kahn kinds inputs nodes (t * all_places nodes) (at [] place)) (ones_to (main_word nodes clocks place) t)
        (kahn_inputs nodes proper kinds (cut_inputs nodes clocks inputs t) inputs (t * all_places nodes) (at [] place) (main_spot nodes proper i place e) (cut_front t (param_words nodes clocks) inputs))
        (long kinds (cut_inputs nodes clocks inputs t) t cut_enough i place e)

    pub cut_streams : (kinds : List HostKind) → main_streams kinds (cut_inputs nodes clocks inputs t) nodes clocks t ≡ main_streams kinds inputs nodes clocks t
    cut_streams kinds = map_same (main_stream kinds (cut_inputs nodes clocks inputs t) nodes clocks t) (main_stream kinds inputs nodes clocks t) (results_in (main_of nodes)) (cut_stream kinds)

    -- what the interpreter has, cut
    pub interpreted : (kinds : List HostKind) → cut_to t (result_words nodes clocks) (map (kahn kinds (cut_inputs nodes clocks inputs t) nodes (t * all_places nodes)) (results_of nodes)) ≡ main_streams kinds inputs nodes clocks t
    interpreted kinds = cut_mapped t (main_word nodes clocks) (kahn kinds (cut_inputs nodes clocks inputs t) nodes (t * all_places nodes)) (results_in (main_of nodes)) ∙ cut_streams kinds

    pub interpreted_by : (kinds : List HostKind) (places : ℕ) (front lists cut : List (List ℤ)) → places ≡ all_places nodes → front ≡ cut_inputs nodes clocks inputs t →
        lists ≡ map (kahn kinds front nodes (t * places)) (results_of nodes) → cut ≡ cut_to t (result_words nodes clocks) lists → cut ≡ main_streams kinds inputs nodes clocks t
    interpreted_by kinds places front lists cut e f g h =
        h
        ∙ ap (cut_to t (result_words nodes clocks))
        (g ∙ ap (λ xs. map (kahn kinds xs nodes (t * places)) (results_of nodes)) f ∙ ap (λ n. map (kahn kinds (cut_inputs nodes clocks inputs t) nodes (t * n)) (results_of nodes)) e)
        ∙ interpreted kinds

-- the stream of an output, cut, is what the interpreter has of its result
pub two_agree : (seen : Seen) (nodes : List PlacedNode) (clocks : List NodeClock) (i place a : ℕ) (actor : Actor) → AreProper nodes → IsFlat nodes clocks seen.net → IsSound seen.net (events_at seen.schedule) →
    params_in (main_of nodes) ≡ length seen.inputs → Suffice (param_words nodes clocks) seen.inputs seen.instants → slice_get (results_in (main_of nodes)) i ≡ Some place → IsOutputOf seen.net i a actor →
    take (ones_to actor.firing seen.instants) (stream_of seen (all_places nodes) (first_ring actor))
    ≡ take (ones_to (main_word nodes clocks place) seen.instants) (kahn (kinds_of seen.operators) (cut_inputs nodes clocks seen.inputs seen.instants) nodes (seen.instants * all_places nodes) (at [] place))
two_agree seen nodes clocks i place a actor proper flat sound params suffice e out =
    let t : ℕ = seen.instants in
    let kinds : List HostKind = kinds_of seen.operators in
    let of = flat.outputs i place e in
    let number : all_places nodes + i ≡ a = outputs_apart seen.net.actors (all_places nodes + i) a i of.actor actor flat.proper.outputs of.there out.there of.kind out.kind in
    let same : of.actor ≡ actor = same_Some of.actor actor (sym of.there ∙ ap (slice_get seen.net.actors) number ∙ out.there) in
    let schedule : HasSchedule nodes clocks = record { net = seen.net; events = events_at seen.schedule; flat = flat; sound = sound } in
    ap (λ (x : Actor). take (ones_to x.firing t) (stream_of seen (all_places nodes) (first_ring x))) (sym same)
    ∙ output_stream nodes clocks proper seen.net flat kinds seen.inputs t i place e
    ∙ sym (cut_stream nodes clocks proper schedule seen.inputs params t suffice kinds i place e)
