-- Streams past an earlier horizon, from inputs that go on.
use Rattle.std.proofs.Common.{ℕ, suc, zero, ◌*◌, ◌≤◌, ◌≡◌, List, [], ◌∷◌, ◌++◌, length, map, take, drop, ap, sym, refl, ◌∙◌, arith, cond}
use Rattle.std.specs.Prelude.{ℤ, Some, slice_get}
use Rattle.std.proofs.Math.Nat.{mul-le-mul_left}
use Rattle.std.proofs.lemmas.List.{take-take}
use Rattle.std.proofs.lemmas.List.FromFn.{fill_by_all}
use Rattle.lucy_word.specs.Bits.{Bits, ones_to}
use Rattle.lucy_word.proofs.IndexLaws.{ones_to-rises}
use Rattle.lucy_word.proofs.BitsLaws.{ones_to-none}
use Rattle.lucy_host.specs.declared.kind.HostKind.{HostKind}
use Rattle.lucy_stream.specs.Items.{list_at}
use Rattle.lucy_stream.specs.Fronts.{IsFront, AreFronts}
use Rattle.lucy_stream.proofs.FrontLaws.{IsFront-trans}
use Rattle.lucy_place.specs.declared.placed.PlacedNode.{PlacedNode}
use Rattle.lucy_place.specs.Proper.{AreProper}
use Rattle.lucy_clock.specs.declared.node_clock.NodeClock.{NodeClock}
use Rattle.lucy_net.specs.declared.net.Net.{Net}
use Rattle.lucy_kahn.specs.Spots.{Spot, at, main_of, results_in}
use Rattle.lucy_kahn.specs.Sizes.{all_places}
use Rattle.lucy_kahn.specs.Kahn.{kahn}
use Rattle.lucy_kahn.specs.Horizons.{Suffice}
use Rattle.lucy_kahn.proofs.ByNumber.{kahn_inputs, kahn_later}
use Rattle.lucy_kahn.specs.Turns.{params_in}
use Rattle.lucy_flat.specs.Flat.{IsFlat}
use Rattle.lucy_flat.proofs.FlatLaws.{main_spot}
use Rattle.lucy_runner.specs.Views.{input_count}
use Rattle.lucy_runner.specs.Blocks.{longer_for, longer_inputs}
use Rattle.lucy_runner.proofs.InputLaws.{read_here}
use Rattle.lucy_results.specs.Streams.{main_word, param_words, result_words, main_stream, main_streams, later_stream, later_streams, cut_to}
use Rattle.lucy_results.specs.Running.{HasSchedule}
use Rattle.lucy_results.specs.Playing.{joined}
use Rattle.lucy_results.proofs.InputLaws.{inputs_counted, param_actor}
use Rattle.lucy_results.proofs.StreamLaws.{front_takes, map_same, long}

-- lists that are made number by number, and then cut, are cut number by number
cut_each : (t : ℕ) (word : ℕ → Bits) (list : ℕ → List ℤ) (places : List ℕ) → cut_to t (map word places) (map list places) ≡ map (λ place. take (ones_to (word place) t) (list place)) places
cut_each t word list [] = refl
cut_each t word list (place ∷ places) = ap (λ xs. take (ones_to (word place) t) (list place) ∷ xs) (cut_each t word list places)

module _ (nodes : List PlacedNode) (clocks : List NodeClock) (proper : AreProper nodes) (schedule : HasSchedule nodes clocks) where
  module _ (kinds : List HostKind) (inputs more : List (List ℤ)) (fronts : AreFronts inputs more) (s t : ℕ) (l : s ≤ t) (suffice : Suffice (param_words nodes clocks) inputs s) where
    -- the iterate of fewer instants is a front of that of more
    iterate_on : (spot : Spot) (i place : ℕ) → slice_get (results_in (main_of nodes)) i ≡ Some place →
        IsFront (kahn kinds inputs nodes (s * all_places nodes) (at [] place)) (kahn kinds more nodes (t * all_places nodes) (at [] place))
    iterate_on spot i place e =
        let is = main_spot nodes proper i place e in
        let later : s * all_places nodes ≤ t * all_places nodes = grind (arith, mul-le-mul_left (all_places nodes) l) in
        IsFront-trans (kahn kinds inputs nodes (s * all_places nodes) (at [] place)) (kahn kinds more nodes (s * all_places nodes) (at [] place)) (kahn kinds more nodes (t * all_places nodes) (at [] place))
        (kahn_inputs nodes proper kinds inputs more (s * all_places nodes) (at [] place) is fronts)
        (kahn_later nodes proper kinds more (s * all_places nodes) (t * all_places nodes) (at [] place) is later)

    -- so is the stream
    stream_on : (i place : ℕ) → slice_get (results_in (main_of nodes)) i ≡ Some place →
        take (ones_to (main_word nodes clocks place) s) (main_stream kinds more nodes clocks t place) ≡ main_stream kinds inputs nodes clocks s place
    stream_on i place e =
        let word : Bits = main_word nodes clocks place in
        let whole : List ℤ = kahn kinds more nodes (t * all_places nodes) (at [] place) in
        take-take (ones_to word s) (ones_to word t) whole (ones_to-rises word s t l)
        ∙ sym (front_takes (kahn kinds inputs nodes (s * all_places nodes) (at [] place)) whole (ones_to word s) (iterate_on (at [] place) i place e)
        (long nodes clocks proper schedule kinds inputs s suffice i place e))

    pub streams_on : cut_to s (result_words nodes clocks) (main_streams kinds more nodes clocks t) ≡ main_streams kinds inputs nodes clocks s
    streams_on =
        cut_each s (main_word nodes clocks) (main_stream kinds more nodes clocks t) (results_in (main_of nodes))
        ∙ map_same (λ place. take (ones_to (main_word nodes clocks place) s) (main_stream kinds more nodes clocks t place)) (main_stream kinds inputs nodes clocks s) (results_in (main_of nodes)) stream_on

-- inputs that go on give the same streams up to a horizon for which those before suffice
pub streams_same : (nodes : List PlacedNode) (clocks : List NodeClock) → AreProper nodes → HasSchedule nodes clocks → (kinds : List HostKind) (inputs more : List (List ℤ)) → AreFronts inputs more → (t : ℕ) →
    Suffice (param_words nodes clocks) inputs t → main_streams kinds more nodes clocks t ≡ main_streams kinds inputs nodes clocks t
streams_same nodes clocks proper schedule kinds inputs more fronts t suffice =
    map_same (main_stream kinds more nodes clocks t) (main_stream kinds inputs nodes clocks t) (results_in (main_of nodes))
    (λ i place e.
    sym (take-take (ones_to (main_word nodes clocks place) t) (ones_to (main_word nodes clocks place) t) (kahn kinds more nodes (t * all_places nodes) (at [] place)) (omega arith))
    ∙ stream_on nodes clocks proper schedule kinds inputs more fronts t t (omega arith) suffice i place e)

-- past no instant a stream is whole
pub later_first : (kinds : List HostKind) (inputs : List (List ℤ)) (nodes : List PlacedNode) (clocks : List NodeClock) (t : ℕ) → later_streams kinds inputs nodes clocks 0 t ≡ main_streams kinds inputs nodes clocks t
later_first kinds inputs nodes clocks t =
    map_same (later_stream kinds inputs nodes clocks 0 t) (main_stream kinds inputs nodes clocks t) (results_in (main_of nodes))
    (λ i place e. ap (λ n. drop n (main_stream kinds inputs nodes clocks t place)) (ones_to-none (main_word nodes clocks place)))

-- how long lists are that are joined
pub joined_count : (lists added : List (List ℤ)) → length (joined lists added) ≡ length lists
joined_count [] added = refl
joined_count (xs ∷ lists) [] = refl
joined_count (xs ∷ lists) (ys ∷ added) = ap suc (joined_count lists added)

-- a list that is joined
pub joined_at : (lists added : List (List ℤ)) (i : ℕ) → length lists ≡ length added → list_at (joined lists added) i ≡ list_at lists i ++ list_at added i
joined_at [] [] i e = refl
joined_at [] (ys ∷ added) i e = absurd (omega arith)
joined_at (xs ∷ lists) [] i e = absurd (omega arith)
joined_at (xs ∷ lists) (ys ∷ added) zero e = refl
joined_at (xs ∷ lists) (ys ∷ added) (suc i) e = joined_at lists added i (omega arith)

-- the longer lists of a net's inputs are those of the parameters, joined
pub longer_same : (nodes : List PlacedNode) (clocks : List NodeClock) (proper : AreProper nodes) (net : Net) (flat : IsFlat nodes clocks net) (held added : List (List ℤ)) →
    params_in (main_of nodes) ≡ length held → length held ≡ length added → longer_inputs net held added ≡ joined held added
longer_same nodes clocks proper net flat held added e f =
    let count = inputs_counted nodes clocks proper net flat in
    let all : length (joined held added) ≡ input_count net.actors = joined_count held added ∙ sym e ∙ sym count in
    sym (fill_by_all (longer_for net.actors held added) (joined held added) (input_count net.actors) [] all
    (λ k l. let actor = param_actor nodes clocks proper net flat k (omega (arith, count)) in
    joined_at held added k f ∙ ap (λ b. cond b (list_at held k ++ list_at added k) []) (sym (read_here net.actors actor.0 k actor.1 actor.2 actor.3))))
