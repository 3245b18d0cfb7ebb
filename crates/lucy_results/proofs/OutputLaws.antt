-- The outputs of a runner of a program's flat net, list by list.
use Rattle.std.proofs.Common.{ℕ, ◌+◌, ◌-◌, ◌<◌, ◌≤◌, ◌≡◌, List, [], ◌∷◌, ◌++◌, Some, length, map, take, drop, get_or, ap, sym, ◌∙◌, arith}
use Rattle.std.specs.Prelude.{ℤ, slice_get, option_map}
use Rattle.std.proofs.lemmas.List.{length-map, take_more}
use Rattle.std.proofs.lemmas.Option.{get_or_from_slice_get, slice_get-map}
use Rattle.lucy_word.specs.Bits.{Bits, ones_to}
use Rattle.lucy_word.proofs.Lists.{zeros_at}
use Rattle.lucy_host.specs.declared.kind.HostKind.{HostKind}
use Rattle.lucy_host.specs.Operators.{Operator, kinds_of}
use Rattle.lucy_host.proofs.Elements.{get_there}
use Rattle.lucy_stream.specs.Plans.{GiveBelow}
use Rattle.lucy_place.specs.declared.placed.PlacedNode.{PlacedNode}
use Rattle.lucy_place.specs.Proper.{AreProper}
use Rattle.lucy_clock.specs.declared.node_clock.NodeClock.{NodeClock}
use Rattle.lucy_net.specs.declared.net.Actor.{Actor}
use Rattle.lucy_net.specs.declared.net.Net.{Net}
use Rattle.lucy_net.specs.Schedules.{Timetable}
use Rattle.lucy_core.specs.Seen.{Seen, IsOver, IsUnbegun, IsOutputOf, first_ring, first_seen, done_of, stream_of, plan_of}
use Rattle.lucy_runner.specs.Views.{RunnerView}
use Rattle.lucy_kahn.specs.Spots.{main_of, results_in}
use Rattle.lucy_kahn.specs.Sizes.{all_places}
use Rattle.lucy_flat.specs.Flat.{IsFlat}
use Rattle.lucy_results.specs.Streams.{main_stream, later_stream, later_streams, cut_to}
use Rattle.lucy_results.proofs.NetLaws.{main_counts, output_of, output_stream, gives_below}
use Rattle.lucy_results.proofs.StreamLaws.{cut_at, cut_count}

-- main is the last node
pub main_here : (nodes : List PlacedNode) (count main : ℕ) (node : PlacedNode) → count ≡ length nodes → main ≡ count - 1 → slice_get nodes main ≡ Some node → main_of nodes ≡ Some node
main_here nodes count main node e f g = ap (slice_get nodes) (sym (f ∙ ap (λ n. n - 1) e)) ∙ g

-- main has as many results as its node
pub results_here : (nodes : List PlacedNode) (node : PlacedNode) → main_of nodes ≡ Some node → length (results_in (main_of nodes)) ≡ length node.results
results_here nodes node e = ap (λ o. length (results_in o)) e

-- results are fewer than actors
pub few_results : (nodes : List PlacedNode) (clocks : List NodeClock) (net : Net) → IsFlat nodes clocks net → length (results_in (main_of nodes)) ≤ 16384
few_results nodes clocks net flat = omega (arith, flat.count, flat.proper.few_actors)

pub few_places : (nodes : List PlacedNode) (clocks : List NodeClock) (net : Net) → IsFlat nodes clocks net → all_places nodes ≤ 16384
few_places nodes clocks net flat = omega (arith, flat.count, flat.proper.few_actors)

pub output_there : (nodes : List PlacedNode) (clocks : List NodeClock) (net : Net) → AreProper nodes → IsFlat nodes clocks net → (i : ℕ) → i < length (results_in (main_of nodes)) → (a : ℕ) × (actor : Actor) × IsOutputOf net i a actor
output_there nodes clocks net proper flat i l =
    let place = get_there (results_in (main_of nodes)) i l in
    (all_places nodes + i, (flat.outputs i place.0 place.1).actor, output_of nodes clocks proper net flat i place.0 place.1)

-- the stream of a result, among those of all results
pub stream_at : {A : Type 0} (f : ℕ → A) (xs : List ℕ) (i x : ℕ) (d : A) → slice_get xs i ≡ Some x → get_or (map f xs) i d ≡ f x
stream_at f xs i x d e = get_or_from_slice_get (map f xs) i (f x) d (slice_get-map f xs i ∙ ap (option_map f) e)

-- what is to be told of an output
abbrev pub IsTold : RunnerView → ℕ → List ℤ → Type 0
IsTold view i list = (a givers : ℕ) (actor : Actor) → IsOutputOf view.seen.net i a actor → GiveBelow (plan_of view.seen) givers → IsOver view.seen →
    list ≡ drop (ones_to actor.firing view.before) (take (ones_to actor.firing view.seen.instants) (stream_of view.seen givers (first_ring actor)))

-- the outputs so far with the next one
pub next_output : (view : RunnerView) (nodes : List PlacedNode) (clocks : List NodeClock) → AreProper nodes → IsFlat nodes clocks view.seen.net → IsOver view.seen → (i : ℕ) → i < length (results_in (main_of nodes)) → (list : List ℤ) → IsTold view i list →
    take i (later_streams (kinds_of view.seen.operators) view.seen.inputs nodes clocks view.before view.seen.instants) ++ list ∷ []
    ≡ take (i + 1) (later_streams (kinds_of view.seen.operators) view.seen.inputs nodes clocks view.before view.seen.instants)
next_output view nodes clocks proper flat over i l list told =
    let seen : Seen = view.seen in
    let kinds : List HostKind = kinds_of seen.operators in
    let later : ℕ → List ℤ = later_stream kinds seen.inputs nodes clocks view.before seen.instants in
    let streams : List (List ℤ) = later_streams kinds seen.inputs nodes clocks view.before seen.instants in
    let place = get_there (results_in (main_of nodes)) i l in
    let of = flat.outputs i place.0 place.1 in
    let is : list ≡ later place.0 =
    told (all_places nodes + i) (all_places nodes) of.actor (output_of nodes clocks proper seen.net flat i place.0 place.1) (gives_below nodes clocks proper seen.net flat seen.instants) over
    ∙ ap (drop (ones_to of.actor.firing view.before)) (output_stream nodes clocks proper seen.net flat kinds seen.inputs seen.instants i place.0 place.1)
    ∙ ap (λ n. drop n (main_stream kinds seen.inputs nodes clocks seen.instants place.0)) (main_counts nodes clocks place.0 view.before of.actor.firing of.firing) in
    let here : get_or streams i [] ≡ later place.0 = stream_at later (results_in (main_of nodes)) i place.0 [] place.1 in
    let within : i < length streams = omega (arith, l, length-map (results_in (main_of nodes)) later) in
    ap (λ xs. take i streams ++ xs ∷ []) (is ∙ sym here) ∙ sym (take_more streams i [] within)

-- the lists cut so far with the next one
pub next_cut : (t : ℕ) (words : List Bits) (lists : List (List ℤ)) (i : ℕ) (word : Bits) (list : List ℤ) → length words ≡ length lists → i < length words → slice_get words i ≡ Some word → slice_get lists i ≡ Some list →
    take i (cut_to t words lists) ++ take (ones_to word t) list ∷ [] ≡ take (i + 1) (cut_to t words lists)
next_cut t words lists i word list l m e f =
    let is : take (ones_to word t) list ≡ get_or (cut_to t words lists) i [] = ap (take (ones_to word t)) (sym (get_or_from_slice_get lists i list [] f)) ∙ sym (cut_at t words lists i word l e) in
    ap (λ xs. take i (cut_to t words lists) ++ xs ∷ []) is ∙ sym (take_more (cut_to t words lists) i [] (omega (arith, m, cut_count t words lists l)))

-- nothing is done in a new core
pub first_unbegun : (net : Net) (schedule : Timetable) (inputs : List (List ℤ)) (operators : List Operator) (instants : ℕ) → IsUnbegun (first_seen net schedule inputs operators instants)
unfolding done_of
first_unbegun net schedule inputs operators instants a = zeros_at (length net.actors) a
