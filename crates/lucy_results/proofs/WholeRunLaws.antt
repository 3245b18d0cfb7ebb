-- What a run of a program's flat net leads to.
use Rattle.std.proofs.Common.{ℕ, zero, suc, ◌+◌, ◌<◌, ◌≤◌, ◌≡◌, Bool, true, false, List, [], ◌∷◌, ◌++◌, Some, length, map, take, drop, get_or, ap, ap₂, sym, refl, ◌∙◌, subst, arith, length-drop}
use Rattle.std.specs.Prelude.{ℤ, nat_le, nat_lt, count_by, slice_get, ◌&&◌, if◌then◌else◌}
use Rattle.std.proofs.lemmas.Bool.{ltb-true}
use Rattle.std.proofs.lemmas.List.{length-append, length-map, length-replicate, length-take-le, take-append-drop, take-take, ext_get_or}
use Rattle.std.proofs.lemmas.List.Elements.{All-get_or}
use Rattle.std.proofs.lemmas.List.FromFn.{length-map-range_with_len, get_or-map-range_with_len}
use Rattle.std.proofs.lemmas.List.Sums.{count_by-le-length}
use Rattle.std.proofs.lemmas.Option.{slice_get_within}
use Rattle.lucy_word.specs.Bits.{ones_to}
use Rattle.lucy_host.specs.Operators.{Operator, kinds_of}
use Rattle.lucy_host.proofs.Elements.{get_there}
use Rattle.lucy_stream.specs.Forms.{Form, Same, operands}
use Rattle.lucy_stream.specs.Items.{list_at}
use Rattle.lucy_stream.proofs.FrontLaws.{IsFront-cut}
use Rattle.lucy_stream.specs.Systems.{RingOp, Takes, Gives, is_take}
use Rattle.lucy_stream.specs.Operations.{ops_of}
use Rattle.lucy_stream.specs.Plans.{IsOperand}
use Rattle.lucy_stream.specs.Runs.{step, after, none_done, between_from, IsWhole}
use Rattle.lucy_stream.specs.States.{State, start, events}
use Rattle.lucy_stream.proofs.AlikeLaws.{IsRun-same, after-same}
use Rattle.lucy_stream.proofs.CountLaws.{taken-is}
use Rattle.lucy_stream.proofs.CountedLaws.{within_later, none_within}
use Rattle.lucy_stream.proofs.CoverLaws.{once_at}
use Rattle.lucy_stream.proofs.GiveCounts.{count_append}
use Rattle.lucy_stream.proofs.TakeCounts.{takes_in_ops}
use Rattle.lucy_place.specs.declared.placed.PlacedNode.{PlacedNode}
use Rattle.lucy_place.specs.Proper.{AreProper}
use Rattle.lucy_clock.specs.declared.node_clock.NodeClock.{NodeClock}
use Rattle.lucy_net.specs.declared.net.Actor.{Actor}
use Rattle.lucy_net.specs.declared.net.Net.{Net}
use Rattle.lucy_net.specs.Plans.{form_of}
use Rattle.lucy_net.specs.States.{GivesNone}
use Rattle.lucy_net.specs.Schedules.{Timetable}
use Rattle.lucy_core.specs.Seen.{Seen, CanRun, CanMakeCore, IsOver, IsOutputOf, IsUnbegun, after_picks, done_of, first_ring, first_seen, machine_of, order_of, state_of, state_on, stream_of}
use Rattle.lucy_core.proofs.SeenLaws.{machine_is, state_is, state_done}
use Rattle.lucy_core.proofs.OpenLaws.{IsSound, took_front, took_all, events_lead}
use Rattle.lucy_core.proofs.OnwardLaws.{counted_on, counts_on, actors_on}
use Rattle.lucy_kahn.specs.Spots.{main_of, results_in}
use Rattle.lucy_kahn.specs.Sizes.{all_places}
use Rattle.lucy_flat.specs.Flat.{IsFlat}
use Rattle.lucy_results.specs.Streams.{main_stream, main_streams, taken_of}
use Rattle.lucy_results.specs.Taking.{taken_lists, LeadToStreams, LeadAlongStreams}
use Rattle.lucy_results.proofs.NetLaws.{output_of, output_stream, gives_below}
use Rattle.lucy_results.proofs.OutputLaws.{first_unbegun, stream_at}
use Rattle.lucy_results.proofs.TakenLaws.{mapped_at, taken_count}

if_neither : (b c : Bool) (xs ys : List ℕ) → c ≡ false → (if b && c then xs else ys) ≡ ys
if_neither true true xs ys e = absurd (cc e)
if_neither true false xs ys e = refl
if_neither false c xs ys e = refl

not_below : (n : ℕ) (b : Bool) → nat_lt n 0 ≡ b → b ≡ false
not_below n false e = refl
not_below n true e = let low : n < 0 = ltb-true n 0 e in absurd (omega arith)

-- nothing is between where nothing is done
none_between : (high begun : ℕ → ℕ) (order : List ℕ) → ((a : ℕ) → high a ≡ 0) → between_from none_done high begun order ≡ []
none_between high begun [] none = refl
none_between high begun (a ∷ order) none =
    if_neither (nat_le (none_done a) (begun a)) (nat_lt (begun a) (high a)) _ _
    (ap (nat_lt (begun a)) (none a) ∙ not_below (begun a) _ refl)
    ∙ none_between high (step begun a) order none

-- a core without an event so far is where events start
pub unbegun_start : (first : Seen) → IsUnbegun first → state_of first ≡ start
unfolding state_on
unbegun_start first none = ap (events (machine_of first) start) (none_between (done_of first.done) none_done (order_of first) none)

-- in states in which the same was taken from every ring the outputs took the same
pub taken_same : (actors : List Actor) (s t : State) → ((r : ℕ) → s.took r ≡ t.took r) →
    map (λ (actor : Actor). s.took (first_ring actor)) actors ≡ map (λ (actor : Actor). t.took (first_ring actor)) actors
taken_same [] s t same = refl
taken_same (actor ∷ actors) s t same = ap₂ (λ xs rest. xs ∷ rest) (same (first_ring actor)) (taken_same actors s t same)

-- where all count, as many count as are taken
counted : (p : RingOp → Bool) (xs : List RingOp) (n : ℕ) → count_by p xs ≡ length xs → n ≤ length xs → count_by p (take n xs) ≡ n
counted p xs n all l =
    let parts : count_by p (take n xs ++ drop n xs) ≡ count_by p (take n xs) + count_by p (drop n xs) = count_append p (take n xs) (drop n xs) in
    let whole : count_by p (take n xs ++ drop n xs) ≡ count_by p xs = ap (count_by p) (take-append-drop n xs) in
    omega (arith, all, l, parts, whole, count_by-le-length p (take n xs), count_by-le-length p (drop n xs), length-take-le n xs l, length-drop {A = RingOp} n xs)

-- an actor of one operand that gives on no ring has an operation for each firing
one_each : (takes gives : List ℕ) (quota : ℕ) → length takes ≡ 1 → gives ≡ [] → length (ops_of Same takes gives quota) ≡ quota
one_each takes gives zero one none = refl
one_each takes gives (suc quota) one none =
    let empty : length gives ≡ 0 = ap length none in
    omega (
      arith,
      one,
      empty,
      one_each takes gives quota one none,
      length-append (ops_of Same takes gives quota) (map Takes takes ++ map Gives gives),
      length-append (map Takes takes) (map Gives gives),
      length-map takes Takes,
      length-map gives Gives,
    )

-- an output took an item by each of its operations, which are no more than its firings
record TookByOps (seen : Seen) (a : ℕ) (actor : Actor) : Type 0 where
  count : length ((state_of seen).took (first_ring actor)) ≡ done_of seen.done a
  few : done_of seen.done a ≤ ones_to actor.firing seen.instants

took_by_ops : (seen : Seen) (a number : ℕ) (actor : Actor) → IsSound seen → IsOutputOf seen.net number a actor → TookByOps seen a actor
took_by_ops seen a number actor all out =
    let is = all.machine in
    let sys = (machine_of seen).sys in
    let s : State = state_of seen in
    let r : ℕ = first_ring actor in
    let d : ℕ = done_of seen.done a in
    let quota : ℕ = ones_to actor.firing seen.instants in
    let same : form_of actor.kind ≡ Same = ap form_of out.kind in
    let usable = is.usable a actor out.there in
    let one : length actor.takes ≡ 1 = usable.arity ∙ ap operands same in
    let none : actor.gives ≡ [] = subst (λ k. GivesNone k actor.gives) out.kind usable.gives_none in
    let ops : sys.ops a ≡ ops_of Same actor.takes actor.gives quota =
    is.ops a actor out.there ∙ ap (λ (f : Form). ops_of f actor.takes actor.gives quota) same in
    let operand : IsOperand actor.takes 0 r =
    record { there = omega (arith, one); is = refl; once = once_at actor.takes 0 r (omega (arith, one)) refl (is.once a actor out.there r) } in
    let to : sys.to r ≡ a = All-get_or (λ q. sys.to q ≡ a) actor.takes 0 0 (omega (arith, one)) (is.takers a actor out.there) in
    let size : length (sys.ops a) ≡ quota = ap length ops ∙ one_each actor.takes actor.gives quota one none in
    let total : count_by (is_take r) (sys.ops a) ≡ quota = ap (count_by (is_take r)) ops ∙ takes_in_ops Same actor.takes actor.gives quota 0 r one operand in
    let low : d ≤ length (sys.ops a) = all.within.listed a in
    let state = state_is (machine_of seen) (order_of seen) seen.done is.wired is.local is.whole all.within in
    let counts : s.done a ≡ d = state_done (machine_of seen) (order_of seen) seen.done a is.wired is.whole all.within in
    record {
      count = state.took_count r ∙ sym (taken-is sys s.done a d r to counts) ∙ counted (is_take r) (sys.ops a) d (total ∙ sym size) low;
      few = omega (arith, low, size);
    }

module _ (nodes : List PlacedNode) (clocks : List NodeClock) (net : Net) (schedule : Timetable) (inputs : List (List ℤ))
    (operators : List Operator) (instants : ℕ)
    (proper : AreProper nodes) (flat : IsFlat nodes clocks net) (fixed : CanMakeCore net schedule inputs operators instants) where
  abbrev first : Seen
  first = first_seen net schedule inputs operators instants

  unbegun : IsUnbegun first
  unbegun = first_unbegun net schedule inputs operators instants

  first_sound : IsSound first
  first_sound = record {
    fixed = fixed;
    machine = machine_is net schedule inputs operators instants fixed;
    within = none_within (machine_of first).sys (done_of first.done) unbegun;
    count = length-replicate {A = ℕ} (length net.actors) 0;
  }

  module _ (picks : List ℕ) (run : CanRun first picks) where
    abbrev last : Seen
    last = after_picks first picks

    counts_end : (b : ℕ) → done_of last.done b ≡ after none_done picks b
    counts_end b = counts_on first first_sound picks run b ∙ after-same (done_of first.done) none_done picks unbegun b

    last_sound : IsSound last
    last_sound = record {
      fixed = fixed;
      machine = first_sound.machine;
      within = within_later (machine_of first).sys (done_of first.done) (done_of last.done) picks first_sound.within run
          (λ b. sym (counts_on first first_sound picks run b));
      count = counted_on first first_sound picks;
    }

    took_end : (r : ℕ) → (events (machine_of first) start picks).took r ≡ (state_of last).took r
    took_end r =
        sym ((events_lead first picks first_sound run).took r ∙ ap (λ (s : State). (events (machine_of first) s picks).took r)
        (unbegun_start first unbegun))

    abbrev streams : List (List ℤ)
    streams = main_streams (kinds_of operators) inputs nodes clocks instants

    stream_here : (i place : ℕ) → slice_get (results_in (main_of nodes)) i ≡ Some place →
        get_or streams i [] ≡ main_stream (kinds_of operators) inputs nodes clocks instants place
    stream_here i place e = stream_at (main_stream (kinds_of operators) inputs nodes clocks instants) (results_in (main_of nodes)) i place [] e

    -- lists of as many as there are results that are those that the outputs took one by one
    took_lists : (lists : List (List ℤ)) → length lists ≡ length (results_in (main_of nodes)) →
        ((i place : ℕ) (e : slice_get (results_in (main_of nodes)) i ≡ Some place) →
        (state_of last).took (first_ring (flat.outputs i place e).actor) ≡ get_or lists i []) →
        taken_lists nodes net (events (machine_of first) start picks) ≡ lists
    took_lists lists e each =
        let as_many = taken_count nodes clocks net proper flat (state_of last) in
        taken_same _ (events (machine_of first) start picks) (state_of last) took_end
        ∙ ext_get_or [] (taken_lists nodes net (state_of last)) lists (as_many ∙ sym e)
        (λ i l.
        let place = get_there (results_in (main_of nodes)) i (omega (arith, l, as_many)) in
        let of = flat.outputs i place.0 place.1 in
        mapped_at (λ (actor : Actor). (state_of last).took (first_ring actor)) (all_places nodes) net.actors i of.actor [] of.there ∙ each i place.0 place.1)

    -- an output took as many items of the stream of its result as it has done operations
    took_along : (i place : ℕ) (e : slice_get (results_in (main_of nodes)) i ≡ Some place) →
        (state_of last).took (first_ring (flat.outputs i place e).actor)
        ≡ take (after none_done picks (all_places nodes + i)) (main_stream (kinds_of operators) inputs nodes clocks instants place)
    took_along i place e =
        let actor : Actor = (flat.outputs i place e).actor in
        let a : ℕ = all_places nodes + i in
        let r : ℕ = first_ring actor in
        let s : State = state_of last in
        let d : ℕ = done_of last.done a in
        let quota : ℕ = ones_to actor.firing instants in
        let out = output_of nodes clocks proper net flat i place e in
        let does = took_by_ops last a i actor last_sound out in
        let stream : List ℤ = stream_of last (all_places nodes) r in
        let front : s.took r ≡ take (length (s.took r)) stream =
        IsFront-cut (s.took r) stream (took_front last (all_places nodes) r last_sound (gives_below nodes clocks proper net flat instants)) in
        front ∙ ap (λ n. take n stream) does.count ∙ sym (take-take d quota stream does.few)
        ∙ ap (take d) (output_stream nodes clocks proper net flat (kinds_of operators) inputs instants i place e)
        ∙ ap (λ n. take n (main_stream (kinds_of operators) inputs nodes clocks instants place)) (counts_end a)

    -- so the outputs together took this of the streams
    pub run_along : LeadAlongStreams nodes clocks first picks
    run_along =
        let done : ℕ → ℕ = after none_done picks in
        let all : length streams ≡ length (results_in (main_of nodes)) =
        length-map (results_in (main_of nodes)) (main_stream (kinds_of operators) inputs nodes clocks instants) in
        let count : length (taken_of (all_places nodes) done streams) ≡ length streams =
        length-map-range_with_len (λ i. take (done (all_places nodes + i)) (list_at streams i)) 0 (length streams) in
        record {
          counts = counts_end;
          taken = took_lists (taken_of (all_places nodes) done streams) (count ∙ all)
              (λ i place e. took_along i place e
              ∙ ap (take (done (all_places nodes + i))) (sym (stream_here i place e))
              ∙ sym (get_or-map-range_with_len (λ k. take (done (all_places nodes + k)) (list_at streams k)) 0 (length streams) i i []
              (omega (arith, all, slice_get_within (results_in (main_of nodes)) i place e)) (omega arith)));
        }

  module _ (picks : List ℕ) (whole : IsWhole (machine_of first).sys picks) where
    can_run : CanRun first picks
    can_run = IsRun-same (machine_of first).sys none_done (done_of first.done) picks (λ b. sym (unbegun b)) whole.run

    is_over : IsOver (after_picks first picks)
    is_over b = counts_end picks can_run b ∙ whole.all b

    pub whole_run : LeadToStreams nodes clocks first picks
    whole_run = record {
      actors = actors_on first first_sound picks can_run;
      run = can_run;
      over = is_over;
      taken = took_lists picks can_run (streams picks can_run)
          (length-map (results_in (main_of nodes)) (main_stream (kinds_of operators) inputs nodes clocks instants))
          (λ i place e.
          took_all (after_picks first picks) (all_places nodes) (all_places nodes + i) i (flat.outputs i place e).actor (last_sound picks can_run)
          (gives_below nodes clocks proper net flat instants) (output_of nodes clocks proper net flat i place e) is_over
          ∙ output_stream nodes clocks proper net flat (kinds_of operators) inputs instants i place e ∙ sym (stream_here picks can_run i place e));
    }
