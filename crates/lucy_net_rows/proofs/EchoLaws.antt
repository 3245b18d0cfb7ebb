-- The net that is made by hand is proper, and can be run.
use Rattle.std.proofs.Common.{ℕ, zero, suc, ◌<◌, ◌≤◌, ◌+◌, ◌≡◌, List, [], ◌∷◌, ◌++◌, length, length-append, ap, sym, refl, ◌∙◌, subst, arith}
use Rattle.std.specs.Prelude.{ℤ, Some, slice_get}
use Rattle.lucy_word.specs.Bits.{Bits, ones_to}
use Rattle.lucy_word.proofs.BitsLaws.{ones_to-le}
use Rattle.lucy_host.specs.Operators.{Operator}
use Rattle.lucy_stream.specs.Items.{list_at}
use Rattle.lucy_stream.specs.Plans.{times, HasInput}
use Rattle.lucy_net.specs.declared.net.Actor.{Actor}
use Rattle.lucy_net.specs.declared.net.RingSpec.{RingSpec}
use Rattle.lucy_net.specs.declared.net.Net.{Net}
use Rattle.lucy_net.specs.Plans.{form_of}
use Rattle.lucy_net.specs.Proper.{IsProperActor, IsProperRing, IsProper, IsSupplied}
use Rattle.lucy_net.specs.States.{KnowsOperator}
use Rattle.lucy_net.specs.Schedules.{Timetable, IsScheduleOf}
use Rattle.lucy_core.specs.Seen.{Seen, IsOutputOf, CanMakeCore, first_seen, after_picks}
use Rattle.lucy_runner.specs.Views.{RingView, RunnerView, inputs_for, first_runner}
use Rattle.lucy_runner.specs.Blocks.{longer_inputs, grown_seen}
use Rattle.lucy_results.proofs.OutputLaws.{first_unbegun}
use Rattle.lucy_net_rows.specs.Ready.{HasOneList}
use Rattle.lucy_net_rows.specs.Echo.{giver, taker, ring, echo, IsEchoReady, IsEcho}

giver_proper : (w : Bits) → IsProperActor (echo w) 0 (giver w)
giver_proper w = record { gives = refl; takes = refl; arity = refl; gives_none = tt }

taker_proper : (w : Bits) → IsProperActor (echo w) 1 (taker w)
taker_proper w = record { gives = refl; takes = refl; arity = refl; gives_none = refl }

ring_proper : (w : Bits) → IsProperRing (echo w) 0 (ring w)
ring_proper w = record {
  giver = giver w;
  taker = taker w;
  gives_here = refl;
  takes_here = refl;
  write = λ i l. refl;
  read = λ j l e i s. refl;
  adaptable = (refl, λ i. omega arith);
  size = record { reached = (0, omega arith); passed = λ i. omega arith };
}

actors_proper : (w : Bits) (a : ℕ) (actor : Actor) → slice_get (echo w).actors a ≡ Some actor → IsProperActor (echo w) a actor
actors_proper w zero actor e = (let same : giver w ≡ actor = cc in subst (IsProperActor (echo w) 0) same (giver_proper w))
actors_proper w (suc zero) actor e = (let same : taker w ≡ actor = cc in subst (IsProperActor (echo w) 1) same (taker_proper w))
actors_proper w (suc (suc a)) actor e = absurd (cc)

rings_proper : (w : Bits) (r : ℕ) (spec : RingSpec) → slice_get (echo w).rings r ≡ Some spec → IsProperRing (echo w) r spec
rings_proper w zero spec e = (let same : ring w ≡ spec = cc in subst (IsProperRing (echo w) 0) same (ring_proper w))
rings_proper w (suc r) spec e = absurd (cc)

numbered : (n : ℕ) → n < 1 → times n (0 ∷ []) ≡ 1
numbered zero l = refl
numbered (suc n) l = absurd (omega arith)

pub echo_proper : (w : Bits) → IsProper (echo w)
echo_proper w = record {
  few_actors = omega arith;
  few_rings = omega arith;
  few_slots = omega arith;
  inputs = numbered;
  outputs = numbered;
  actors = actors_proper w;
  rings = rings_proper w;
}

pub supplied : (w : Bits) (inputs : List (List ℤ)) (instants : ℕ) → instants ≤ length (list_at inputs 0) → IsSupplied inputs (echo w) instants
supplied w inputs instants enough zero actor e =
    let same : giver w ≡ actor = cc in
    let there : ones_to w instants ≤ length (list_at inputs 0) = omega (arith, ones_to-le w instants, enough) in
    subst (λ (x : Actor). HasInput inputs (form_of x.kind) (ones_to x.firing instants)) same there
supplied w inputs instants enough (suc zero) actor e = (let same : taker w ≡ actor = cc in subst (λ (x : Actor). HasInput inputs (form_of x.kind) (ones_to x.firing instants)) same tt)
supplied w inputs instants enough (suc (suc a)) actor e = absurd (cc)

known : (w : Bits) (count a : ℕ) (actor : Actor) → slice_get (echo w).actors a ≡ Some actor → KnowsOperator actor.kind count
known w count zero actor e = (let same : giver w ≡ actor = cc in subst (λ (x : Actor). KnowsOperator x.kind count) same tt)
known w count (suc zero) actor e = (let same : taker w ≡ actor = cc in subst (λ (x : Actor). KnowsOperator x.kind count) same tt)
known w count (suc (suc a)) actor e = absurd (cc)

-- a core can be made of it
pub echo_fixed : (w : Bits) (net : Net) (schedule : Timetable) (inputs : List (List ℤ)) (operators : List Operator) (items instants : ℕ) → net ≡ echo w → IsScheduleOf net schedule → HasOneList items inputs → instants ≡ items → items ≤ 1048576 →
    CanMakeCore net schedule inputs operators instants
echo_fixed w net schedule inputs operators items instants same is list all few =
    let at : IsScheduleOf (echo w) schedule = subst (λ (n : Net). IsScheduleOf n schedule) same is in
    let there = list.all in
    let fixed : CanMakeCore (echo w) schedule inputs operators instants = record { proper = echo_proper w; sound = at.sound; early = omega arith; supplied = supplied w inputs instants (omega arith); known = known w (length operators) } in
    subst (λ (n : Net). CanMakeCore n schedule inputs operators instants) (sym same) fixed

pub echo_ready : (w : Bits) (net : Net) (schedule : Timetable) (inputs : List (List ℤ)) (operators : List Operator) (items instants : ℕ) (core : Seen) → net ≡ echo w → HasOneList items inputs → instants ≡ items →
    core ≡ first_seen net schedule inputs operators instants → IsEchoReady w operators items core
echo_ready w net schedule inputs operators items instants core same list all e =
    subst (IsEchoReady w operators items) (sym e) (record { net = same; inputs = list; operators_are = refl; instants = all; unbegun = first_unbegun net schedule inputs operators instants })

-- a runner of the core
first_list : (w : Bits) (net : Net) (inputs : List (List ℤ)) → net ≡ echo w → list_at (inputs_for net inputs) 0 ≡ list_at inputs 0
first_list w net inputs e = ap (λ n. list_at (inputs_for n inputs) 0) e

pub echo_at : (w : Bits) (operators : List Operator) (items : ℕ) (core : Seen) (view : RunnerView) → IsEchoReady w operators items core → view ≡ first_runner core view.crew → IsEcho operators view.seen
echo_at w operators items core view is e =
    let there = is.inputs.all in
    let of = is.instants in
    let same : length (list_at (inputs_for core.net core.inputs) 0) ≡ length (list_at core.inputs 0) = ap length (first_list w core.net core.inputs is.net) in
    subst (λ (v : RunnerView). IsEcho operators v.seen) (sym e) (record { word = w; net = is.net; operators_are = is.operators_are; items = omega arith })

-- events leave it so
pub still_echo : (operators : List Operator) (seen next : Seen) (picks : List ℕ) → IsEcho operators seen → next ≡ after_picks seen picks → IsEcho operators next
still_echo operators seen next picks is e = subst (IsEcho operators) (sym e) (record { word = is.word; net = is.net; operators_are = is.operators_are; items = is.items })

-- with an item more it is so an instant later
longer_list : (w : Bits) (net : Net) (held added : List (List ℤ)) → net ≡ echo w → list_at (longer_inputs net held added) 0 ≡ list_at held 0 ++ list_at added 0
longer_list w net held added e = ap (λ n. list_at (longer_inputs n held added) 0) e

more_items : (operators : List Operator) (seen : Seen) (added : List (List ℤ)) → IsEcho operators seen → HasOneList 1 added → length (list_at (longer_inputs seen.net seen.inputs added) 0) ≡ length (list_at seen.inputs 0) + 1
more_items operators seen added is one =
    ap length (longer_list is.word seen.net seen.inputs added is.net) ∙ length-append (list_at seen.inputs 0) (list_at added 0) ∙ ap (λ n. length (list_at seen.inputs 0) + n) one.all

pub longer_supplied : (operators : List Operator) (seen : Seen) (added : List (List ℤ)) (instants : ℕ) → IsEcho operators seen → seen.instants ≡ instants → HasOneList 1 added → IsSupplied (longer_inputs seen.net seen.inputs added) seen.net (instants + 1)
longer_supplied operators seen added instants is at one =
    let more = more_items operators seen added is one in
    let enough = is.items in
    subst (λ (n : Net). IsSupplied (longer_inputs seen.net seen.inputs added) n (instants + 1)) (sym is.net) (supplied is.word (longer_inputs seen.net seen.inputs added) (instants + 1) (omega (arith, more, enough)))

pub longer_echo : (operators : List Operator) (seen : Seen) (added : List (List ℤ)) (view : RunnerView) (instants before : ℕ) (rings : List RingView) (crew : List (List ℕ)) → IsEcho operators seen → seen.instants ≡ instants → HasOneList 1 added →
    view ≡ record { seen = grown_seen seen added (instants + 1); before = before; rings = rings; crew = crew } → IsEcho operators view.seen
longer_echo operators seen added view instants before rings crew is at one f =
    let more = more_items operators seen added is one in
    let enough = is.items in
    subst (λ (v : RunnerView). IsEcho operators v.seen) (sym f) (record { word = is.word; net = is.net; operators_are = is.operators_are; items = omega (arith, more, enough) })

-- its output
pub echo_output : (operators : List Operator) (seen : Seen) → IsEcho operators seen → (a : ℕ) × (actor : Actor) × IsOutputOf seen.net 0 a actor
echo_output operators seen is = (1, taker is.word, subst (λ (n : Net). IsOutputOf n 0 1 (taker is.word)) (sym is.net) (record { there = refl; kind = refl }))
