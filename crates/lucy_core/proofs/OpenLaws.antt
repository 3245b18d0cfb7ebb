-- What holds of a core as contracts see it.
use Rattle.std.proofs.Common.{ℕ, suc, ◌≤◌, ◌+◌, ◌<◌, ◌≡◌, List, [], ◌∷◌, ◌++◌, length, take, get_or, ap, sym, refl, ◌∙◌, subst, arith}
use Rattle.std.specs.Prelude.{Some, slice_get}
use Rattle.std.proofs.lemmas.List.Elements.{All-get_or}
use Rattle.lucy_host.specs.Operators.{kinds_of}
use Rattle.lucy_word.specs.Bits.{ones_to}
use Rattle.lucy_stream.specs.Forms.{Form, Same, operands}
use Rattle.lucy_stream.specs.Fronts.{IsFront}
use Rattle.lucy_stream.specs.Firings.{took_in}
use Rattle.lucy_stream.specs.Runs.{IsPossible, IsRun, after, none_done, IsWithin, between, first_left}
use Rattle.lucy_stream.proofs.StuckLaws.{first_left-some}
use Rattle.lucy_stream.specs.States.{State, held, events, IsSame, IsState, Reaches}
use Rattle.lucy_stream.specs.Plans.{GiveBelow, IsOperand, IsRunnable}
use Rattle.lucy_stream.proofs.AlikeLaws.{IsRun-same, after-same}
use Rattle.lucy_stream.proofs.CoverLaws.{once_at}
use Rattle.lucy_stream.proofs.KahnLaws.{kahn_state_took, kahn_finished_took, kahn_state}
use Rattle.lucy_net.specs.declared.net.Actor.{Actor}
use Rattle.lucy_net.specs.Plans.{form_of, task_of}
use Rattle.lucy_stream.specs.Schedules.{events_to}
use Rattle.lucy_net.specs.Schedules.{events_at}
use Rattle.lucy_net.proofs.NetLaws.{task_at, plugged}
use Rattle.lucy_net.proofs.BackLaws.{fed, quotas}
use Rattle.lucy_core.specs.Seen.{Seen, machine_of, machine_on, order_of, done_of, state_on, one_more, more_done, stepped, after_picks, CanRun, IsOver, CanMakeCore, IsOutputOf, first_ring, state_of, plan_of, stream_of}
use Rattle.lucy_core.proofs.SeenLaws.{IsMachineOf, state_is, state_done}
use Rattle.lucy_core.proofs.PickLaws.{done_more, more_after, events_front, events_next}
use Rattle.lucy_stream.proofs.CountedLaws.{counted_later}
use Rattle.lucy_stream.proofs.StateLaws.{held-most}
use Rattle.lucy_stream.proofs.ReachLaws.{converse}
use Rattle.lucy_stream.proofs.ConverseLaws.{converse-counts}
use Rattle.lucy_net.specs.declared.net.RingSpec.{RingSpec}
use Rattle.lucy_core.proofs.CursorLaws.{order_is}

-- what a proof at hand of the whole value needs
pub record IsSound (seen : Seen) : Type 0 where
  pub fixed : CanMakeCore seen.net seen.schedule seen.inputs seen.operators seen.instants
  pub machine : IsMachineOf seen.net (machine_of seen) (order_of seen) seen.inputs (kinds_of seen.operators) seen.instants
  pub within : IsWithin (machine_of seen).sys (done_of seen.done)
  pub count : length seen.done ≡ length seen.net.actors

pub next_picks : (seen : Seen) (xs : List ℕ) (i : ℕ) → i < length xs → stepped (after_picks seen (take i xs)) (get_or xs i 0) ≡ after_picks seen (take (i + 1) xs)
next_picks seen xs i l =
    ap (λ ds. record seen { done = ds })
    (sym (done_more seen.done xs i l))

-- the counts after events and events
pub more_joined : (done xs ys : List ℕ) → more_done done (xs ++ ys) ≡ more_done (more_done done xs) ys
more_joined done [] ys = refl
more_joined done (a ∷ xs) ys = more_joined (one_more done a) xs ys

pub joined_picks : (seen : Seen) (xs ys : List ℕ) → after_picks (after_picks seen xs) ys ≡ after_picks seen (xs ++ ys)
joined_picks seen xs ys =
    ap (λ ds. record seen { done = ds }) (sym (more_joined seen.done xs ys))

static_run : (seen : Seen) → IsSound seen → ((a : ℕ) → done_of seen.done a ≡ 0) → CanRun seen (events_to (events_at seen.schedule) seen.instants)
static_run seen all zero_there =
    subst (IsRun (machine_of seen).sys (done_of seen.done)) (order_is seen.schedule seen.instants)
    (IsRun-same (machine_of seen).sys none_done (done_of seen.done) (order_of seen) (λ b. sym (zero_there b)) all.machine.whole.run)

-- the events of the next instant can be done
pub static_next : (seen : Seen) (t : ℕ) → IsSound seen → ((a : ℕ) → done_of seen.done a ≡ 0) → t < seen.instants → CanRun (after_picks seen (events_to (events_at seen.schedule) t)) (events_at seen.schedule (t + 1))
static_next seen t all zero_there l =
    let events : ℕ → List ℕ = events_at seen.schedule in
    let run = static_run seen all zero_there in
    let front = events_front (machine_of seen).sys (done_of seen.done) events t seen.instants (omega arith) run in
    IsRun-same (machine_of seen).sys (after (done_of seen.done) (events_to events t)) (done_of (more_done seen.done (events_to events t))) (events (t + 1))
    (λ b. sym (more_after seen.net (machine_of seen) (order_of seen) seen.inputs (kinds_of seen.operators) seen.instants all.machine seen.done (events_to events t) all.count front b))
    (events_next (machine_of seen).sys (done_of seen.done) events t seen.instants l run)

pub static_joined : (seen : Seen) (t : ℕ) → after_picks (after_picks seen (events_to (events_at seen.schedule) t)) (events_at seen.schedule (t + 1)) ≡ after_picks seen (events_to (events_at seen.schedule) (t + 1))
static_joined seen t =
    let e : suc t ≡ t + 1 = omega arith in
    subst (λ k. after_picks (after_picks seen (events_to (events_at seen.schedule) t)) (events_at seen.schedule k) ≡ after_picks seen (events_to (events_at seen.schedule) k)) e
    (joined_picks seen (events_to (events_at seen.schedule) t) (events_at seen.schedule (suc t)))

pub static_order : (seen : Seen) → after_picks seen (events_to (events_at seen.schedule) seen.instants) ≡ after_picks seen (order_of seen)
static_order seen = ap (after_picks seen) (sym (order_is seen.schedule seen.instants))

pub static_over : (seen : Seen) → IsSound seen → ((a : ℕ) → done_of seen.done a ≡ 0) → IsOver (after_picks seen (order_of seen))
static_over seen all zero_there a =
    let run = subst (IsRun (machine_of seen).sys (done_of seen.done)) (sym (order_is seen.schedule seen.instants)) (static_run seen all zero_there) in
    more_after seen.net (machine_of seen) (order_of seen) seen.inputs (kinds_of seen.operators) seen.instants all.machine seen.done (order_of seen) all.count run a
    ∙ after-same (done_of seen.done) none_done (order_of seen) zero_there a ∙ all.machine.whole.all a

-- the machine, unfolded, with its inputs at hand and with as many turns as the horizon needs
able : (seen : Seen) (givers : ℕ) → IsSound seen → GiveBelow (plan_of seen) givers → IsRunnable seen.inputs (plan_of seen) givers seen.instants
able seen givers all below = record {
  plugged = plugged seen.net seen.instants all.fixed.proper;
  fed = fed seen.inputs seen.net seen.instants all.fixed.supplied;
  give_below = below;
  quotas = quotas seen.net seen.instants;
}

here : (seen : Seen) → IsSound seen → IsState (machine_of seen) (state_of seen)
here seen all = state_is (machine_of seen) (order_of seen) seen.done all.machine.wired all.machine.local all.machine.whole all.within

-- what was taken from a ring is a front of its stream
pub took_front : (seen : Seen) (givers r : ℕ) → IsSound seen → GiveBelow (plan_of seen) givers → IsFront ((state_of seen).took r) (stream_of seen givers r)
unfolding machine_on
took_front seen givers r all below =
    kahn_state_took (kinds_of seen.operators) seen.inputs (plan_of seen) givers seen.instants (order_of seen) (state_of seen) (able seen givers all below) all.machine.whole (here seen all) r

-- and in the end all of it up to the horizon
pub took_all : (seen : Seen) (givers a number : ℕ) (actor : Actor) → IsSound seen → GiveBelow (plan_of seen) givers → IsOutputOf seen.net number a actor → IsOver seen →
    (state_of seen).took (first_ring actor) ≡ take (ones_to actor.firing seen.instants) (stream_of seen givers (first_ring actor))
unfolding machine_on
took_all seen givers a number actor all below out over =
    let is = all.machine in
    let r : ℕ = first_ring actor in
    let same : form_of actor.kind ≡ Same = ap form_of out.kind in
    let arity : length actor.takes ≡ operands (form_of actor.kind) = (is.usable a actor out.there).arity in
    let one : operands (form_of actor.kind) ≡ 1 = ap operands same in
    let to : (plan_of seen).to r ≡ a = All-get_or (λ q. (plan_of seen).to q ≡ a) actor.takes 0 0 (omega arith) (is.takers a actor out.there) in
    let task : slice_get (plan_of seen).tasks ((plan_of seen).to r) ≡ Some (task_of seen.instants actor) = ap (slice_get (plan_of seen).tasks) to ∙ task_at seen.net seen.instants a actor out.there in
    let operand : IsOperand actor.takes 0 r = record { there = omega arith; is = refl; once = once_at actor.takes 0 r (omega arith) refl (is.once a actor out.there r) } in
    let counts : (b : ℕ) → (state_of seen).done b ≡ done_of seen.done b = λ b. state_done (machine_of seen) (order_of seen) seen.done b is.wired is.whole all.within in
    kahn_finished_took (kinds_of seen.operators) seen.inputs (plan_of seen) givers seen.instants (order_of seen) (state_of seen) r 0 (task_of seen.instants actor) (able seen givers all below) is.whole
    (here seen all) (λ b. counts b ∙ over b) task operand
    ∙ ap (λ (f : Form). take (took_in f (ones_to actor.firing seen.instants) 0) (stream_of seen givers r)) same

-- what was given to a ring is one
pub gave_front : (seen : Seen) (givers r : ℕ) → IsSound seen → GiveBelow (plan_of seen) givers → IsFront ((state_of seen).gave r) (stream_of seen givers r)
unfolding machine_on
gave_front seen givers r all below =
    kahn_state (kinds_of seen.operators) seen.inputs (plan_of seen) givers seen.instants (order_of seen) (state_of seen) (able seen givers all below) all.machine.whole (here seen all) r

-- the first event of the order that isn't done is possible
pub first_can : (seen : Seen) (a : ℕ) → IsSound seen → first_left (done_of seen.done) (order_of seen) ≡ Some a → IsPossible (machine_of seen).sys (done_of seen.done) a
first_can seen a all e = first_left-some (machine_of seen).sys (done_of seen.done) (order_of seen) a all.machine.wired all.machine.whole e

-- events lead to the state of the counts after them
pub events_lead : (seen : Seen) (picks : List ℕ) → IsSound seen → CanRun seen picks → IsSame (state_of (after_picks seen picks)) (events (machine_of seen) (state_of seen) picks)
unfolding state_on
events_lead seen picks all run =
    counted_later (machine_of seen) (order_of seen) (done_of seen.done) (done_of (more_done seen.done picks)) picks all.machine.wired all.machine.local all.machine.whole all.within run
    (λ b. sym (more_after seen.net (machine_of seen) (order_of seen) seen.inputs (kinds_of seen.operators) seen.instants all.machine seen.done picks all.count run b))

pub ring_most : (seen : Seen) (r : ℕ) (ring : RingSpec) → IsSound seen → slice_get seen.net.rings r ≡ Some ring → length (held (state_of seen) r) ≤ ring.size + 1
ring_most seen r ring all e =
    omega (arith, held-most (machine_of seen) (state_of seen) r (state_is (machine_of seen) (order_of seen) seen.done all.machine.wired all.machine.local all.machine.whole all.within), all.machine.sizes r ring e)

pub later_reached : (seen : Seen) (s : State) → IsSound seen → IsState (machine_of seen) s → ((a : ℕ) → done_of seen.done a ≤ s.done a) → Reaches (machine_of seen) (state_of seen) (between (state_of seen).done s.done (order_of seen)) s
later_reached seen s all is le =
    converse (machine_of seen) (state_of seen) s (order_of seen) all.machine.wired all.machine.local all.machine.whole (state_is (machine_of seen) (order_of seen) seen.done all.machine.wired all.machine.local all.machine.whole all.within) is
    (λ a. omega (arith, le a, state_done (machine_of seen) (order_of seen) seen.done a all.machine.wired all.machine.whole all.within))

pub way_here : (seen : Seen) → IsSound seen → IsRun (machine_of seen).sys none_done (between none_done (done_of seen.done) (order_of seen))
way_here seen all = (converse-counts (machine_of seen).sys none_done (done_of seen.done) (order_of seen) all.machine.wired all.machine.whole all.within (λ b. omega arith)).run
