use Rattle.std.proofs.Common.{ℕ, ◌+◌, ◌≡◌, List, length, map, get_or, set, ap, subst, sym, ◌∙◌, to_z, of_z, w64, arith}
use Rattle.std.specs.Prelude.{ℤ}
use Rattle.std.proofs.lemmas.Int.{ints}
use Rattle.std.proofs.lemmas.List.{length-set, get_or-set_same}
use Rattle.lucy_word.specs.Bits.{ones_to}
use Rattle.lucy_host.specs.declared.kind.HostKind.{HostKind}
use Rattle.lucy_host.specs.Host.{lent}
use Rattle.lucy_host.specs.Operators.{kinds_of}
use Rattle.lucy_stream.specs.Firings.{fire_value}
use Rattle.lucy_stream.specs.Systems.{Gives}
use Rattle.lucy_stream.specs.Operations.{fired_at}
use Rattle.lucy_net.specs.Plans.{form_of}
use Rattle.lucy_net.specs.States.{KnowsOperator}
use Rattle.lucy_net.specs.declared.state.ActorState.{ActorState}
use Rattle.lucy_core.specs.Circles.{HeldItems}
use Rattle.lucy_core.specs.Seen.{Seen, machine_on, order_on, done_of, state_on, stepped}
use Rattle.lucy_core.specs.Cursors.{StandsInOrder}
use Rattle.lucy_core.specs.Inside.{left_in, KeepsState}
use Rattle.lucy_stream.specs.Runs.{first_left}
use Rattle.lucy_core.proofs.CursorLaws.{step_in}
use Rattle.lucy_core.proofs.InsideLaws.{at_hand, actor_at, state_at, circle_at, is_next, of_actor, few_at, some_going, going_after, as_many}
use Rattle.lucy_core.proofs.StepLaws.{has_item, gave_room, room_is, kept_gave}
use Rattle.lucy_core.proofs.machine.Core.give.Goals as goal

pub offset_bounds-list-actor : goal.offset_bounds-list-actor
offset_bounds-list-actor g c =
    let x = c.self.inside in
    let h = at_hand x c.args.self.now c.args.actor (Gives c.args.ring) c.self.invariant c.self.view_is c.requires.can c.requires.op in
    omega (arith, c.list.type_inv.1, ap length c.list.ensures, h.actor_in)

pub bounds-list-actor : goal.bounds-list-actor
bounds-list-actor g c =
    let x = c.self.inside in
    let h = at_hand x c.args.self.now c.args.actor (Gives c.args.ring) c.self.invariant c.self.view_is c.requires.can c.requires.op in
    omega (arith, ap length c.list.ensures, h.actor_in)

pub index-requires : goal.index-requires
index-requires g c =
    let x = c.self.inside in
    let h = at_hand x c.args.self.now c.args.actor (Gives c.args.ring) c.self.invariant c.self.view_is c.requires.can c.requires.op in
    omega (arith, h.kept.states_count, h.actor_in)

pub give_value-value-requires-clause-usable : goal.give_value-value-requires-clause-usable
give_value-value-requires-clause-usable g c κs held =
    let x = c.self.inside in
    let h = at_hand x c.args.self.now c.args.actor (Gives c.args.ring) c.self.invariant c.self.view_is c.requires.can c.requires.op in
    let there = actor_at x c.args.actor (Gives c.args.ring) h c.list.result.now c.index-list-actor.result c.list.ensures c.index-list-actor.is in
    h.machine.usable c.args.actor c.index-list-actor.result there

pub give_value-value-requires-clause-state : goal.give_value-value-requires-clause-state
give_value-value-requires-clause-state g c κs held =
    let x = c.self.inside in
    let h = at_hand x c.args.self.now c.args.actor (Gives c.args.ring) c.self.invariant c.self.view_is c.requires.can c.requires.op in
    let there = actor_at x c.args.actor (Gives c.args.ring) h c.list.result.now c.index-list-actor.result c.list.ensures c.index-list-actor.is in
    let state = state_at x c.args.actor (Gives c.args.ring) h c.index.result.now c.index.ensures in
    (_, _, _, of_actor x c.args.actor (Gives c.args.ring) h c.index-list-actor.result c.index.result.now there state)

pub give_value-value-requires-clause-next : goal.give_value-value-requires-clause-next
give_value-value-requires-clause-next g c κs held =
    let x = c.self.inside in
    let h = at_hand x c.args.self.now c.args.actor (Gives c.args.ring) c.self.invariant c.self.view_is c.requires.can c.requires.op in
    let there = actor_at x c.args.actor (Gives c.args.ring) h c.list.result.now c.index-list-actor.result c.list.ensures c.index-list-actor.is in
    let state = state_at x c.args.actor (Gives c.args.ring) h c.index.result.now c.index.ensures in
    (c.args.ring, is_next x c.args.actor (Gives c.args.ring) h c.index-list-actor.result c.index.result.now there state)

pub give_value-value-requires-clause-item : goal.give_value-value-requires-clause-item
give_value-value-requires-clause-item g c κs held =
    let x = c.self.inside in
    let h = at_hand x c.args.self.now c.args.actor (Gives c.args.ring) c.self.invariant c.self.view_is c.requires.can c.requires.op in
    let there = actor_at x c.args.actor (Gives c.args.ring) h c.list.result.now c.index-list-actor.result c.list.ensures c.index-list-actor.is in
    let state = state_at x c.args.actor (Gives c.args.ring) h c.index.result.now c.index.ensures in
    let at = is_next x c.args.actor (Gives c.args.ring) h c.index-list-actor.result c.index.result.now there state in
    has_item c.index-list-actor.result.kind x.inputs c.input_for-input.result.now (ones_to c.index-list-actor.result.firing x.instants) c.index.result.now.fired (h.machine.fed c.args.actor c.index-list-actor.result there) c.input_for-input.ensures (omega (arith, at.going, (of_actor x c.args.actor (Gives c.args.ring) h c.index-list-actor.result c.index.result.now there state).quota))

pub give_value-value-requires-clause-known : goal.give_value-value-requires-clause-known
give_value-value-requires-clause-known g c κs held =
    let x = c.self.inside in
    let h = at_hand x c.args.self.now c.args.actor (Gives c.args.ring) c.self.invariant c.self.view_is c.requires.can c.requires.op in
    let there = actor_at x c.args.actor (Gives c.args.ring) h c.list.result.now c.index-list-actor.result c.list.ensures c.index-list-actor.is in
    let kinds : kinds_of (lent c.args.host.now) ≡ kinds_of x.ops = c.requires.kinds ∙ ap (λ (seen : Seen). kinds_of seen.operators) (sym c.self.view_is) in
    subst (KnowsOperator c.index-list-actor.result.kind) (as_many (lent c.args.host.now) x.ops kinds) (h.fixed.known c.args.actor c.index-list-actor.result there)

pub index_mut-requires : goal.index_mut-requires
index_mut-requires g c =
    let x = c.self.inside in
    let h = at_hand x c.args.self.now c.args.actor (Gives c.args.ring) c.self.invariant c.self.view_is c.requires.can c.requires.op in
    omega (arith, h.kept.circles_count, h.ring_in)

pub push-requires : goal.push-requires
push-requires g c =
    let x = c.self.inside in
    let h = at_hand x c.args.self.now c.args.actor (Gives c.args.ring) c.self.invariant c.self.view_is c.requires.can c.requires.op in
    let circle = circle_at x c.args.actor (Gives c.args.ring) h c.args.ring c.index_mut.result.now h.ring_in c.index_mut.ensures.value in
    omega (arith, ap length (h.kept.circles_hold c.args.ring c.index_mut.result.now circle), gave_room x.net _ _ x.inputs (kinds_of x.ops) x.instants _ _ _ _ h.machine h.kept c.args.actor c.args.ring h.op_now h.can, room_is x.net _ _ x.inputs (kinds_of x.ops) x.instants _ _ _ _ h.machine h.kept c.args.ring c.index_mut.result.now h.ring_in circle)

pub index_mut-requires-2 : goal.index_mut-requires-2
index_mut-requires-2 g c =
    let x = c.self.inside in
    let h = at_hand x c.args.self.now c.args.actor (Gives c.args.ring) c.self.invariant c.self.view_is c.requires.can c.requires.op in
    omega (arith, h.kept.states_count, h.actor_in)

pub after_give-requires-clause-usable : goal.after_give-requires-clause-usable
after_give-requires-clause-usable g c =
    let x = c.self.inside in
    let h = at_hand x c.args.self.now c.args.actor (Gives c.args.ring) c.self.invariant c.self.view_is c.requires.can c.requires.op in
    let there = actor_at x c.args.actor (Gives c.args.ring) h c.list.result.now c.index-list-actor.result c.list.ensures c.index-list-actor.is in
    h.machine.usable c.args.actor c.index-list-actor.result there

pub after_give-requires-clause-state : goal.after_give-requires-clause-state
after_give-requires-clause-state g c =
    let x = c.self.inside in
    let h = at_hand x c.args.self.now c.args.actor (Gives c.args.ring) c.self.invariant c.self.view_is c.requires.can c.requires.op in
    let there = actor_at x c.args.actor (Gives c.args.ring) h c.list.result.now c.index-list-actor.result c.list.ensures c.index-list-actor.is in
    let state = state_at x c.args.actor (Gives c.args.ring) h c.index_mut-2.result.now c.index_mut-2.ensures.value in
    (_, _, _, of_actor x c.args.actor (Gives c.args.ring) h c.index-list-actor.result c.index_mut-2.result.now there state)

pub after_give-requires-clause-next : goal.after_give-requires-clause-next
after_give-requires-clause-next g c =
    let x = c.self.inside in
    let h = at_hand x c.args.self.now c.args.actor (Gives c.args.ring) c.self.invariant c.self.view_is c.requires.can c.requires.op in
    let there = actor_at x c.args.actor (Gives c.args.ring) h c.list.result.now c.index-list-actor.result c.list.ensures c.index-list-actor.is in
    let state = state_at x c.args.actor (Gives c.args.ring) h c.index_mut-2.result.now c.index_mut-2.ensures.value in
    (c.args.ring, is_next x c.args.actor (Gives c.args.ring) h c.index-list-actor.result c.index_mut-2.result.now there state)

pub count_event-requires-clause-there : goal.count_event-requires-clause-there
count_event-requires-clause-there g c =
    let x = c.self.inside in
    let h = at_hand x c.args.self.now c.args.actor (Gives c.args.ring) c.self.invariant c.self.view_is c.requires.can c.requires.op in
    omega (arith, h.kept.done_count, h.actor_in)

pub count_event-requires-clause-few : goal.count_event-requires-clause-few
count_event-requires-clause-few g c =
    let x = c.self.inside in
    let h = at_hand x c.args.self.now c.args.actor (Gives c.args.ring) c.self.invariant c.self.view_is c.requires.can c.requires.op in
    let there = actor_at x c.args.actor (Gives c.args.ring) h c.list.result.now c.index-list-actor.result c.list.ensures c.index-list-actor.is in
    few_at x c.args.actor (Gives c.args.ring) h c.index-list-actor.result there

pub index-requires-2 : goal.index-requires-2
index-requires-2 g c =
    let x = c.self.inside in
    let h = at_hand x c.args.self.now c.args.actor (Gives c.args.ring) c.self.invariant c.self.view_is c.requires.can c.requires.op in
    omega (arith, h.kept.states_count, h.actor_in, length-set x.states.items c.args.actor c.after_give.new.state)

pub count_ended-requires : goal.count_ended-requires
count_ended-requires g c =
    let x = c.self.inside in
    let h = at_hand x c.args.self.now c.args.actor (Gives c.args.ring) c.self.invariant c.self.view_is c.requires.can c.requires.op in
    let there = actor_at x c.args.actor (Gives c.args.ring) h c.list.result.now c.index-list-actor.result c.list.ensures c.index-list-actor.is in
    let state = state_at x c.args.actor (Gives c.args.ring) h c.index_mut-2.result.now c.index_mut-2.ensures.value in
    some_going x c.args.actor (Gives c.args.ring) h c.index-list-actor.result c.index_mut-2.result.now there state

pub go_on-requires-clause-early : goal.go_on-requires-clause-early
go_on-requires-clause-early g c = c.self.invariant.0.early

pub go_on-requires-clause-within : goal.go_on-requires-clause-within
go_on-requires-clause-within g c =
    let x = c.self.inside in
    let h = at_hand x c.args.self.now c.args.actor (Gives c.args.ring) c.self.invariant c.self.view_is c.requires.can c.requires.op in
    subst (λ (ds : List ℕ). StandsInOrder x.schedule x.instants ds x.cursor) (sym (c.deref.ensures.value ∙ c.count_event.ensures))
    (step_in x.schedule x.instants x.done.items x.cursor c.args.actor (omega (arith, h.kept.done_count, h.actor_in)) c.self.invariant.3)

pub invariant_of-self : goal.invariant_of-self
invariant_of-self g c =
    let x = c.self.inside in
    let h = at_hand x c.args.self.now c.args.actor (Gives c.args.ring) c.self.invariant c.self.view_is c.requires.can c.requires.op in
    let there = actor_at x c.args.actor (Gives c.args.ring) h c.list.result.now c.index-list-actor.result c.list.ensures c.index-list-actor.is in
    let state = state_at x c.args.actor (Gives c.args.ring) h c.index_mut-2.result.now c.index_mut-2.ensures.value in
    let circle = circle_at x c.args.actor (Gives c.args.ring) h c.args.ring c.index_mut.result.now h.ring_in c.index_mut.ensures.value in
    let first = state_at x c.args.actor (Gives c.args.ring) h c.index.result.now c.index.ensures in
    let took = (state_on (machine_on x.net x.inputs (kinds_of x.ops) x.instants) (order_on x.schedule x.instants) x.done.items).took in
    let kinds : kinds_of (lent c.args.host.now) ≡ kinds_of x.ops = c.requires.kinds ∙ ap (λ (seen : Seen). kinds_of seen.operators) (sym c.self.view_is) in
    let given = c.give_value-value.ensures x.inputs x.instants (done_of x.done.items c.args.actor) (map took c.index-list-actor.result.takes) (of_actor x c.args.actor (Gives c.args.ring) h c.index-list-actor.result c.index.result.now there first) c.input_for-input.ensures in
    let v : ℤ = to_z w64 (of_z w64 c.give_value-value.result) in
    let back : v ≡ c.give_value-value.result = omega (arith, ints) in
    let here = ap (λ (ks : List HostKind). fire_value ks x.inputs (form_of c.index-list-actor.result.kind) (get_or (fired_at (form_of c.index-list-actor.result.kind) c.index-list-actor.result.takes c.index-list-actor.result.gives (ones_to c.index-list-actor.result.firing x.instants)) (done_of x.done.items c.args.actor) 0) (map took c.index-list-actor.result.takes)) kinds in
    let value = back ∙ given ∙ here ∙ sym (h.machine.values c.args.actor (done_of x.done.items c.args.actor) c.index-list-actor.result took there) in
    let now = kept_gave x.net _ _ x.inputs (kinds_of x.ops) x.instants _ _ _ _ h.machine h.kept c.args.actor c.args.ring c.index-list-actor.result c.index_mut-2.result.now c.after_give.new.state v c.index_mut.result.now c.push.new.self there state h.can h.op_now circle c.push.ensures.items c.push.ensures.room value c.after_give.ensures in
    let m = machine_on x.net x.inputs (kinds_of x.ops) x.instants in
    let order = order_on x.schedule x.instants in
    let new : c.index-2.result.now ≡ c.after_give.new.state = c.index-2.ensures ∙ get_or-set_same x.states.items c.args.actor c.after_give.new.state _ (omega (arith, h.kept.states_count, h.actor_in)) in
    let states : List ActorState = set x.states.items c.args.actor c.after_give.new.state in
    let circles : List HeldItems = set x.circles.items c.args.ring c.push.new.self in (
      h.fixed,
      subst (λ (ds : List ℕ). KeepsState x.net m order x.instants ds states circles x.trays.items) (sym c.count_event.ensures) now,
      going_after x c.args.actor (Gives c.args.ring) h c.index-list-actor.result c.index_mut-2.result.now c.after_give.new.state c.count_ended.new.going there state (c.count_ended.ensures ∙ ap (λ (s : ActorState). x.going + left_in s) new),
      subst (λ (ds : List ℕ). StandsInOrder x.schedule x.instants ds c.go_on.new.self) c.deref.ensures.value c.go_on.ensures.within,
      c.go_on.ensures.next ∙ ap (λ (ds : List ℕ). first_left (done_of ds) (order_on x.schedule x.instants)) c.deref.ensures.value,
    )

pub returns : goal.returns
returns g c =
    let x = c.self.inside in
    let h = at_hand x c.args.self.now c.args.actor (Gives c.args.ring) c.self.invariant c.self.view_is c.requires.can c.requires.op in
    ap (λ ds. record { net = x.net; schedule = x.schedule; inputs = x.inputs; operators = x.ops; instants = x.instants; done = ds }) c.count_event.ensures
    ∙ ap (λ (seen : Seen). stepped seen c.args.actor) c.self.view_is
