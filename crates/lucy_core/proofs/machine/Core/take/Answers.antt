use Rattle.std.proofs.Common.{ℕ, ◌+◌, ◌≡◌, ◌∷◌, List, length, set, ap, subst, sym, ◌∙◌, to_z, of_z, w64, arith}
use Rattle.std.specs.Prelude.{ℤ}
use Rattle.std.proofs.lemmas.Int.{ints}
use Rattle.std.proofs.lemmas.List.{length-set, get_or-set_same}
use Rattle.lucy_host.specs.Operators.{kinds_of}
use Rattle.lucy_stream.specs.Systems.{Takes}
use Rattle.lucy_net.specs.declared.state.ActorState.{ActorState}
use Rattle.lucy_core.specs.Circles.{HeldItems}
use Rattle.lucy_core.specs.Seen.{Seen, machine_on, order_on, done_of, stepped, one_more}
use Rattle.lucy_core.specs.Cursors.{StandsInOrder}
use Rattle.lucy_core.specs.Inside.{left_in, KeepsState}
use Rattle.lucy_stream.specs.Runs.{first_left}
use Rattle.lucy_core.proofs.CursorLaws.{step_in}
use Rattle.lucy_core.proofs.InsideLaws.{at_hand, actor_at, state_at, circle_at, is_next, of_actor, few_at, some_going, going_after}
use Rattle.lucy_core.proofs.StepLaws.{took_some, tray_room, kept_took}
use Rattle.lucy_core.proofs.machine.Core.take.Goals as goal

pub index_mut-requires : goal.index_mut-requires
index_mut-requires c =
    let x = c.self.inside in
    let h = at_hand x c.args.self.now c.args.actor (Takes c.args.ring) c.self.invariant c.self.view_is c.requires.can c.requires.op in
    omega (arith, h.kept.circles_count, h.ring_in)

pub pop-value-requires : goal.pop-value-requires
pop-value-requires c =
    let x = c.self.inside in
    let h = at_hand x c.args.self.now c.args.actor (Takes c.args.ring) c.self.invariant c.self.view_is c.requires.can c.requires.op in
    let circle = circle_at x c.args.actor (Takes c.args.ring) h c.args.ring c.index_mut.result.now h.ring_in c.index_mut.ensures.value in
    omega (arith, ap length (h.kept.circles_hold c.args.ring c.index_mut.result.now circle), took_some x.net _ _ x.inputs (kinds_of x.ops) x.instants _ _ _ _ h.machine h.kept c.args.actor c.args.ring h.op_now h.can)

pub offset_bounds-list-actor : goal.offset_bounds-list-actor
offset_bounds-list-actor c =
    let x = c.self.inside in
    let h = at_hand x c.args.self.now c.args.actor (Takes c.args.ring) c.self.invariant c.self.view_is c.requires.can c.requires.op in
    omega (arith, c.list.type_inv.1, ap length c.list.ensures, h.actor_in)

pub bounds-list-actor : goal.bounds-list-actor
bounds-list-actor c =
    let x = c.self.inside in
    let h = at_hand x c.args.self.now c.args.actor (Takes c.args.ring) c.self.invariant c.self.view_is c.requires.can c.requires.op in
    omega (arith, ap length c.list.ensures, h.actor_in)

pub index_mut-requires-2 : goal.index_mut-requires-2
index_mut-requires-2 c =
    let x = c.self.inside in
    let h = at_hand x c.args.self.now c.args.actor (Takes c.args.ring) c.self.invariant c.self.view_is c.requires.can c.requires.op in
    omega (arith, h.kept.states_count, h.actor_in)

pub after_take-requires-clause-usable : goal.after_take-requires-clause-usable
after_take-requires-clause-usable c =
    let x = c.self.inside in
    let h = at_hand x c.args.self.now c.args.actor (Takes c.args.ring) c.self.invariant c.self.view_is c.requires.can c.requires.op in
    let there = actor_at x c.args.actor (Takes c.args.ring) h c.list.result.now c.index-list-actor.result c.list.ensures c.index-list-actor.is in
    h.machine.usable c.args.actor c.index-list-actor.result there

pub after_take-requires-clause-state : goal.after_take-requires-clause-state
after_take-requires-clause-state c =
    let x = c.self.inside in
    let h = at_hand x c.args.self.now c.args.actor (Takes c.args.ring) c.self.invariant c.self.view_is c.requires.can c.requires.op in
    let there = actor_at x c.args.actor (Takes c.args.ring) h c.list.result.now c.index-list-actor.result c.list.ensures c.index-list-actor.is in
    let state = state_at x c.args.actor (Takes c.args.ring) h c.index_mut-2.result.now c.index_mut-2.ensures.value in
    (_, _, _, of_actor x c.args.actor (Takes c.args.ring) h c.index-list-actor.result c.index_mut-2.result.now there state)

pub after_take-requires-clause-next : goal.after_take-requires-clause-next
after_take-requires-clause-next c =
    let x = c.self.inside in
    let h = at_hand x c.args.self.now c.args.actor (Takes c.args.ring) c.self.invariant c.self.view_is c.requires.can c.requires.op in
    let there = actor_at x c.args.actor (Takes c.args.ring) h c.list.result.now c.index-list-actor.result c.list.ensures c.index-list-actor.is in
    let state = state_at x c.args.actor (Takes c.args.ring) h c.index_mut-2.result.now c.index_mut-2.ensures.value in
    (c.args.ring, is_next x c.args.actor (Takes c.args.ring) h c.index-list-actor.result c.index_mut-2.result.now there state)

pub put_out-requires-clause-there : goal.put_out-requires-clause-there
put_out-requires-clause-there c =
    let x = c.self.inside in
    let h = at_hand x c.args.self.now c.args.actor (Takes c.args.ring) c.self.invariant c.self.view_is c.requires.can c.requires.op in
    let there = actor_at x c.args.actor (Takes c.args.ring) h c.list.result.now c.index-list-actor.result c.list.ensures c.index-list-actor.is in
    let state = state_at x c.args.actor (Takes c.args.ring) h c.index_mut-2.result.now c.index_mut-2.ensures.value in
    λ n k. (tray_room x.net _ _ x.inputs (kinds_of x.ops) x.instants _ _ _ _ h.machine h.kept c.args.actor c.args.ring n c.index-list-actor.result c.index_mut-2.result.now there k (is_next x c.args.actor (Takes c.args.ring) h c.index-list-actor.result c.index_mut-2.result.now there state) h.can.left h.op_now).0

pub put_out-requires-clause-room : goal.put_out-requires-clause-room
put_out-requires-clause-room c =
    let x = c.self.inside in
    let h = at_hand x c.args.self.now c.args.actor (Takes c.args.ring) c.self.invariant c.self.view_is c.requires.can c.requires.op in
    let there = actor_at x c.args.actor (Takes c.args.ring) h c.list.result.now c.index-list-actor.result c.list.ensures c.index-list-actor.is in
    let state = state_at x c.args.actor (Takes c.args.ring) h c.index_mut-2.result.now c.index_mut-2.ensures.value in
    λ n k. (tray_room x.net _ _ x.inputs (kinds_of x.ops) x.instants _ _ _ _ h.machine h.kept c.args.actor c.args.ring n c.index-list-actor.result c.index_mut-2.result.now there k (is_next x c.args.actor (Takes c.args.ring) h c.index-list-actor.result c.index_mut-2.result.now there state) h.can.left h.op_now).1

pub count_event-requires-clause-there : goal.count_event-requires-clause-there
count_event-requires-clause-there c =
    let x = c.self.inside in
    let h = at_hand x c.args.self.now c.args.actor (Takes c.args.ring) c.self.invariant c.self.view_is c.requires.can c.requires.op in
    omega (arith, h.kept.done_count, h.actor_in)

pub count_event-requires-clause-few : goal.count_event-requires-clause-few
count_event-requires-clause-few c =
    let x = c.self.inside in
    let h = at_hand x c.args.self.now c.args.actor (Takes c.args.ring) c.self.invariant c.self.view_is c.requires.can c.requires.op in
    let there = actor_at x c.args.actor (Takes c.args.ring) h c.list.result.now c.index-list-actor.result c.list.ensures c.index-list-actor.is in
    few_at x c.args.actor (Takes c.args.ring) h c.index-list-actor.result there

pub index-requires : goal.index-requires
index-requires c =
    let x = c.self.inside in
    let h = at_hand x c.args.self.now c.args.actor (Takes c.args.ring) c.self.invariant c.self.view_is c.requires.can c.requires.op in
    omega (arith, h.kept.states_count, h.actor_in, length-set x.states.items c.args.actor c.after_take.new.state)

pub count_ended-requires : goal.count_ended-requires
count_ended-requires c =
    let x = c.self.inside in
    let h = at_hand x c.args.self.now c.args.actor (Takes c.args.ring) c.self.invariant c.self.view_is c.requires.can c.requires.op in
    let there = actor_at x c.args.actor (Takes c.args.ring) h c.list.result.now c.index-list-actor.result c.list.ensures c.index-list-actor.is in
    let state = state_at x c.args.actor (Takes c.args.ring) h c.index_mut-2.result.now c.index_mut-2.ensures.value in
    some_going x c.args.actor (Takes c.args.ring) h c.index-list-actor.result c.index_mut-2.result.now there state

pub go_on-requires-clause-early : goal.go_on-requires-clause-early
go_on-requires-clause-early c = c.self.invariant.0.early

pub go_on-requires-clause-within : goal.go_on-requires-clause-within
go_on-requires-clause-within c =
    let x = c.self.inside in
    let h = at_hand x c.args.self.now c.args.actor (Takes c.args.ring) c.self.invariant c.self.view_is c.requires.can c.requires.op in
    subst (λ (ds : List ℕ). StandsInOrder x.schedule x.instants ds x.cursor) (sym (c.deref.ensures.value ∙ c.count_event.ensures))
    (step_in x.schedule x.instants x.done.items x.cursor c.args.actor (omega (arith, h.kept.done_count, h.actor_in)) c.self.invariant.3)

pub invariant_of-self : goal.invariant_of-self
invariant_of-self c =
    let x = c.self.inside in
    let h = at_hand x c.args.self.now c.args.actor (Takes c.args.ring) c.self.invariant c.self.view_is c.requires.can c.requires.op in
    let there = actor_at x c.args.actor (Takes c.args.ring) h c.list.result.now c.index-list-actor.result c.list.ensures c.index-list-actor.is in
    let state = state_at x c.args.actor (Takes c.args.ring) h c.index_mut-2.result.now c.index_mut-2.ensures.value in
    let circle = circle_at x c.args.actor (Takes c.args.ring) h c.args.ring c.index_mut.result.now h.ring_in c.index_mut.ensures.value in
    let v : ℤ = to_z w64 (of_z w64 c.pop-value.result) in
    let back : v ≡ c.pop-value.result = omega (arith, ints) in
    let now = kept_took x.net _ _ x.inputs (kinds_of x.ops) x.instants _ _ _ _ h.machine h.kept c.args.actor c.args.ring c.index-list-actor.result c.index_mut-2.result.now c.after_take.new.state v c.index_mut.result.now c.pop-value.new.self there state h.can h.op_now circle (c.pop-value.ensures.items ∙ ap (λ y. y ∷ c.pop-value.new.self.items) (sym back)) c.pop-value.ensures.room c.after_take.ensures in
    let m = machine_on x.net x.inputs (kinds_of x.ops) x.instants in
    let order = order_on x.schedule x.instants in
    let new : c.index.result.now ≡ c.after_take.new.state = c.index.ensures ∙ get_or-set_same x.states.items c.args.actor c.after_take.new.state _ (omega (arith, h.kept.states_count, h.actor_in)) in
    let states : List ActorState = set x.states.items c.args.actor c.after_take.new.state in
    let circles : List HeldItems = set x.circles.items c.args.ring c.pop-value.new.self in (
      h.fixed,
      subst (λ (ds : List ℕ). KeepsState x.net m order x.instants ds states circles c.put_out.new.trays.items) (sym c.count_event.ensures)
          (subst (λ (ts : List HeldItems). KeepsState x.net m order x.instants (one_more x.done.items c.args.actor) states circles ts) (sym c.put_out.ensures) now),
      going_after x c.args.actor (Takes c.args.ring) h c.index-list-actor.result c.index_mut-2.result.now c.after_take.new.state c.count_ended.new.going there state (c.count_ended.ensures ∙ ap (λ (s : ActorState). x.going + left_in s) new),
      subst (λ (ds : List ℕ). StandsInOrder x.schedule x.instants ds c.go_on.new.self) c.deref.ensures.value c.go_on.ensures.within,
      c.go_on.ensures.next ∙ ap (λ (ds : List ℕ). first_left (done_of ds) (order_on x.schedule x.instants)) c.deref.ensures.value,
    )

pub returns : goal.returns
returns c =
    let x = c.self.inside in
    let h = at_hand x c.args.self.now c.args.actor (Takes c.args.ring) c.self.invariant c.self.view_is c.requires.can c.requires.op in
    ap (λ ds. record { net = x.net; schedule = x.schedule; inputs = x.inputs; operators = x.ops; instants = x.instants; done = ds }) c.count_event.ensures
    ∙ ap (λ (seen : Seen). stepped seen c.args.actor) c.self.view_is
