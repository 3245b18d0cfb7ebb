use Rattle.std.proofs.Common.{◌+◌, ◌<◌, length, get_or, set, ap, sym, refl, subst}
use Rattle.std.specs.Prelude.{slice_index}
use Rattle.lucy_net.proofs.PlayLaws.{left_in, within_rings, actor_here, giver_here}
use Rattle.lucy_net.proofs.StackLaws.{stack_none, stack_room, marked_within}
use Rattle.lucy_net.proofs.SettleLaws.{went_over, went_took, went_gave, wanted_there, giver_there, went_waits, went_knot, grown_set, falls, falls_waits, same_set, pushed_length}
use Rattle.lucy_net.proofs.Steps.{le_same, le_more, le_still, le_moved, none_over, some_next, early_fits, less_fits, actor_fits, waits_few, step_small, marked_there}
use Rattle.lucy_net.proofs.settle.settle.Goals as goal

pub events-init : goal.events-init
events-init c = record {
  played = c.requires.played;
  stack = stack_none c.args.net.now c.args.before c.args.steps.now c.args.held.now c.args.depth.now c.args.waits.now.items c.args.first c.requires.none c.requires.depths c.requires.unmarked c.requires.first;
  busy = c.requires.busy;
  grown = λ a. le_same _;
}

pub bounds-actors-now : goal.bounds-actors-now
bounds-actors-now c = subst (λ n. c.events.now < n) (sym (ap length c.list-actors.ensures)) c.events.invariant.stack.within

pub bounds-steps-now : goal.bounds-steps-now
bounds-steps-now c = subst (λ n. c.events.now < n) (sym c.events.invariant.played.actors) c.events.invariant.stack.within

pub advance-requires-clause-fits : goal.advance-requires-clause-fits
advance-requires-clause-fits c = early_fits c.args.before c.requires.early

pub advance-requires-clause-arity : goal.advance-requires-clause-arity
advance-requires-clause-arity c = (c.requires.proper.actors c.events.now c.index-actors-now.result (actor_here c.args.net.now.actors c.list-actors.result.now c.events.now c.index-actors-now.result c.list-actors.ensures c.events.invariant.stack.within c.index-actors-now.is)).arity

pub advance-requires-clause-small : goal.advance-requires-clause-small
advance-requires-clause-small c = step_small c.args.net.now c.args.before c.events.now (slice_index c.events.steps c.events.now) c.requires.proper (c.events.invariant.played.within c.events.now)

pub advance-requires-clause-rings : goal.advance-requires-clause-rings
advance-requires-clause-rings c = within_rings c.args.net.now c.args.before c.events.order.items c.events.steps c.events.held c.events.now c.index-actors-now.result c.requires.proper c.events.invariant.played (actor_here c.args.net.now.actors c.list-actors.result.now c.events.now c.index-actors-now.result c.list-actors.ensures c.events.invariant.stack.within c.index-actors-now.is) c.events.invariant.busy

pub returns-in-Over-clause-left : goal.returns-in-Over-clause-left
returns-in-Over-clause-left c = went_over c.args.net.now c.args.before c.events.order.items c.events.steps c.events.held c.events.depth c.events.waits.items c.args.first c.events.now c.index-actors-now.result c.advance.new.step c.advance.new.held c.requires.proper c.events.invariant.played c.events.invariant.stack (actor_here c.args.net.now.actors c.list-actors.result.now c.events.now c.index-actors-now.result c.list-actors.ensures c.events.invariant.stack.within c.index-actors-now.is) c.events.invariant.busy c.in-Over.ensures

pub returns-in-Over-clause-grown : goal.returns-in-Over-clause-grown
returns-in-Over-clause-grown c = grown_set c.args.steps.now c.events.steps c.events.now c.advance.new.step c.events.invariant.grown (le_still c.in-Over.ensures.1.stepped)

pub overflow_cast-now-in-Took : goal.overflow_cast-now-in-Took
overflow_cast-now-in-Took c = actor_fits c.args.net.now c.events.now c.requires.proper c.events.invariant.stack.within

pub overflow_cast-now-in-Gave : goal.overflow_cast-now-in-Gave
overflow_cast-now-in-Gave c = actor_fits c.args.net.now c.events.now c.requires.proper c.events.invariant.stack.within

pub overflow_cast-now-in-Waits : goal.overflow_cast-now-in-Waits
overflow_cast-now-in-Waits c = actor_fits c.args.net.now c.events.now c.requires.proper c.events.invariant.stack.within

pub events-smaller-in-Continue-1 : goal.events-smaller-in-Continue-1
events-smaller-in-Continue-1 c =
    falls (left_in c.args.net.now c.args.before c.events.steps) (left_in c.args.net.now c.args.before (set c.events.steps c.events.now c.advance.new.step)) (length c.args.net.now.actors) (length c.events.waits.items) (length c.events.waits.items) (went_took c.args.net.now c.args.before c.events.order.items c.events.steps c.events.held c.events.depth c.events.waits.items c.args.first c.events.now c.index-actors-now.result c.advance.new.step c.advance.new.held c.push.new.self.items c.requires.proper c.events.invariant.played c.events.invariant.stack (actor_here c.args.net.now.actors c.list-actors.result.now c.events.now c.index-actors-now.result c.list-actors.ensures c.events.invariant.stack.within c.index-actors-now.is) c.events.invariant.busy c.in-Took.ensures c.in_ok-push-in-Took.ensures.items).left (le_more _) (stack_room c.args.net.now c.args.before c.events.steps c.events.held c.events.depth c.events.waits.items c.args.first c.events.now c.events.invariant.stack)

pub events-preserved-in-Continue-1 : goal.events-preserved-in-Continue-1
events-preserved-in-Continue-1 c =
    let went = (went_took c.args.net.now c.args.before c.events.order.items c.events.steps c.events.held c.events.depth c.events.waits.items c.args.first c.events.now c.index-actors-now.result c.advance.new.step c.advance.new.held c.push.new.self.items c.requires.proper c.events.invariant.played c.events.invariant.stack (actor_here c.args.net.now.actors c.list-actors.result.now c.events.now c.index-actors-now.result c.list-actors.ensures c.events.invariant.stack.within c.index-actors-now.is) c.events.invariant.busy c.in-Took.ensures c.in_ok-push-in-Took.ensures.items) in
    record { played = went.played; stack = went.stack; busy = went.busy; grown = grown_set c.args.steps.now c.events.steps c.events.now c.advance.new.step c.events.invariant.grown (le_moved c.in-Took.ensures.3.stepped) }

pub resume-now-requires : goal.resume-now-requires
resume-now-requires c k l = marked_within c.events.depth _ (some_next k (c.events.invariant.stack.marks k l))

pub events-smaller-in-Gave : goal.events-smaller-in-Gave
events-smaller-in-Gave c =
    let went = (went_gave c.args.net.now c.args.before c.events.order.items c.events.steps c.events.held c.events.depth c.events.waits.items c.args.first c.events.now c.index-actors-now.result c.advance.new.step c.advance.new.held c.push-in-Gave.new.self.items c.in-Gave.ring c.resume-now.new.waits.items c.resume-now.new.depth c.resume-now.result c.requires.proper c.events.invariant.played c.events.invariant.stack (actor_here c.args.net.now.actors c.list-actors.result.now c.events.now c.index-actors-now.result c.list-actors.ensures c.events.invariant.stack.within c.index-actors-now.is) c.events.invariant.busy c.in-Gave.ensures c.in_ok-push-in-Gave.ensures.items c.resume-now.ensures) in
    falls (left_in c.args.net.now c.args.before c.events.steps) (left_in c.args.net.now c.args.before (set c.events.steps c.events.now c.advance.new.step)) (length c.args.net.now.actors) (length c.events.waits.items) (length c.resume-now.new.waits.items) went.0.left went.1 (stack_room c.args.net.now c.args.before c.events.steps c.events.held c.events.depth c.events.waits.items c.args.first c.events.now c.events.invariant.stack)

pub events-preserved-in-Gave : goal.events-preserved-in-Gave
events-preserved-in-Gave c =
    let went = (went_gave c.args.net.now c.args.before c.events.order.items c.events.steps c.events.held c.events.depth c.events.waits.items c.args.first c.events.now c.index-actors-now.result c.advance.new.step c.advance.new.held c.push-in-Gave.new.self.items c.in-Gave.ring c.resume-now.new.waits.items c.resume-now.new.depth c.resume-now.result c.requires.proper c.events.invariant.played c.events.invariant.stack (actor_here c.args.net.now.actors c.list-actors.result.now c.events.now c.index-actors-now.result c.list-actors.ensures c.events.invariant.stack.within c.index-actors-now.is) c.events.invariant.busy c.in-Gave.ensures c.in_ok-push-in-Gave.ensures.items c.resume-now.ensures) in
    record { played = went.0.played; stack = went.0.stack; busy = went.0.busy; grown = grown_set c.args.steps.now c.events.steps c.events.now c.advance.new.step c.events.invariant.grown (le_moved c.in-Gave.ensures.1.stepped) }

pub put_wait-requires-clause-actor : goal.put_wait-requires-clause-actor
put_wait-requires-clause-actor c = subst (λ n. c.events.now < n) (sym c.events.invariant.stack.depths) c.events.invariant.stack.within

pub put_wait-requires-clause-few : goal.put_wait-requires-clause-few
put_wait-requires-clause-few c = waits_few c.args.net.now (length c.events.waits.items) c.requires.proper (stack_room c.args.net.now c.args.before c.events.steps c.events.held c.events.depth c.events.waits.items c.args.first c.events.now c.events.invariant.stack)

pub bounds-rings-ring : goal.bounds-rings-ring
bounds-rings-ring c = subst (λ n. c.in-Waits.ring < n) (sym (ap length c.list-rings.ensures)) (wanted_there c.args.net.now c.args.before c.events.steps c.events.held c.events.now c.index-actors-now.result c.advance.new.step c.advance.new.held c.in-Waits.ring c.requires.proper (actor_here c.args.net.now.actors c.list-actors.result.now c.events.now c.index-actors-now.result c.list-actors.ensures c.events.invariant.stack.within c.index-actors-now.is) c.events.invariant.busy c.in-Waits.ensures)

pub bounds-rings-ring-in_ok-put_wait-in-Waits : goal.bounds-rings-ring-in_ok-put_wait-in-Waits
bounds-rings-ring-in_ok-put_wait-in-Waits c = subst (λ n. c.in-Waits.ring < n) (sym (ap length c.list-rings.ensures)) (wanted_there c.args.net.now c.args.before c.events.steps c.events.held c.events.now c.index-actors-now.result c.advance.new.step c.advance.new.held c.in-Waits.ring c.requires.proper (actor_here c.args.net.now.actors c.list-actors.result.now c.events.now c.index-actors-now.result c.list-actors.ensures c.events.invariant.stack.within c.index-actors-now.is) c.events.invariant.busy c.in-Waits.ensures)

pub bounds-depth-now : goal.bounds-depth-now
bounds-depth-now c =
    let there = giver_there c.args.net.now c.args.before c.events.order.items c.events.steps c.events.held c.events.now c.index-actors-now.result c.advance.new.step c.advance.new.held c.in-Waits.ring c.requires.proper c.events.invariant.played (actor_here c.args.net.now.actors c.list-actors.result.now c.events.now c.index-actors-now.result c.list-actors.ensures c.events.invariant.stack.within c.index-actors-now.is) c.events.invariant.busy c.in-Waits.ensures in
    marked_there _ _ _ c.events.depth c.put_wait.new.depth c.events.now (length c.events.waits.items + 1) there.0 (giver_here c.args.net.now c.list-rings.result.now c.in-Waits.ring c.index-rings-ring.result c.list-rings.ensures (wanted_there c.args.net.now c.args.before c.events.steps c.events.held c.events.now c.index-actors-now.result c.advance.new.step c.advance.new.held c.in-Waits.ring c.requires.proper (actor_here c.args.net.now.actors c.list-actors.result.now c.events.now c.index-actors-now.result c.list-actors.ensures c.events.invariant.stack.within c.index-actors-now.is) c.events.invariant.busy c.in-Waits.ensures)) c.events.invariant.stack.depths c.in_ok-put_wait-in-Waits.ensures.marked

pub bounds-depth-now-then-depth-now-gt0 : goal.bounds-depth-now-then-depth-now-gt0
bounds-depth-now-then-depth-now-gt0 c =
    let there = giver_there c.args.net.now c.args.before c.events.order.items c.events.steps c.events.held c.events.now c.index-actors-now.result c.advance.new.step c.advance.new.held c.in-Waits.ring c.requires.proper c.events.invariant.played (actor_here c.args.net.now.actors c.list-actors.result.now c.events.now c.index-actors-now.result c.list-actors.ensures c.events.invariant.stack.within c.index-actors-now.is) c.events.invariant.busy c.in-Waits.ensures in
    marked_there _ _ _ c.events.depth c.put_wait.new.depth c.events.now (length c.events.waits.items + 1) there.0 (giver_here c.args.net.now c.list-rings.result.now c.in-Waits.ring c.index-rings-ring.result c.list-rings.ensures (wanted_there c.args.net.now c.args.before c.events.steps c.events.held c.events.now c.index-actors-now.result c.advance.new.step c.advance.new.held c.in-Waits.ring c.requires.proper (actor_here c.args.net.now.actors c.list-actors.result.now c.events.now c.index-actors-now.result c.list-actors.ensures c.events.invariant.stack.within c.index-actors-now.is) c.events.invariant.busy c.in-Waits.ensures)) c.events.invariant.stack.depths c.in_ok-put_wait-in-Waits.ensures.marked

pub overflow_sub-result : goal.overflow_sub-result
overflow_sub-result c = c.if-depth-now-gt0.true

pub overflow_cast-result : goal.overflow_cast-result
overflow_cast-result c = less_fits _ (c.type_inv.depth _)

pub returns-then-depth-now-gt0-clause-left : goal.returns-then-depth-now-gt0-clause-left
returns-then-depth-now-gt0-clause-left c =
    went_knot c.args.net.now c.args.before c.events.order.items c.events.steps c.events.held c.events.depth c.events.waits.items c.args.first c.events.now c.index-actors-now.result c.advance.new.step c.advance.new.held c.in-Waits.ring c.put_wait.new.waits.items c.put_wait.new.depth ((get_or c.list-rings.result.now c.in-Waits.ring c.index-rings-ring.result).from) c.requires.proper c.events.invariant.played c.events.invariant.stack (actor_here c.args.net.now.actors c.list-actors.result.now c.events.now c.index-actors-now.result c.list-actors.ensures c.events.invariant.stack.within c.index-actors-now.is) c.events.invariant.busy c.in-Waits.ensures c.in_ok-put_wait-in-Waits.ensures (giver_here c.args.net.now c.list-rings.result.now c.in-Waits.ring c.index-rings-ring.result c.list-rings.ensures (wanted_there c.args.net.now c.args.before c.events.steps c.events.held c.events.now c.index-actors-now.result c.advance.new.step c.advance.new.held c.in-Waits.ring c.requires.proper (actor_here c.args.net.now.actors c.list-actors.result.now c.events.now c.index-actors-now.result c.list-actors.ensures c.events.invariant.stack.within c.index-actors-now.is) c.events.invariant.busy c.in-Waits.ensures)) c.if-depth-now-gt0.true

pub returns-then-depth-now-gt0-clause-grown : goal.returns-then-depth-now-gt0-clause-grown
returns-then-depth-now-gt0-clause-grown c = grown_set c.args.steps.now c.events.steps c.events.now c.advance.new.step c.events.invariant.grown (le_still c.in-Waits.ensures.2.stepped)

pub events-smaller : goal.events-smaller
events-smaller c =
    falls_waits (left_in c.args.net.now c.args.before c.events.steps) (left_in c.args.net.now c.args.before (set c.events.steps c.events.now c.advance.new.step)) (length c.args.net.now.actors) (length c.events.waits.items) (length c.put_wait.new.waits.items)
    (ap (left_in c.args.net.now c.args.before) (same_set c.events.steps c.events.now c.advance.new.step c.in-Waits.ensures.2.stepped))
    (pushed_length c.events.waits.items c.put_wait.new.waits.items _ _ c.in_ok-put_wait-in-Waits.ensures.last refl)
    (stack_room c.args.net.now c.args.before c.events.steps c.events.held c.events.depth c.events.waits.items c.args.first c.events.now c.events.invariant.stack)

pub events-preserved : goal.events-preserved
events-preserved c =
    let went = went_waits c.args.net.now c.args.before c.events.order.items c.events.steps c.events.held c.events.depth c.events.waits.items c.args.first c.events.now c.index-actors-now.result c.advance.new.step c.advance.new.held c.in-Waits.ring c.put_wait.new.waits.items c.put_wait.new.depth ((get_or c.list-rings.result.now c.in-Waits.ring c.index-rings-ring.result).from) c.requires.proper c.events.invariant.played c.events.invariant.stack (actor_here c.args.net.now.actors c.list-actors.result.now c.events.now c.index-actors-now.result c.list-actors.ensures c.events.invariant.stack.within c.index-actors-now.is) c.events.invariant.busy c.in-Waits.ensures c.in_ok-put_wait-in-Waits.ensures (giver_here c.args.net.now c.list-rings.result.now c.in-Waits.ring c.index-rings-ring.result c.list-rings.ensures (wanted_there c.args.net.now c.args.before c.events.steps c.events.held c.events.now c.index-actors-now.result c.advance.new.step c.advance.new.held c.in-Waits.ring c.requires.proper (actor_here c.args.net.now.actors c.list-actors.result.now c.events.now c.index-actors-now.result c.list-actors.ensures c.events.invariant.stack.within c.index-actors-now.is) c.events.invariant.busy c.in-Waits.ensures)) (none_over c.if-depth-now-gt0.false) in
    record { played = went.0; stack = went.1; busy = went.2; grown = grown_set c.args.steps.now c.events.steps c.events.now c.advance.new.step c.events.invariant.grown (le_still c.in-Waits.ensures.2.stepped) }
