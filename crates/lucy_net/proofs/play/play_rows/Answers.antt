use Rattle.std.proofs.Common.{ℕ, ◌<◌, ◌+◌, ◌≡◌, [], length, length-append, map, List, ◌∷◌, subst, ap, sym, ◌∙◌, arith}
use Rattle.std.proofs.lemmas.List.{length-map}
use Rattle.std.specs.Prelude.{All, Option, drop}
use Rattle.lucy_net.specs.Orders.{IsOrder}
use Rattle.lucy_net.specs.declared.settle.Wait.{Wait}
use Rattle.lucy_net.specs.Play.{IsPlayedSoFar, CanBeginInstant}
use Rattle.lucy_net.specs.Waiting.{IsKnot, AreItemsInTurn}
use Rattle.lucy_net.specs.Settling.{IsInstantLeft}
use Rattle.lucy_net.specs.Faults.{rows_of, item_of}
use Rattle.lucy_net.proofs.RowLaws.{row_at, orders_push, knot_actors, first_cycle}
use Rattle.lucy_net.proofs.play.play_rows.Goals as goal

pub play_instant-requires-clause-firing : goal.play_instant-requires-clause-firing
play_instant-requires-clause-firing c = c.deref.ensures.value ∙ c.requires.agenda c.loop-before.before c.index-agenda-before.result.items (row_at c.args.agenda.now c.loop-before.before c.index-agenda-before.result (omega arith) c.index-agenda-before.is)

pub play_instant-requires-clause-none : goal.play_instant-requires-clause-none
play_instant-requires-clause-none c = c.loop-before.invariant.none

pub items_in_turn-requires-clause-some : goal.items_in_turn-requires-clause-some
items_in_turn-requires-clause-some c =
    let waits : List Wait = c.play_instant.new.waits.items in
    let stuck : IsPlayedSoFar c.args.net.now c.loop-before.before c.play_instant.new.order.items c.play_instant.new.steps c.play_instant.new.held × IsKnot c.args.net.now c.loop-before.before c.play_instant.new.steps c.play_instant.new.held (drop c.in-Some.place waits) =
    subst (λ (s : Option ℕ). IsInstantLeft c.args.net.now c.loop-before.before c.play_instant.new.order.items c.play_instant.new.steps c.play_instant.new.held c.play_instant.new.depth c.play_instant.new.waits.items s) c.in-Some.is c.in_ok-settled.ensures in
    subst (λ (ws : List Wait). 0 < length (drop c.in-Some.place ws)) (sym c.deref-in-Some.ensures.value) stuck.1.some

pub items_in_turn-requires-clause-there : goal.items_in_turn-requires-clause-there
items_in_turn-requires-clause-there c =
    let waits : List Wait = c.play_instant.new.waits.items in
    let stuck : IsPlayedSoFar c.args.net.now c.loop-before.before c.play_instant.new.order.items c.play_instant.new.steps c.play_instant.new.held × IsKnot c.args.net.now c.loop-before.before c.play_instant.new.steps c.play_instant.new.held (drop c.in-Some.place waits) =
    subst (λ (s : Option ℕ). IsInstantLeft c.args.net.now c.loop-before.before c.play_instant.new.order.items c.play_instant.new.steps c.play_instant.new.held c.play_instant.new.depth c.play_instant.new.waits.items s) c.in-Some.is c.in_ok-settled.ensures in
    subst (λ (ws : List Wait). All (λ (w : Wait). w.actor < length c.args.net.now.actors) (drop c.in-Some.place ws)) (sym c.deref-in-Some.ensures.value)
    (knot_actors c.args.net.now c.loop-before.before c.play_instant.new.steps c.play_instant.new.held (drop c.in-Some.place waits) stuck.1)

pub returns-in-Some-clause-refused : goal.returns-in-Some-clause-refused
returns-in-Some-clause-refused c =
    let waits : List Wait = c.play_instant.new.waits.items in
    let stuck : IsPlayedSoFar c.args.net.now c.loop-before.before c.play_instant.new.order.items c.play_instant.new.steps c.play_instant.new.held × IsKnot c.args.net.now c.loop-before.before c.play_instant.new.steps c.play_instant.new.held (drop c.in-Some.place waits) =
    subst (λ (s : Option ℕ). IsInstantLeft c.args.net.now c.loop-before.before c.play_instant.new.order.items c.play_instant.new.steps c.play_instant.new.held c.play_instant.new.depth c.play_instant.new.waits.items s) c.in-Some.is c.in_ok-settled.ensures in
    let turn : AreItemsInTurn c.args.net.now (c.loop-before.before + 1) (drop c.in-Some.place waits) (map item_of c.in_ok-items.items.items) =
    subst (λ (ws : List Wait). AreItemsInTurn c.args.net.now (c.loop-before.before + 1) (drop c.in-Some.place ws) (map item_of c.in_ok-items.items.items)) c.deref-in-Some.ensures.value c.in_ok-items.ensures in (
      omega arith,
      first_cycle c.args.net.now c.loop-before.before c.play_instant.new.order.items c.play_instant.new.steps c.play_instant.new.held (drop c.in-Some.place waits) turn.0 (rows_of c.loop-before.orders.items) (map item_of c.in_ok-items.items.items) c.requires.proper stuck.0 stuck.1
          turn.1 c.loop-before.invariant.orders (length-map c.loop-before.orders.items _ ∙ c.loop-before.invariant.count) turn.2,
    )

pub loop-before-preserved : goal.loop-before-preserved
loop-before-preserved c =
    let done : IsOrder c.args.net.now c.loop-before.before c.play_instant.new.order.items × CanBeginInstant c.args.net.now (c.loop-before.before + 1) c.play_instant.new.steps c.play_instant.new.held c.play_instant.new.depth × (c.play_instant.new.waits.items ≡ []) =
    subst (λ (s : Option ℕ). IsInstantLeft c.args.net.now c.loop-before.before c.play_instant.new.order.items c.play_instant.new.steps c.play_instant.new.held c.play_instant.new.depth c.play_instant.new.waits.items s) c.in_default.is c.in_ok-settled.ensures in
    record {
      ready = done.1;
      orders = orders_push c.args.net.now c.loop-before.orders.items c.push.new.self.items c.play_instant.new.order c.loop-before.before c.loop-before.invariant.orders c.loop-before.invariant.count c.in_ok-push.ensures.items done.0;
      count = omega (arith, ap length c.in_ok-push.ensures.items, length-append c.loop-before.orders.items (c.play_instant.new.order ∷ []), c.loop-before.invariant.count);
      none = done.2;
    }
