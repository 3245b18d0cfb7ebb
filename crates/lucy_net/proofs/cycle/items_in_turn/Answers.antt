use Rattle.std.proofs.Common.{◌<◌, ◌≡◌, List, length, map, drop, sym, subst, ap, ◌∙◌}
use Rattle.std.proofs.lemmas.Result.{IfOk-weaker}
use Rattle.std.proofs.lemmas.List.{take_rest}
use Rattle.lucy_net.specs.declared.settle.Wait.{Wait}
use Rattle.lucy_net.specs.Waiting.{IsTurnedToLeast, AreItemsInTurn}
use Rattle.lucy_net.specs.Faults.{item_of, item_now}
use Rattle.lucy_net.proofs.RowLaws.{turned_actors, part_there}
use Rattle.lucy_net.proofs.cycle.items_in_turn.Goals as goal

pub slice_bounds-to_vec-count : goal.slice_bounds-to_vec-count
slice_bounds-to_vec-count c = part_there c.args.waits.now c.args.place c.requires.some

pub turn_to_least-requires : goal.turn_to_least-requires
turn_to_least-requires c = subst (λ (ws : List Wait). 0 < length ws) (sym (c.in_ok-turned.ensures.items_if_clones_equal (λ x y e. e) ∙ take_rest c.args.waits.now c.args.place)) c.requires.some

pub items_of-requires : goal.items_of-requires
items_of-requires c =
    turned_actors c.args.net.now (drop c.args.place c.args.waits.now) c.in_ok-turned.turned.items c.turn_to_least.new.waits.items c.deref.result.now
    (c.in_ok-turned.ensures.items_if_clones_equal (λ x y e. e) ∙ take_rest c.args.waits.now c.args.place) c.turn_to_least.ensures c.deref.ensures.value c.requires.there

pub returns : goal.returns
returns c =
    let turned : List Wait = c.turn_to_least.new.waits.items in
    let item = λ (wait : Wait). item_now c.args.net.now c.args.instant wait.actor in
    IfOk-weaker c.items_of.result (λ items. map item_of items.items ≡ map item c.deref.result.now)
    (λ items. AreItemsInTurn c.args.net.now c.args.instant (drop c.args.place c.args.waits.now) (map item_of items.items))
    (λ items e. (turned, subst (λ (ws : List Wait). IsTurnedToLeast ws turned) (c.in_ok-turned.ensures.items_if_clones_equal (λ x y e. e) ∙ take_rest c.args.waits.now c.args.place) c.turn_to_least.ensures, e ∙ ap (map item) c.deref.ensures.value))
    c.items_of.ensures
