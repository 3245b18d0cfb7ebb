use Rattle.std.proofs.Common.{◌≡◌, ◌+◌, ◌-◌, [], length, get_or, ap, sym, ◌∙◌, subst, arith}
use Rattle.std.specs.Prelude.{slice_get}
use Rattle.std.proofs.lemmas.Option.{slice_get-get_or}
use Rattle.lucy_kahn.specs.Spots.{main_of}
use Rattle.lucy_kahn.specs.Numbers.{begin_from}
use Rattle.lucy_net.specs.declared.error.Item.{Item}
use Rattle.lucy_front.specs.Items.{IsActorName}
use Rattle.lucy_front.proofs.ItemNames.{names_more}
use Rattle.lucy_front.proofs.items.item_names.Goals as goal

pub each-preserved : goal.each-preserved
each-preserved c =
    let nodes = c.args.placed.now.nodes in
    let items = c.args.items.now in
    let none : Item = record { actor = 0; number = 0 } in
    let item : Item = get_or items c.each.i none in
    let at = slice_get-get_or items c.each.i none c.each-test.true in
    let last : length nodes - 1 ≡ c.args.main = omega (arith, c.requires.main) in
    let named = c.in_ok-put_name.ensures [] (ap (slice_get nodes) last) c.new-name.ensures.items in
    let number : begin_from nodes (main_of nodes) [] + c.from-actor.result ≡ item.actor = omega (arith, c.from-actor.ensures) in
    let text : c.in_ok-text.text ≡ c.put_name.new.name.items = c.in_ok-text.ensures ∙ c.deref-in-each.ensures.value in
    names_more nodes items c.each.i item c.each.names.items c.in_ok-text.text c.push.new.list.items c.each.invariant at (subst (IsActorName nodes item.actor) (sym text) (subst (λ k. IsActorName nodes k c.put_name.new.name.items) number named))
    c.in_ok-push.ensures
