use Rattle.std.proofs.Common.{suc, ◌≡◌, ◌+◌, ◌≤◌, List, Some, length, ap, sym, refl, ◌∙◌, subst, arith}
use Rattle.std.specs.Prelude.{ℤ}
use Rattle.std.proofs.lemmas.Option.{slice_get_read}
use Rattle.lucy_host.specs.Host.{lent}
use Rattle.lucy_host.specs.Operators.{kinds_of}
use Rattle.lucy_place.specs.Proper.{at_one}
use Rattle.lucy_kahn.specs.Spots.{at, node_at}
use Rattle.lucy_kahn.specs.Kahn.{kahn}
use Rattle.lucy_kahn.specs.Outcomes.{most_items}
use Rattle.lucy_kahn.specs.Turns.{AreShort, lists_to, places_in}
use Rattle.lucy_kahn.proofs.OwnLaws.{short_push}
use Rattle.lucy_kahn.proofs.RunLaws.{mapped_from, entry_at, entry_stands}
use Rattle.lucy_kahn.proofs.turn.lists_of.Goals as goal

pub node-node-requires : goal.node-node-requires
node-node-requires g c =
    let list = c.args.before.now.instances.now.list.items in
    (c.requires.before.1.instances.each c.args.instance c.index.result.now (slice_get_read list (length list) c.args.instance c.index.result.now refl c.requires.there c.index.ensures)).within

pub list_of-requires-clause-stands : goal.list_of-requires-clause-stands
list_of-requires-clause-stands g c = λ κs h.
    let it = c.args.before.now in
    let list = it.instances.now.list.items in
    entry_stands it.placed.now.nodes list c.args.instance c.each.i c.index.result.now c.node-node.result.now c.entry-item.result
    (slice_get_read list (length list) c.args.instance c.index.result.now refl c.requires.there c.index.ensures) c.node-node.ensures.is
    (ap (λ ps. at_one ps (c.each.i + 1)) (sym c.list-entry-items.ensures) ∙ entry_at c.list-entry-items.result.now c.each.i c.entry-item.result (omega arith) c.entry-item.is)

pub each-preserved : goal.each-preserved
each-preserved g c paths b =
    let it = c.args.before.now in
    let old = c.each.invariant paths b in
    let made = c.in_ok-list.ensures.ok paths b in
    let new = c.in_ok-put.ensures.ok in
    let z : 1 + c.each.i ≡ c.each.i + 1 = omega arith in (
      mapped_from (λ p. kahn (kinds_of (lent c.args.host.now)) it.inputs.now it.placed.now.nodes (suc it.number) (at (paths c.args.instance) p)) 1 c.each.i (c.each.i + 1) c.each.lists c.put.new.self _ z old.0 new made.0,
      subst AreShort (sym new) (short_push c.each.lists _ old.1 (subst (λ (xs : List ℤ). length xs ≤ most_items) (sym made.0) made.1)),
    )

pub returns-clause-ok : goal.returns-clause-ok
returns-clause-ok g c paths b =
    let it = c.args.before.now in
    let list = it.instances.now.list.items in
    let all = c.each.invariant paths b in
    let path = paths c.args.instance in
    let node : node_at it.placed.now.nodes (paths c.args.instance) ≡ Some c.node-node.result.now =
    (b.instances.each c.args.instance c.index.result.now (slice_get_read list (length list) c.args.instance c.index.result.now refl c.requires.there c.index.ensures)).node ∙ c.node-node.ensures.is in
    let same = ap (λ ps. length ps) c.list-entry-items.ensures in
    let z : c.each.i ≡ length c.node-node.result.now.places = omega arith in (
      all.0 ∙ ap (lists_to (kinds_of (lent c.args.host.now)) it.inputs.now it.placed.now.nodes (suc it.number) (paths c.args.instance)) z
          ∙ ap (λ o. lists_to (kinds_of (lent c.args.host.now)) it.inputs.now it.placed.now.nodes (suc it.number) (paths c.args.instance) (places_in o)) (sym node),
      all.1,
    )
