use Rattle.std.proofs.Common.{◌≡◌, ◌+◌, List, [], Some, length, replicate, ap, sym, refl, ◌∙◌, subst, arith}
use Rattle.std.specs.Prelude.{ℤ}
use Rattle.std.specs.List.{AllByRecursion}
use Rattle.std.proofs.lemmas.Option.{slice_get_read}
use Rattle.lucy_kahn.specs.Spots.{node_at}
use Rattle.lucy_kahn.specs.Turns.{AreShort, iterate_to, lists_in, places_in}
use Rattle.lucy_kahn.proofs.OwnLaws.{all_push, none_lists, none_short}
use Rattle.lucy_kahn.proofs.RunLaws.{mapped_from}
use Rattle.lucy_kahn.proofs.interpreter.first.Goals as goal

pub node-requires : goal.node-requires
node-requires c =
    let list = c.args.instances.now.list.items in
    (c.requires.1.each c.each.i c.index.result.now (slice_get_read list (length list) c.each.i c.index.result.now refl (omega arith) c.index.ensures)).within

pub each-preserved : goal.each-preserved
each-preserved c kinds inputs paths are =
    let nodes = c.args.placed.now.nodes in
    let list = c.args.instances.now.list.items in
    let old = c.each.invariant kinds inputs paths are in
    let node : node_at nodes (paths c.each.i) ≡ Some c.node.result.now =
    (are.each c.each.i c.index.result.now (slice_get_read list (length list) c.each.i c.index.result.now refl (omega arith) c.index.ensures)).node ∙ c.node.ensures.is in
    let made = c.in_ok-none_of.ensures.ok in
    let is : c.in_ok-none_of.field-0 ≡ lists_in kinds inputs nodes 0 (paths c.each.i) = made ∙ ap (λ o. replicate {A = List ℤ} (places_in o) []) (sym node) ∙ none_lists (places_in (node_at nodes (paths c.each.i))) 1 in
    let z : 0 + c.each.i ≡ c.each.i = omega arith in
    let new = c.in_ok-push.ensures.items in (
      mapped_from (λ i. lists_in kinds inputs nodes 0 (paths i)) 0 c.each.i c.each.i c.each.lists.items c.push.new.self.items c.in_ok-none_of.field-0 z old.0 new is,
      subst (λ (xs : List (List (List ℤ))). AllByRecursion AreShort xs) (sym new) (all_push c.each.lists.items c.in_ok-none_of.field-0 old.1 (subst AreShort (sym made) (none_short (length c.node.result.now.places)))),
    )

pub returns-clause-ok : goal.returns-clause-ok
returns-clause-ok c kinds inputs paths are =
    let all = c.each.invariant kinds inputs paths are in
    let z : c.each.i ≡ length c.args.instances.now.list.items = omega arith in
    record { is = all.0 ∙ ap (iterate_to kinds inputs c.args.placed.now.nodes 0 paths) z; short = all.1 }
