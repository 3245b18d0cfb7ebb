use Rattle.std.proofs.Common.{◌++◌, ◌∷◌, [], ap, ◌∙◌, arith}
use Rattle.lucy_tree.specs.declared.span.Name.{Name}
use Rattle.lucy_naming.specs.Places.{stream_place}
use Rattle.lucy_naming.specs.Views.{known_of}
use Rattle.lucy_place.proofs.ListLaws.{listed_next}
use Rattle.lucy_naming.proofs.nodes.results.Goals as goal

pub each-preserved : goal.each-preserved
each-preserved c =
    listed_next (λ (r : Name). stream_place (known_of c.args.names.now) r.text) c.each.found.items _ _ c.args.list.now c.each.name-index c.name-item.result (omega arith) c.name-item.is
    (c.in_ok-push.ensures.items ∙ ap (λ n. c.each.found.items ++ n ∷ []) c.stream_place.ensures) c.each.invariant
