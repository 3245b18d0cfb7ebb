use Rattle.std.proofs.Common.{◌++◌, ◌∷◌, [], ap, ◌∙◌, arith}
use Rattle.lucy_place.specs.declared.entry.PlaceKind.TheVariants.{Param}
use Rattle.lucy_naming.specs.Places.{declared_entry}
use Rattle.lucy_place.proofs.ListLaws.{listed_next}
use Rattle.lucy_naming.proofs.nodes.params.Goals as goal

pub each-preserved : goal.each-preserved
each-preserved c =
    listed_next (declared_entry Param) c.each.named.items _ _ c.args.decls.now c.each.decl-index c.decl-item.result (omega arith) c.decl-item.is
    (c.in_ok-push.ensures.items ∙ ap (λ e. c.each.named.items ++ e ∷ []) c.in_ok-declared_entry.ensures) c.each.invariant
