use Rattle.std.proofs.Common.{◌≡◌, ◌++◌, drop, map}
use Rattle.lucy_place.specs.declared.entry.PlaceKind.TheVariants.{Param}
use Rattle.lucy_naming.specs.Places.{declared_entry}
use Rattle.lucy_naming.proofs.nodes.params.Given as goal

abbrev pub invariant-each : goal.invariant-each
invariant-each l = l.named.items ++ map (declared_entry Param) (drop l.decl-index l.decls) ≡ l.initial.named.items ++ map (declared_entry Param) l.decls
