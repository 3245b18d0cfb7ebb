use Rattle.std.proofs.Common.{◌≡◌, Some, take}
use Rattle.std.specs.Prelude.{slice_get}
use Rattle.lucy_place.specs.declared.placed.PlacedNode.{PlacedNode}
use Rattle.lucy_types.specs.Nodes.{tables_of}
use Rattle.lucy_types.proofs.RuleLaws.{GatheredUpto}
use Rattle.lucy_types.proofs.rules.node_rules.Given as goal

abbrev pub invariant-each : goal.invariant-each
invariant-each l = (n : PlacedNode) → slice_get l.placed.nodes l.node ≡ Some n → GatheredUpto (take l.node l.placed.nodes) (tables_of l.signatures) n l.site-index l.rules.items
