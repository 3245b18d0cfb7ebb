use Rattle.lucy_types.specs.Nodes.{AreTyped}
use Rattle.lucy_types.proofs.typing.found.Given as goal

abbrev pub invariant-each : goal.invariant-each
invariant-each l = AreTyped l.placed.nodes l.node l.nodes.items
