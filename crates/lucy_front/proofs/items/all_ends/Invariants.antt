use Rattle.lucy_front.specs.Ends.{AreAllEnds}
use Rattle.lucy_front.proofs.items.all_ends.Given as goal

abbrev pub invariant-nodes : goal.invariant-nodes
invariant-nodes l = AreAllEnds l.placed.nodes l.node l.all.items
