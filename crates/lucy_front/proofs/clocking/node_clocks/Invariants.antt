use Rattle.std.proofs.Common.{◌≡◌, take}
use Rattle.lucy_clock.specs.NodeClocks.{signatures}
use Rattle.lucy_program.specs.Clocked.{AreClocksOf}
use Rattle.lucy_front.proofs.clocking.node_clocks.Given as goal

abbrev pub invariant-each : goal.invariant-each
invariant-each l = AreClocksOf l.options (take l.node l.placed.nodes) l.clocks.items × (l.above.items ≡ signatures (take l.node l.placed.nodes) l.clocks.items)
