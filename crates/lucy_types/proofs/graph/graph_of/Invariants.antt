use Rattle.std.proofs.Common.{◌≡◌, ◌+◌, take}
use Rattle.lucy_types.specs.Graphs.{IsDrawn, IsEven, room}
use Rattle.lucy_types.proofs.graph.graph_of.Given as goal

abbrev pub invariant-each : goal.invariant-each
invariant-each l = (room l.graph ≡ l.places + 1) × IsEven l.graph × IsDrawn (take l.rule-index l.rules) l.graph
