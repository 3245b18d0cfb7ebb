use Rattle.lucy_host.specs.Host.{lent}
use Rattle.lucy_host.specs.Operators.{kinds_of}
use Rattle.lucy_kahn.specs.Turns.{IsRun}
use Rattle.lucy_kahn.proofs.interpreter.kahn.Given as goal

abbrev pub invariant-turns : goal.invariant-turns
invariant-turns g l = IsRun (kinds_of (lent l.host)) l.inputs l.placed.nodes l.instances.list.items l.instances.inner.items l.number l.lists.items
