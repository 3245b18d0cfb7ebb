use Rattle.std.proofs.Common.{ℕ, List, length}
use Rattle.lucy_kahn.specs.Instances.{AreInstances}
use Rattle.lucy_kahn.proofs.InstanceLaws.{left_from}
use Rattle.lucy_kahn.proofs.instances.all_instances.Given as goal

abbrev pub invariant-each : goal.invariant-each
invariant-each l = (paths : ℕ → List ℕ) × AreInstances l.placed.nodes l.list.items l.inner.items paths

abbrev pub decreases-each : goal.decreases-each
decreases-each l = left_from l.placed.nodes l.list.items (length l.inner.items)
