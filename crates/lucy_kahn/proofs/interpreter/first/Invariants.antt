use Rattle.std.proofs.Common.{◌≡◌, ℕ, List}
use Rattle.std.specs.Prelude.{ℤ}
use Rattle.std.specs.List.{AllByRecursion}
use Rattle.lucy_host.specs.declared.kind.HostKind.{HostKind}
use Rattle.lucy_kahn.specs.Instances.{AreInstances}
use Rattle.lucy_kahn.specs.Turns.{iterate_to, AreShort}
use Rattle.lucy_kahn.proofs.interpreter.first.Given as goal

abbrev pub invariant-each : goal.invariant-each
invariant-each l = (kinds : List HostKind) (inputs : List (List ℤ)) (paths : ℕ → List ℕ) → AreInstances l.placed.nodes l.instances.list.items l.instances.inner.items paths →
    (l.lists.items ≡ iterate_to kinds inputs l.placed.nodes 0 paths l.i) × AllByRecursion AreShort l.lists.items
