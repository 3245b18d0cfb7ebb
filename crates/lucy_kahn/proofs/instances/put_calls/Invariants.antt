use Rattle.std.proofs.Common.{◌≡◌, ◌++◌, take}
use Rattle.lucy_kahn.specs.Instances.{made}
use Rattle.lucy_kahn.proofs.instances.put_calls.Given as goal

abbrev pub invariant-each : goal.invariant-each
invariant-each l = l.list.items ≡ l.initial.list.items ++ made l.instance 1 (take l.i l.calls)
