use Rattle.std.proofs.Common.{◌≡◌, ◌++◌, drop}
use Rattle.lucy_types.specs.Ports.{joined_rules}
use Rattle.lucy_types.proofs.calls.put_ports.Given as goal

abbrev pub invariant-each : goal.invariant-each
invariant-each l =
    l.rules.items ++ joined_rules l.places (drop l.i l.ports) (drop l.i l.heads) (drop l.i l.places)
    ≡ l.initial.rules.items ++ joined_rules l.places l.ports l.heads l.places
