use Rattle.std.proofs.Common.{◌≡◌, ◌+◌, ◌++◌, drop}
use Rattle.lucy_types.specs.Gathered.{own_rules}
use Rattle.lucy_types.proofs.own.put_own.Given as goal

abbrev pub invariant-each : goal.invariant-each
invariant-each l = l.rules.items ++ own_rules (l.i + 1) (drop l.i l.places) ≡ l.initial.rules.items ++ own_rules 1 l.places
