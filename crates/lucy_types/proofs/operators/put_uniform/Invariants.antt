use Rattle.std.proofs.Common.{◌≡◌, ◌++◌, take}
use Rattle.lucy_types.specs.Rules.{all_are}
use Rattle.lucy_types.proofs.operators.put_uniform.Given as goal

abbrev pub invariant-each : goal.invariant-each
invariant-each l = l.rules.items ≡ l.initial.rules.items ++ all_are l.of (take l.arg-index l.args)
