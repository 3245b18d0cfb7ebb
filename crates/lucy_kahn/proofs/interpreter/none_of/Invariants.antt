use Rattle.std.proofs.Common.{◌≡◌, [], replicate}
use Rattle.lucy_kahn.proofs.interpreter.none_of.Given as goal

abbrev pub invariant-each : goal.invariant-each
invariant-each l = l.lists ≡ replicate l.place []
