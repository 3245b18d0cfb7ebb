use Rattle.std.proofs.Common.{◌≡◌, replicate, None}
use Rattle.lucy_diagram.proofs.layers.work.none_found.Given as goal

abbrev pub invariant-each : goal.invariant-each
invariant-each l = l.found.items ≡ replicate l.counter None
