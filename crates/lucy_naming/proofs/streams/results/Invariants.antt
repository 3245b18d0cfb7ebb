use Rattle.std.proofs.Common.{◌≡◌, drop}
use Rattle.lucy_naming.specs.Faults.{result_faults}
use Rattle.lucy_naming.proofs.streams.results.Given as goal

abbrev pub invariant-each : goal.invariant-each
invariant-each l = result_faults l.streams l.before (drop l.name-index l.list) ≡ result_faults l.streams l.initial.before l.list
