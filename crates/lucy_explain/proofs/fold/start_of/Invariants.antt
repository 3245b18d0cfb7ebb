use Rattle.std.proofs.Common.{◌≤◌, length}
use Rattle.lucy_explain.proofs.fold.start_of.Given as goal

abbrev pub invariant-each : goal.invariant-each
invariant-each l = l.found ≤ length l.cycle
