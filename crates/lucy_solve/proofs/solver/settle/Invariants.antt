use Rattle.std.proofs.Common.{◌*◌, ◌-◌, length, sum}
use Rattle.lucy_solve.specs.System.{most_constant}
use Rattle.lucy_solve.specs.Search.{IsReached, AreWithin}
use Rattle.lucy_solve.proofs.solver.settle.Given as goal

abbrev pub invariant-passes : goal.invariant-passes
invariant-passes l = IsReached l.diffs l.values l.parents × AreWithin l.values (length l.diffs.list)

abbrev pub decreases-passes : goal.decreases-passes
decreases-passes l = l.diffs.count * (most_constant * length l.diffs.list) - sum l.values
