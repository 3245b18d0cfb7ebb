use Rattle.std.proofs.Common.{length}
use Rattle.lucy_rates.specs.Growing.{AreFirstSoFar}
use Rattle.lucy_rates.proofs.forest.name_all.Given as goal

abbrev pub invariant-loop-k : goal.invariant-loop-k
invariant-loop-k l = AreFirstSoFar l.needs (length l.fn.list) l.k l.list
