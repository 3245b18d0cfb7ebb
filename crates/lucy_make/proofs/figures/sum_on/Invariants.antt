use Rattle.std.proofs.Common.{ℤ, ◌≡◌, List, ◌++◌, take}
use Rattle.lucy_make.specs.Figures.{sum_of}
use Rattle.lucy_make.proofs.figures.sum_on.Given as goal

abbrev pub invariant-each : goal.invariant-each
invariant-each l = (prior : List ℤ) → l.before ≡ sum_of prior → l.sum ≡ sum_of (prior ++ take l.value-index l.values)
