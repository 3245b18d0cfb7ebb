use Rattle.lucy_explain.proofs.LineLaws.{IsFolding}
use Rattle.lucy_explain.proofs.line.line_of.Given as goal

abbrev pub invariant-more : goal.invariant-more
invariant-more l = IsFolding l.diffs l.streams l.positions l.k l.line
