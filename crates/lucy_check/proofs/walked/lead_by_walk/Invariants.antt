use Rattle.std.proofs.Common.{◌≡◌, ◌+◌}
use Rattle.lucy_check.proofs.Periods.{Walked}
use Rattle.lucy_check.proofs.Walks.{Ahead}
use Rattle.lucy_word.specs.Bits.{ones_to}
use Rattle.lucy_check.proofs.walked.lead_by_walk.Given as goal

abbrev pub invariant-loop-i : goal.invariant-loop-i
invariant-loop-i l = Ahead l.a l.walk_a l.i × Ahead l.b l.walk_b l.i × (ones_to l.a l.i ≡ ones_to l.b l.i + l.lead) × Walked l.a l.b l.i l.most
