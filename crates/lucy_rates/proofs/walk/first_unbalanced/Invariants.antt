use Rattle.std.proofs.Common.{ℕ, ◌<◌}
use Rattle.lucy_rates.specs.Walks.{need_at}
use Rattle.lucy_rates.specs.Trees.{IsBalanced}
use Rattle.lucy_rates.proofs.walk.first_unbalanced.Given as goal

abbrev pub invariant-loop-k : goal.invariant-loop-k
invariant-loop-k l = (j : ℕ) → j < l.k → IsBalanced l.needs (need_at l.needs j)
