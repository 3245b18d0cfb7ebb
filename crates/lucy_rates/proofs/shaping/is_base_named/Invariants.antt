use Rattle.std.proofs.Common.{ℕ, ◌<◌}
use Rattle.lucy_rates.specs.Walks.{need_at}
use Rattle.lucy_rates.specs.Trees.{IsNamedBy}
use Rattle.lucy_rates.proofs.shaping.is_base_named.Given as goal

abbrev pub invariant-loop-need : goal.invariant-loop-need
invariant-loop-need l = (k : ℕ) → k < l.need-index → IsNamedBy 0 (need_at l.needs k) → ⊥
