use Rattle.std.proofs.Common.{◌≡◌, ℕ, ◌<◌, get_or}
use Rattle.lucy_explain.proofs.explaining.line_end.Given as goal

abbrev pub invariant-each : goal.invariant-each
invariant-each l = (k : ℕ) → k < l.i → get_or l.text k 0 ≡ 10 → ⊥
