use Rattle.std.proofs.Common.{ℕ, ◌+◌, ◌<◌, ◌≤◌}
use Rattle.lucy_word.specs.Bits.{ones_to}
use Rattle.lucy_explain.proofs.waits.first_full.Given as goal

abbrev pub invariant-each : goal.invariant-each
invariant-each l = (i : ℕ) → 1 ≤ i → i < l.i + 1 → ones_to l.write i < ones_to l.read i + l.size
