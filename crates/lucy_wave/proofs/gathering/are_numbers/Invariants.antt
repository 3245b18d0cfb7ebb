use Rattle.std.proofs.Common.{ℕ, ◌<◌, get_or, FitsSigned, w64, pos}
use Rattle.lucy_wave.proofs.gathering.are_numbers.Given as goal

abbrev pub invariant-each : goal.invariant-each
invariant-each l = (i : ℕ) → i < l.item-index → FitsSigned w64 (get_or l.items i (pos 0))
