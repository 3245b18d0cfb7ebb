use Rattle.std.proofs.Common.{◌≡◌, ◌+◌, length, eqb}
use Rattle.std.specs.List.{range_with_len, flat_map}
use Rattle.lucy_solve.specs.System.{most_inequalities}
use Rattle.lucy_shape.specs.Fitting.{clock_at}
use Rattle.lucy_shape.specs.Inequalities.{clock_rows}
use Rattle.lucy_shape.proofs.spreading.left_by_clocks.Given as goal

abbrev pub invariant-loop-c : goal.invariant-loop-c
invariant-loop-c l = l.left + length (flat_map (λ c. clock_rows l.shape.period (eqb c 0) (clock_at l.shape.clocks c)) (range_with_len 0 l.c)) ≡ most_inequalities
