use Rattle.std.proofs.Common.{◌≡◌, eqb}
use Rattle.std.specs.List.{range_with_len, flat_map}
use Rattle.lucy_shape.proofs.clocks.add_clocks.Given as goal
use Rattle.lucy_shape.specs.Added.{with_rows}
use Rattle.lucy_shape.specs.Fitting.{clock_at}
use Rattle.lucy_shape.specs.Inequalities.{clock_rows}

abbrev pub invariant-loop-c : goal.invariant-loop-c
invariant-loop-c l = l.diffs ≡ with_rows l.fn.diffs (flat_map (λ c. clock_rows l.shape.period (eqb c 0) (clock_at l.shape.clocks c)) (range_with_len 0 l.c))
