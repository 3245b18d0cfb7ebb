use Rattle.std.proofs.Common.{◌≡◌, map, negsuc}
use Rattle.std.specs.List.{range_with_len}
use Rattle.lucy_shape.proofs.clocks.add_bounds.Given as goal
use Rattle.lucy_shape.specs.Fitting.{variable_of}
use Rattle.lucy_shape.specs.Added.{with_rows}

abbrev pub invariant-loop-place : goal.invariant-loop-place
invariant-loop-place l = l.diffs ≡ with_rows l.fn.diffs (map (λ m. record { left = 0; right = variable_of l.clock m; most = negsuc 0 }) (range_with_len 1 l.place))
