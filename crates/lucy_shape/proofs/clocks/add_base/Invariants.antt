use Rattle.std.proofs.Common.{◌≡◌, neg_ℤ, pos, ◌∷◌, []}
use Rattle.std.specs.List.{range_with_len, flat_map}
use Rattle.lucy_shape.proofs.clocks.add_base.Given as goal
use Rattle.lucy_shape.specs.Fitting.{variable_of}
use Rattle.lucy_shape.specs.Added.{with_rows}

abbrev pub invariant-loop-place : goal.invariant-loop-place
invariant-loop-place l = l.diffs ≡ with_rows l.fn.diffs (flat_map (λ m. record { left = 0; right = variable_of l.clock m; most = neg_ℤ (pos m) } ∷ record { left = variable_of l.clock m; right = 0; most = pos m } ∷ []) (range_with_len 1 l.place))
