use Rattle.std.proofs.Common.{◌≡◌, ◌+◌, take}
use Rattle.std.specs.List.{sum_by}
use Rattle.lucy_shape.proofs.spreading.count_of.Given as goal
use Rattle.lucy_shape.specs.Fitting.{position_count}

abbrev pub invariant-loop-clock : goal.invariant-loop-clock
invariant-loop-clock l = l.count ≡ 1 + sum_by position_count (take l.clock-index l.clocks)
