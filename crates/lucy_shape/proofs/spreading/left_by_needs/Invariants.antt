use Rattle.std.proofs.Common.{◌≡◌, ◌+◌, length, take}
use Rattle.std.specs.List.{flat_map}
use Rattle.lucy_shape.specs.Inequalities.{need_rows}
use Rattle.lucy_shape.proofs.spreading.left_by_needs.Given as goal

abbrev pub invariant-loop-need : goal.invariant-loop-need
invariant-loop-need l = l.left + length (flat_map (need_rows l.shape.period l.shape.clocks) (take l.need-index l.needs.list)) ≡ l.fn.left
