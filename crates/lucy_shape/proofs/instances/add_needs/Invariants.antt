use Rattle.std.proofs.Common.{◌≡◌, take}
use Rattle.std.specs.List.{flat_map}
use Rattle.lucy_shape.proofs.instances.add_needs.Given as goal
use Rattle.lucy_shape.specs.Added.{with_rows}
use Rattle.lucy_shape.specs.Inequalities.{need_rows}

abbrev pub invariant-loop-need : goal.invariant-loop-need
invariant-loop-need l = l.diffs ≡ with_rows l.fn.diffs (flat_map (need_rows l.shape.period l.shape.clocks) (take l.need-index l.needs.list))
