use Rattle.std.proofs.Common.{◌+◌, ◌≤◌, map, take}
use Rattle.lucy_word.specs.Limits.{limit_number}
use Rattle.lucy_word.specs.declared.limit.Limit.TheVariants as limit
use Rattle.lucy_need.specs.Meeting.{assigned}
use Rattle.lucy_net.specs.Lengths.{AreLengths}
use Rattle.lucy_picture.proofs.turn.common_turn.Given as goal

abbrev pub invariant-each : goal.invariant-each
invariant-each l = AreLengths (map (assigned l.words) (take l.i l.clocks)) l.turn.prefix l.turn.period × (l.turn.prefix + l.turn.period ≤ limit_number limit.Schedule)
