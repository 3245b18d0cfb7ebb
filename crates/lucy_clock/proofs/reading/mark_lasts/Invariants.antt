use Rattle.std.proofs.Common.{◌≡◌, ◌-◌, length}
use Rattle.lucy_clock.proofs.LastLaws.{AreLastsFrom}
use Rattle.lucy_clock.proofs.reading.mark_lasts.Given as goal

abbrev pub invariant-each : goal.invariant-each
invariant-each l = (length l.lasts ≡ length l.node.places) × AreLastsFrom l.node (length l.node.places - l.i) l.lasts
