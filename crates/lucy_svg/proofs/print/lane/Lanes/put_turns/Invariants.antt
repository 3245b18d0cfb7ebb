use Rattle.lucy_picture.specs.Holding.{Extends}
use Rattle.lucy_svg.proofs.print.lane.Lanes.put_turns.Given as goal

abbrev pub invariant-each : goal.invariant-each
invariant-each l = Extends l.fn.out.items l.out.items
