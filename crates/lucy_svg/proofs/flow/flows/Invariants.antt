use Rattle.lucy_svg.proofs.FlowLaws.{FollowTo}
use Rattle.lucy_svg.proofs.flow.flows.Given as goal

abbrev pub invariant-each : goal.invariant-each
invariant-each l = FollowTo l.fills l.i l.flows.items
