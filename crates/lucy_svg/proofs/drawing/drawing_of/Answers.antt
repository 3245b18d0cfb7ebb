use Rattle.std.proofs.Common.{subst}
use Rattle.lucy_svg.specs.Ones.{AllFollow}
use Rattle.lucy_svg.proofs.FlowLaws.{flows_are}
use Rattle.lucy_svg.proofs.drawing.drawing_of.Goals as goal

pub returns-clause-flows : goal.returns-clause-flows
returns-clause-flows c = λ n d at of.
    flows_are n d c.args.shown _ _
    (subst (λ fs. AllFollow fs c.in_ok-flows.flows.items) c.deref.ensures.value c.in_ok-flows.ensures) (c.in_ok-chart.ensures.fills n d at of)
