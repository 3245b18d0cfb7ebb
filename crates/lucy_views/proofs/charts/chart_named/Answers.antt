use Rattle.std.proofs.Common.{[], Some}
use Rattle.lucy_views.specs.Shown.{PutsTime}
use Rattle.lucy_views.proofs.Outs.{node_printed}
use Rattle.lucy_views.proofs.charts.chart_named.Goals as goal

pub returns-clause-outcome : goal.returns-clause-outcome
returns-clause-outcome c =
    node_printed c.args.accepted.now.placed.nodes (Some c.args.name.now) (λ node print. PutsTime c.args.accepted.now c.args.instants node [] print) c.in-Some.node
    c.in_ok-chart.field-0.items c.in-Some.ensures.some.0 c.in-Some.ensures.some.1 c.in_ok-chart.ensures
