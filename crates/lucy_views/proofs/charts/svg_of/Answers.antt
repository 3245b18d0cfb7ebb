use Rattle.std.specs.Option.{option_map}
use Rattle.lucy_views.specs.Shown.{IsTimeSvg}
use Rattle.lucy_views.proofs.Outs.{node_printed}
use Rattle.lucy_views.proofs.charts.svg_of.Goals as goal

pub returns-clause-outcome : goal.returns-clause-outcome
returns-clause-outcome c =
    node_printed c.args.accepted.now.placed.nodes (option_map (λ s. s.now) c.args.name) (IsTimeSvg c.args.accepted.now c.args.instants) c.in-Some.node c.in_ok-drawn.field-0.items
    c.in-Some.ensures.some.0 c.in-Some.ensures.some.1 c.in_ok-drawn.ensures
