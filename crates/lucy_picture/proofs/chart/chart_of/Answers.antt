use Rattle.std.proofs.Common.{sym, ap, ◌∙◌}
use Rattle.std.specs.Prelude.{slice_get}
use Rattle.lucy_picture.proofs.ChartLaws.{drawn}
use Rattle.lucy_picture.proofs.chart.chart_of.Goals as goal

pub drawn-requires-clause-drawn : goal.drawn-requires-clause-drawn
drawn-requires-clause-drawn c =
    let a = c.requires.accepted in
    let clock = ap (λ l. slice_get l c.args.node) (sym c.deref.ensures.value) ∙ c.clocks_at-clock.ensures in
    drawn a.0 a.1 a.2 c.args.accepted.now a.3 c.args.node c.node.result.now c.clocks_at-clock.result.now c.node.ensures.is clock
