use Rattle.std.proofs.lemmas.Result.{on_ok_weaker}
use Rattle.lucy_views.proofs.Drawn.{both_there, puts_time}
use Rattle.lucy_views.proofs.charts.put_chart.Goals as goal

pub returns : goal.returns
returns c =
    let acc = c.requires.accepted in
    let both = both_there acc.0 acc.1 acc.2 c.args.accepted.now c.args.node acc.3 c.requires.node in
    on_ok_weaker c.put_time.result
    (puts_time c.args.accepted.now c.args.instants c.args.node both.0 both.1 both.2 both.3 c.in_ok-turn.turn c.shown_of-shown.result c.shown_of-shown.ensures
    (c.in_ok-turn.ensures.some both.0 both.1 both.2 both.3) (c.in_ok-turn.ensures.none both.0 both.1 both.2 both.3) c.in_ok-chart.chart _ _
    (c.in_ok-chart.ensures.rows both.0 both.1 both.2 both.3) (c.in_ok-chart.ensures.fills both.0 both.1 both.2 both.3))
    (c.put_time.ensures both.0 both.2)
