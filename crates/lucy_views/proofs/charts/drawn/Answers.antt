use Rattle.lucy_views.proofs.Drawn.{both_there, is_svg}
use Rattle.lucy_views.proofs.charts.drawn.Goals as goal

pub returns : goal.returns
returns c =
    let acc = c.requires.accepted in
    let both = both_there acc.0 acc.1 acc.2 c.args.accepted.now c.args.node acc.3 c.requires.node in
    is_svg c.args.accepted.now c.args.instants c.args.node both.0 both.1 both.2 both.3 c.in_ok-turn.turn c.shown_of-shown.result c.shown_of-shown.ensures
    (c.in_ok-turn.ensures.some both.0 both.1 both.2 both.3) (c.in_ok-turn.ensures.none both.0 both.1 both.2 both.3) c.in_ok-drawing.drawing c.new-out.result.items c.put_time_svg.new.out.items
    (c.in_ok-drawing.ensures.rows both.0 both.1 both.2 both.3) (c.in_ok-drawing.ensures.fills both.0 both.1 both.2 both.3)
    (c.in_ok-drawing.ensures.flows both.0 both.1 both.2 both.3) c.new-out.ensures.items (c.in_ok-put_time_svg.ensures both.0 both.2)
