use Rattle.std.proofs.Common.{◌≡◌, ◌+◌, ◌++◌, drop, length, ap, sym, subst, arith}
use Rattle.lucy_need.specs.Meeting.{assigned}
use Rattle.lucy_clock.specs.Clocks.{call_clock}
use Rattle.lucy_program.specs.Report.{call_lines}
use Rattle.lucy_program.proofs.ReportLaws.{calls_more}
use Rattle.lucy_program.proofs.printing.call_lines.Goals as goal

pub each-preserved : goal.each-preserved
each-preserved c =
    let l = c.each in
    let places = ap length c.list.ensures in
    let at : length c.list.result.now + (l.i + 1) ≡ call_clock c.args.node.now (l.i + 1) = omega arith in
    let before = subst (λ sites. l.out.items ++ call_lines c.args.placed.now.nodes c.args.node.now (assigned c.args.words.now) (1 + l.i) (drop l.i sites) ≡ c.args.out.now.items ++ call_lines c.args.placed.now.nodes c.args.node.now (assigned c.args.words.now) 1 sites) (sym c.list-site-items.ensures) l.invariant in
    let more = calls_more c.args.placed.now.nodes c.args.node.now (assigned c.args.words.now) c.list-site-items.result.now l.i (length c.list.result.now + (l.i + 1)) c.site-item.result l.out.items _ _ c.each-test.true c.site-item.is at c.in_ok-call_line.ensures before in
    subst (λ sites. c.call_line.new.out.items ++ call_lines c.args.placed.now.nodes c.args.node.now (assigned c.args.words.now) (1 + (l.i + 1)) (drop (l.i + 1) sites) ≡ c.args.out.now.items ++ call_lines c.args.placed.now.nodes c.args.node.now (assigned c.args.words.now) 1 sites) c.list-site-items.ensures more
