use Rattle.std.proofs.Common.{refl, arith}
use Rattle.std.specs.Prelude.{flat_map}
use Rattle.lucy_picture.specs.Lines.{fill_text}
use Rattle.lucy_picture.proofs.TextLaws.{element_more, all_put}
use Rattle.lucy_picture.proofs.print.time.put_fills.Goals as goal

pub each-preserved : goal.each-preserved
each-preserved c =
    let l = c.each in
    let columns = c.args.columns.now in
    element_more (fill_text c.args.node.now c.args.words.now columns.turn columns.cell columns.margin) c.args.fills.now l.i c.fill_at.result.now l.out.items _ _ c.fill_at.ensures c.in_ok-put_fill.ensures l.invariant

pub returns : goal.returns
returns c =
    let columns = c.args.columns.now in
    all_put (flat_map (fill_text c.args.node.now c.args.words.now columns.turn columns.cell columns.margin)) c.args.fills.now c.each.i _ _ (omega arith) refl c.each.invariant
