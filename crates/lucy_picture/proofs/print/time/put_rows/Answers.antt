use Rattle.std.proofs.Common.{◌≡◌, ◌++◌, refl, ap, sym, ◌∙◌}
use Rattle.std.specs.Prelude.{flat_map}
use Rattle.lucy_word.proofs.Lists.{drop_next}
use Rattle.lucy_picture.specs.Lines.{row_text}
use Rattle.lucy_picture.proofs.TextLaws.{piece_more, all_put}
use Rattle.lucy_picture.proofs.print.time.put_rows.Goals as goal

pub each-preserved : goal.each-preserved
each-preserved c =
    let l = c.each in
    let columns = c.args.columns.now in
    let text = row_text c.args.node.now c.args.words.now columns.turn columns.cell columns.margin in
    let next = drop_next c.args.rows.now l.row-index c.row-item.result c.each-test.true c.row-item.is in
    piece_more _ _ _ _ _ c.in_ok-put_row.ensures (ap (λ rows. l.out.items ++ flat_map text rows) (sym next) ∙ l.invariant)

pub returns : goal.returns
returns c =
    let columns = c.args.columns.now in
    all_put (flat_map (row_text c.args.node.now c.args.words.now columns.turn columns.cell columns.margin)) c.args.rows.now c.each.row-index _ _ c.each-test.false refl c.each.invariant
