use Rattle.lucy_picture.proofs.HoldLaws.{puts_before, puts_behind, puts_more}
use Rattle.lucy_picture.proofs.TextLaws.{extends_more}
use Rattle.lucy_svg.specs.Sheets.{IsLaneName}
use Rattle.lucy_svg.proofs.print.sheet.Sheet.put_fill_names.Goals as goal

pub returns : goal.returns
returns c =
    let P = IsLaneName c.args.self.now.side.node.now c.args.self.now.side.told in
    puts_before P _ _ _ _ (puts_behind P _ _ _ _ c.in_ok-put_buffer.ensures (puts_more P _ _ _ _ _ c.in_ok-put_name.ensures c.in_ok-put_name-2.ensures))
    (extends_more _ _ _ c.in_ok-put_note.ensures c.in_ok-put_note-2.ensures)
