use Rattle.std.proofs.Common.{List, ◌++◌, ap, ◌∙◌}
use Rattle.std.specs.Prelude.{flat_map}
use Rattle.lucy_word.proofs.Lists.{six}
use Rattle.lucy_picture.specs.declared.row.Row.{Row}
use Rattle.lucy_picture.specs.declared.fill.Fill.{Fill}
use Rattle.lucy_picture.specs.Lines.{row_text, fill_text}
use Rattle.lucy_picture.proofs.print.time.put_chart.Goals as goal

pub returns : goal.returns
returns c =
    let columns = c.args.columns.now in
    let before = c.put_ruler.new.out.items in
    let between = c.put_rows.new.out.items in
    let rows = ap (λ (rs : List Row). before ++ flat_map (row_text c.args.node.now c.args.words.now columns.turn columns.cell columns.margin) rs) c.deref.ensures.value in
    let fills = ap (λ (fs : List Fill). between ++ flat_map (fill_text c.args.node.now c.args.words.now columns.turn columns.cell columns.margin) fs) c.deref-2.ensures.value in record {
      layout = record { cell = columns.cell; margin = columns.margin; ruler = c.in_ok-put_ruler.ensures.more };
      puts =
          six c.args.out.now.items c.node_line.new.out.items c.put_turn.new.out.items before between c.put_fills.new.out.items c.put_more.new.out.items _ _ _ _ _ _
          c.in_ok-node_line.ensures c.in_ok-put_turn.ensures c.in_ok-put_ruler.ensures.puts (c.in_ok-put_rows.ensures ∙ rows) (c.in_ok-put_fills.ensures ∙ fills) c.in_ok-put_more.ensures;
    }
