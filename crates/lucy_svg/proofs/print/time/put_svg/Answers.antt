use Rattle.std.proofs.Common.{◌++◌}
use Rattle.lucy_picture.proofs.HoldLaws.{holds_before}
use Rattle.lucy_svg.specs.Sheets.{names_of, lanes_of, IsLaneName, IsLane}
use Rattle.lucy_svg.proofs.SheetLaws.{svg_text}
use Rattle.lucy_svg.proofs.print.time.put_svg.Goals as goal

pub returns : goal.returns
returns c =
    let sheet = c.args.sheet.now in
    let N = IsLaneName sheet.side.node.now sheet.side.told in
    let L = IsLane sheet.lanes.cell in
    let names = c.in_ok-put_names.ensures in
    let lanes = c.in_ok-put_lanes.ensures in record {
      cell = sheet.lanes.cell;
      before = c.in_ok-put_above.ensures.more;
      names = names.more ++ _;
      lanes = lanes.more ++ c.in_ok-put_below.ensures.more;
      puts =
          svg_text c.args.out.now.items c.put.new.out.items c.put_above.new.out.items c.put_names.new.out.items c.put_made.new.out.items c.put_lanes.new.out.items c.put_below.new.out.items c.put-2.new.out.items _ _ _ _ _ _ _
          c.in_ok-put.ensures c.in_ok-put_above.ensures.puts names.puts c.in_ok-put_made.ensures.more.puts lanes.puts c.in_ok-put_below.ensures.puts c.in_ok-put-2.ensures;
      are_names = holds_before N (names_of sheet.drawing.now) names.more _ names.holds;
      are_lanes = holds_before L (lanes_of sheet.drawing.now) lanes.more c.in_ok-put_below.ensures.more lanes.holds;
    }
