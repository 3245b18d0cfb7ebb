use Rattle.std.proofs.Common.{subst}
use Rattle.lucy_place.specs.declared.placed.PlacedNode.{PlacedNode}
use Rattle.lucy_svg.specs.declared.drawing.Drawing.{Drawing}
use Rattle.lucy_svg.specs.Sheets.{PutsSvg}
use Rattle.lucy_svg.proofs.print.time.put_picture.Goals as goal

pub returns : goal.returns
returns c =
    let sheet = c.in_ok-sheet.sheet in record {
      told = sheet.side.told;
      are_told = c.in_ok-sheet.ensures.told;
      puts =
          subst (λ (d : Drawing). PutsSvg c.args.node.now sheet.side.told d c.args.out.now.items c.put_svg.new.out.items) c.in_ok-sheet.ensures.drawing
          (subst (λ (n : PlacedNode). PutsSvg n sheet.side.told sheet.drawing.now c.args.out.now.items c.put_svg.new.out.items) c.in_ok-sheet.ensures.node c.in_ok-put_svg.ensures);
    }
