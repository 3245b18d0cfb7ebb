use Rattle.std.proofs.Common.{refl, ap, ◌∙◌}
use Rattle.std.specs.Prelude.{codes}
use Rattle.lucy_svg.specs.declared.print.ink.Font.{Font}
use Rattle.lucy_svg.specs.Labels.{front_of}
use Rattle.lucy_svg.specs.Sheets.{lane_name, IsLaneName}
use Rattle.lucy_svg.proofs.SheetLaws.{puts_label}
use Rattle.lucy_svg.proofs.print.side.Side.put_place.Goals as goal

pub returns : goal.returns
returns c =
    let side = c.args.self.now in
    let name = lane_name c.args.before.now c.args.place in
    let font : Font = record { class = record c.args.before { now = codes "name" }; letter = 8; most = 40 } in
    puts_label (IsLaneName side.node.now side.told) name font 8 c.saturating_add-y.result c.deref.result.now _ _ refl c.in_ok-put_label.ensures
    (ap (front_of 40) (c.deref.ensures.value ∙ c.in_ok-text.ensures))
