use Rattle.std.proofs.Common.{◌≡◌, ◌++◌, List, ℕ, ap, append-nil, sym, ◌∙◌}
use Rattle.std.specs.Prelude.{flat_map}
use Rattle.std.proofs.lemmas.List.{at_drop_more, at_drop_all}
use Rattle.lucy_picture.proofs.TextLaws.{piece_more}
use Rattle.lucy_svg.specs.declared.join.Join.{Join}
use Rattle.lucy_svg.specs.Sheets.{join_line}
use Rattle.lucy_svg.proofs.print.lane.Lanes.put_lines.Goals as goal

pub each-preserved : goal.each-preserved
each-preserved c =
    let l = c.each in
    let further = λ (joins : List Join). l.out.items ++ flat_map (join_line c.args.self.now.cell c.args.top c.args.bottom) joins in
    piece_more _ _ _ _ _ c.in_ok-put_join.ensures (sym (at_drop_more further c.args.joins.now l.join-index _ c.each-test.true) ∙ l.invariant)

pub returns : goal.returns
returns c =
    let l = c.each in
    let last = at_drop_all (flat_map (join_line c.args.self.now.cell c.args.top c.args.bottom)) c.args.joins.now l.join-index c.each-test.false in
    sym (append-nil l.out.items) ∙ ap (λ (t : List ℕ). l.out.items ++ t) (sym last) ∙ l.invariant
