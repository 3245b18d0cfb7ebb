use Rattle.std.proofs.Common.{◌≡◌, ◌+◌, ◌++◌, Bool, false, List, ℕ, ap, append-nil, sym, ◌∙◌}
use Rattle.std.proofs.lemmas.List.{at_drop_more, at_drop_all}
use Rattle.lucy_picture.proofs.TextLaws.{piece_more}
use Rattle.lucy_svg.specs.Sheets.{points}
use Rattle.lucy_svg.proofs.print.lane.Lanes.put_points.Goals as goal

pub each-preserved : goal.each-preserved
each-preserved c =
    let l = c.each in
    let further = λ (marks : List Bool). l.out.items ++ points c.args.self.now.cell c.args.y (l.i + 1) marks in
    piece_more _ _ _ _ _ c.in_ok-put_point.ensures (sym (at_drop_more further c.args.marks.now l.i false c.each-test.true) ∙ l.invariant)

pub returns : goal.returns
returns c =
    let l = c.each in
    let last = at_drop_all (points c.args.self.now.cell c.args.y (l.i + 1)) c.args.marks.now l.i c.each-test.false in
    sym (append-nil l.out.items) ∙ ap (λ (t : List ℕ). l.out.items ++ t) (sym last) ∙ l.invariant
