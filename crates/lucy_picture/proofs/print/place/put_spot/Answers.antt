use Rattle.std.proofs.Common.{◌++◌, ℕ, List, map, ap, ◌∙◌}
use Rattle.std.specs.Prelude.{codes}
use Rattle.std.specs.Fmt.{decimal}
use Rattle.lucy_picture.specs.Spots.{visible}
use Rattle.lucy_picture.proofs.TextLaws.{on_ok, of_head}
use Rattle.lucy_picture.proofs.print.place.put_spot.Goals as goal

pub returns : goal.returns
returns c =
    let at = c.spot_of-spot.result in
    let line = c.in_ok-put_visible.ensures ∙ ap (λ (t : List ℕ). c.put_head.new.out.items ++ map visible t) c.without_return.ensures in
    on_ok c.put_caret.result _ _ c.put_caret.ensures
    (λ e. record {
      spot = at;
      is = c.spot_of-spot.ensures;
      puts =
          of_head c.args.out.now.items c.put_head.new.out.items c.put_visible.new.out.items c.put.new.out.items c.put_caret.new.out.items
          (codes "line ") (decimal at.line) (codes ", column ") (decimal at.column) (codes "\n") _ _ _
          c.in_ok-put_head.ensures line c.in_ok-put.ensures e;
    })
