use Rattle.std.proofs.Common.{◌≡◌, ◌++◌, ℕ, List, sym, ◌∙◌}
use Rattle.std.specs.Prelude.{flat_map}
use Rattle.std.proofs.lemmas.List.{at_drop_more}
use Rattle.lucy_picture.specs.Spots.{room}
use Rattle.lucy_picture.proofs.TextLaws.{piece_more}
use Rattle.lucy_picture.proofs.print.place.put_caret.Goals as goal

pub each-preserved : goal.each-preserved
each-preserved c =
    let l = c.each in
    let further = λ (bytes : List ℕ). l.out.items ++ flat_map room bytes in
    piece_more _ _ _ _ _ c.in_ok-put_room.ensures (sym (at_drop_more further c.args.front.now l.byte-index 0 c.each-test.true) ∙ l.invariant)
