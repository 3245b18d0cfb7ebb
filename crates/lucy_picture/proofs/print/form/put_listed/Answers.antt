use Rattle.std.proofs.Common.{◌≡◌, ◌++◌, ℕ, List, ap, sym, ◌∙◌, append_assoc, get_or}
use Rattle.std.specs.Prelude.{flat_map, codes}
use Rattle.std.proofs.lemmas.List.{at_drop_more}
use Rattle.lucy_program.specs.Names.{place_name, place_names}
use Rattle.lucy_picture.proofs.TextLaws.{piece_more}
use Rattle.lucy_picture.proofs.print.form.put_listed.Goals as goal

pub more-preserved : goal.more-preserved
more-preserved c =
    let l = c.more in
    let n = c.args.node.now in
    let further = λ (places : List ℕ). l.out.items ++ flat_map (λ (y : List ℕ). codes ", " ++ y) (place_names n places) in
    let name = place_name n (get_or c.in-Some.more.now l.place-index 0) in
    piece_more _ _ _ (codes ", " ++ name) _ (c.in_ok-put_place-2.ensures ∙ ap (λ t. t ++ name) c.in_ok-put.ensures ∙ append_assoc l.out.items (codes ", ") name)
    (sym (at_drop_more further c.in-Some.more.now l.place-index 0 c.more-test.true) ∙ l.invariant)
