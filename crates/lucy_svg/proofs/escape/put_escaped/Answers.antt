use Rattle.std.proofs.Common.{◌≡◌, ◌++◌, ℕ, List, ap, append-nil, sym, ◌∙◌}
use Rattle.std.proofs.lemmas.List.{at_drop_more, at_drop_all}
use Rattle.lucy_picture.proofs.TextLaws.{piece_more}
use Rattle.lucy_svg.specs.Escaping.{escaped}
use Rattle.lucy_svg.proofs.escape.put_escaped.Goals as goal

pub each-preserved : goal.each-preserved
each-preserved c =
    let l = c.each in
    let further = λ (bytes : List ℕ). l.out.items ++ escaped bytes in
    piece_more _ _ _ _ _ c.in_ok-put_byte.ensures (sym (at_drop_more further c.args.text.now l.byte-index 0 c.each-test.true) ∙ l.invariant)

pub returns : goal.returns
returns c =
    let l = c.each in
    let last = at_drop_all escaped c.args.text.now l.byte-index c.each-test.false in
    sym (append-nil l.out.items) ∙ ap (λ (t : List ℕ). l.out.items ++ t) (sym last) ∙ l.invariant
