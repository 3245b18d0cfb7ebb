use Rattle.std.proofs.Common.{◌≡◌, ◌++◌, ℕ, List, sym, ◌∙◌}
use Rattle.std.proofs.lemmas.List.{at_drop_more}
use Rattle.lucy_picture.proofs.TextLaws.{piece_more}
use Rattle.lucy_graphviz.specs.Quotes.{in_label}
use Rattle.lucy_graphviz.proofs.quote.put_escaped.Goals as goal

pub each-preserved : goal.each-preserved
each-preserved c =
    let l = c.each in
    let further = λ (bytes : List ℕ). l.out.items ++ in_label bytes in
    piece_more _ _ _ _ _ c.in_ok-put_byte.ensures (sym (at_drop_more further c.args.text.now l.byte-index 0 c.each-test.true) ∙ l.invariant)
