use Rattle.std.proofs.Common.{◌≡◌, ◌++◌, ℕ, List, refl, ap, sym, ◌∙◌}
use Rattle.std.proofs.lemmas.List.{at_drop_more}
use Rattle.lucy_picture.specs.Turns.{buffer_clocks}
use Rattle.lucy_picture.proofs.TextLaws.{piece_more, all_put}
use Rattle.lucy_picture.proofs.turn.shown_clocks.Goals as goal

pub each-init : goal.each-init
each-init c =
    let node = c.args.node.now in
    ap (λ (places : List ℕ). c.in_ok-clocks.clocks.items ++ buffer_clocks node places) c.list-place-items.ensures ∙ ap (λ (t : List ℕ). t ++ buffer_clocks node node.buffers) c.in_ok-clocks.ensures

pub each-preserved : goal.each-preserved
each-preserved c =
    let l = c.each in
    let further = λ (places : List ℕ). l.clocks.items ++ buffer_clocks c.args.node.now places in
    piece_more _ _ _ _ _ c.in_ok-put_buffer.ensures (sym (at_drop_more further c.list-place-items.result.now l.place-index 0 c.each-test.true) ∙ l.invariant)

pub returns : goal.returns
returns c = all_put (buffer_clocks c.args.node.now) c.list-place-items.result.now c.each.place-index _ _ c.each-test.false refl c.each.invariant
