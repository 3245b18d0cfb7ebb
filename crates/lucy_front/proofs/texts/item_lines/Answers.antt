use Rattle.std.proofs.Common.{◌++◌, ap, sym, ◌∙◌, inl, inr}
use Rattle.std.proofs.lemmas.List.{append-nil}
use Rattle.lucy_front.proofs.ItemLaws.{no_lines}
use Rattle.lucy_front.proofs.texts.item_lines.Goals as goal

pub returns : goal.returns
returns c =
    let names = c.each.name-iterator.a.rest.now in
    let items = c.each.name-iterator.b.rest.now in
    let none = no_lines names items (elim c.in-None.ensures.steps [ inl s ↦ inl s.1.0 | inr s ↦ inr s.1.0 ]) in
    sym (append-nil c.each.lines.items) ∙ ap (λ l. c.each.lines.items ++ l) (sym none) ∙ c.each.invariant
