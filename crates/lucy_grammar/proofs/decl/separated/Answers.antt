use Rattle.std.proofs.Common.{◌≡◌, ◌+◌, [], ◌∷◌, map, drop, arith, ap, sym, ◌∙◌}
use Rattle.std.proofs.lemmas.List.{drop_all, drop_more}
use Rattle.lucy_grammar.specs.PrintTokens.{spaced_text, commas, printed_decl}
use Rattle.lucy_grammar.proofs.PrintedText.{listed, text_commas, tight_decls}
use Rattle.lucy_grammar.proofs.Sheets.{behind, adds_as, nothing}
use Rattle.lucy_grammar.proofs.decl.separated.Goals as goal

pub more-preserved : goal.more-preserved
more-preserved c =
    let l = c.more in
    let x = c.next-item.result in
    let later = drop (l.next-index + 1) c.in-Some.more.now in
    let here : drop l.next-index c.in-Some.more.now ≡ x ∷ later = drop_more c.in-Some.more.now l.next-index x (omega arith) ∙ ap (λ y. y ∷ later) (sym c.next-item.is) in
    λ end h. l.invariant end (adds_as (behind c.comma.ensures (behind c.decl-in-more.ensures h)) (ap (λ xs. listed (map printed_decl xs)) (sym here)))

pub returns : goal.returns
returns c =
    let l = c.more in
    let none : drop l.next-index c.in-Some.more.now ≡ [] = drop_all l.next-index c.in-Some.more.now (omega arith) in
    let others = l.invariant l.out (adds_as (nothing l.out) (ap (λ xs. listed (map printed_decl xs)) (sym none))) in
    adds_as (behind c.decl.ensures others)
    (sym (text_commas (printed_decl c.in-Some.first.now) (map printed_decl c.in-Some.more.now) (tight_decls c.in-Some.more.now)) ∙ ap (λ xs. spaced_text (commas (map printed_decl xs))) (sym c.in-Some.ensures.cases.0))
