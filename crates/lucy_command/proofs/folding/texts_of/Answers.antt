use Rattle.std.proofs.Common.{rules, ◌≡◌, ◌+◌, ◌-◌, ◌<◌, ◌∷◌, ℕ, List, false, true, codes, take, drop, get_or, map, string_bytes, length, ap, ◌∙◌, arith}
use Rattle.std.proofs.lemmas.List.{drop_more, length-drop, take_rest}
use Rattle.std.specs.Str.{bytes_eq}
use Rattle.std.specs.declared.alloc.Global.{Global}
use Rattle.std.specs.declared.string.String.{String}
use Rattle.lucy_command.specs.Parts.{Operand, with_parts}
use Rattle.lucy_command.specs.Seen.{texts, seen_text, first_part}
use Rattle.lucy_command.proofs.Folds.{part_on, no_part, operands_on}
use Rattle.lucy_command.proofs.folding.texts_of.Goals as goal

-- the words from an index on begin with the word there
at_word : (words : List (String Global)) (at : ℕ) (word : String Global) → at < length words → get_or words at word ≡ word → drop at words ≡ word ∷ drop (at + 1) words
at_word words at word low is = drop_more words at word low ∙ ap (λ w. w ∷ drop (at + 1) words) is

pub returns-then-eq-clause-is : goal.returns-then-eq-clause-is
returns-then-eq-clause-is c =
    let word = c.index-words-at.result in
    let t = texts (seen_text c.each.texts.0) (seen_text c.each.texts.1.0) (seen_text c.each.texts.1.1.0) (seen_text c.each.texts.1.1.1.0) (seen_text c.each.texts.1.1.1.1.0) (seen_text c.each.texts.1.1.1.1.1.0) (seen_text c.each.texts.1.1.1.1.1.1.0) in
    let rest = take_rest c.args.words.now (c.each.at + 1) in
    let is : get_or c.args.words.now c.each.at word ≡ word = search rules in
    let here = at_word c.args.words.now c.each.at word (omega (arith, c.each-test.true)) is in
    let dashes : bytes_eq (string_bytes word) (codes "--") ≡ true = search (rules, ap (λ u. bytes_eq u (codes "--")) c.as_str-word.ensures.value) in
    c.with_operands.ensures.is ∙ ap (λ l. with_parts t (map Operand (map string_bytes l))) rest ∙ operands_on string_bytes c.args.name c.args.words.now c.each.at word t _ here c.each.invariant.0 dashes

pub returns-in_err-more-clause-is : goal.returns-in_err-more-clause-is
returns-in_err-more-clause-is c =
    let word = c.index-words-at.result in
    let t = texts (seen_text c.each.texts.0) (seen_text c.each.texts.1.0) (seen_text c.each.texts.1.1.0) (seen_text c.each.texts.1.1.1.0) (seen_text c.each.texts.1.1.1.1.0) (seen_text c.each.texts.1.1.1.1.1.0) (seen_text c.each.texts.1.1.1.1.1.1.0) in
    let rest = take_rest c.args.words.now (c.each.at + 1) in
    let is : get_or c.args.words.now c.each.at word ≡ word = search rules in
    let here = at_word c.args.words.now c.each.at word (omega (arith, c.each-test.true)) is in
    let other : bytes_eq (string_bytes word) (codes "--") ≡ false = search (rules, ap (λ u. bytes_eq u (codes "--")) c.as_str-word.ensures.value) in
    let none = c.in_err-more.ensures.is ∙ ap (λ u. first_part c.args.name t u (map string_bytes (take (length c.args.words.now - (c.each.at + 1)) (drop (c.each.at + 1) c.args.words.now)))) c.as_str-word.ensures.value
    ∙ ap (λ l. first_part c.args.name t (string_bytes word) (map string_bytes l)) rest in
    let all = no_part string_bytes c.args.name c.args.words.now c.each.at word t _ here c.each.invariant.0 other none in
    search (rules, all)

pub each-preserved : goal.each-preserved
each-preserved c =
    let word = c.index-words-at.result in
    let t = texts (seen_text c.each.texts.0) (seen_text c.each.texts.1.0) (seen_text c.each.texts.1.1.0) (seen_text c.each.texts.1.1.1.0) (seen_text c.each.texts.1.1.1.1.0) (seen_text c.each.texts.1.1.1.1.1.0) (seen_text c.each.texts.1.1.1.1.1.1.0) in
    let rest = take_rest c.args.words.now (c.each.at + 1) in
    let is : get_or c.args.words.now c.each.at word ≡ word = search rules in
    let here = at_word c.args.words.now c.each.at word (omega (arith, c.each-test.true)) is in
    let other : bytes_eq (string_bytes word) (codes "--") ≡ false = search (rules, ap (λ u. bytes_eq u (codes "--")) c.as_str-word.ensures.value) in
    let found = c.in_ok-more.ensures.is ∙ ap (λ u. first_part c.args.name t u (map string_bytes (take (length c.args.words.now - (c.each.at + 1)) (drop (c.each.at + 1) c.args.words.now)))) c.as_str-word.ensures.value
    ∙ ap (λ l. first_part c.args.name t (string_bytes word) (map string_bytes l)) rest in (
      part_on string_bytes c.args.name c.args.words.now c.each.at word t _ here c.each.invariant.0 c.in_ok-more.taken _ other found,
      c.in_ok-more.ensures.full,
      omega (arith, c.in_ok-more.ensures.within, c.each-test.true, length-drop (c.each.at + 1) c.args.words.now),
    )
