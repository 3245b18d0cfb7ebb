-- One line more.
use Rattle.std.proofs.Common.{ℕ, ◌+◌, ◌≡◌, List, [], ◌++◌, suc, codes, refl, ap, sym, ◌∙◌, subst, append_assoc, add-one}
use Rattle.std.specs.Fmt.{decimal}
use Rattle.lucy_make.specs.Text.{stage_line, stage_lines, made_lines, made_input}

-- the line of an item
abbrev pub item_line : (number : ℕ) → List ℕ
item_line number = codes "x " ++ (decimal number ++ codes "\n")

-- the program with these lines
abbrev pub text_with : (stages : ℕ) (lines : List ℕ) → List ℕ
text_with stages lines = codes "let node made x = y" ++ (decimal stages ++ (codes " where rec\n" ++ lines))

pub stage_more : (stages before : ℕ) → text_with stages (stage_lines before) ++ stage_line (before + 1) ≡ text_with stages (stage_lines (before + 1))
stage_more stages before =
    let line : List ℕ = stage_line (before + 1) in
    let P : ℕ → Type 0 = λ n. stage_lines before ++ stage_line n ≡ stage_lines n in
    let more : stage_lines before ++ line ≡ stage_lines (before + 1) = subst P (sym (add-one before)) refl in
    append_assoc (codes "let node made x = y") (decimal stages ++ (codes " where rec\n" ++ stage_lines before)) line
    ∙ ap (λ u. codes "let node made x = y" ++ u) (append_assoc (decimal stages) (codes " where rec\n" ++ stage_lines before) line
    ∙ ap (λ u. decimal stages ++ u) (append_assoc (codes " where rec\n") (stage_lines before) line ∙ ap (λ u. codes " where rec\n" ++ u) more))

items_suc : (before : ℕ) → made_lines before ++ item_line (suc before) ≡ made_lines (suc before)
unfolding made_lines
items_suc before = refl

pub item_more : (before : ℕ) → made_lines before ++ item_line (before + 1) ≡ made_lines (before + 1)
item_more before =
    let P : ℕ → Type 0 = λ n. made_lines before ++ item_line n ≡ made_lines n in
    subst P (sym (add-one before)) (items_suc before)

pub items_none : made_lines 0 ≡ []
unfolding made_lines
items_none = refl

pub items_all : (n : ℕ) → n ≡ 1000 → made_lines n ≡ made_input
unfolding made_input
items_all n e = ap made_lines e
