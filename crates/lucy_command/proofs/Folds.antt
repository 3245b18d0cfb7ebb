-- The fold over words, one part on.
use Rattle.std.proofs.Common.{ℕ, ◌≡◌, Bool, true, false, List, [], ◌∷◌, drop, map, Option, Some, None, codes, refl, ap, sym, ◌∙◌, arith}
use Rattle.std.specs.Prelude.{◌+◌, if◌then◌else◌}
use Rattle.std.proofs.lemmas.List.{drop-drop, drop-map}
use Rattle.std.specs.Option.{option_map, option_and_then}
use Rattle.std.specs.Str.{bytes_eq}
use Rattle.lucy_command.specs.declared.names.Name.{Name}
use Rattle.lucy_command.specs.declared.names.Setting.{Setting}
use Rattle.lucy_command.specs.Names.{allowed}
use Rattle.lucy_command.specs.Parts.{Part, Operand, Given, is_dashed, halves, cons, option_parts, parts_from, parts, Texts, with_part, with_parts}
use Rattle.lucy_command.specs.Seen.{texts_with, with_named, given_first, first_part}

-- the parts beyond the first of these words
abbrev beyond : Name → List (List ℕ) → Option (List Part)
beyond name [] = None
beyond name (text ∷ more) = parts name more

parts_step : (name : Name) (word : List ℕ) (rest : List (List ℕ)) → parts name (word ∷ rest) ≡ parts_from name word rest (parts name rest) (beyond name rest)
parts_step name word [] = refl
parts_step name word (text ∷ more) = refl

none_then : {A B : Type 0} (x : Option A) → ◌≡◌ {A = Option B} (option_and_then (λ u. None) x) None
none_then None = refl
none_then (Some x) = refl

then_map : {A B C : Type 0} (f : A → B) (g : B → Option C) (x : Option A) → option_and_then g (option_map f x) ≡ option_and_then (λ u. g (f u)) x
then_map f g None = refl
then_map f g (Some x) = refl

-- one part, and then others
one_more : (t : Texts) (part : Part) (behind : Option (List Part)) → option_and_then (with_parts t) (cons part behind) ≡ option_and_then (λ u. option_and_then (with_parts u) behind) (with_part t part)
one_more t part None = sym (none_then (with_part t part))
one_more t part (Some ps) = refl

-- an option, and then others
option_more : (t : Texts) (text : List ℕ) (behind : Option (List Part)) (setting : Option Setting) →
    option_and_then (with_parts t) (option_and_then (λ s. cons (Given s text) behind) setting)
    ≡ option_and_then (λ u. option_and_then (with_parts u) behind) (option_and_then (λ s. with_part t (Given s text)) setting)
option_more t text behind None = refl
option_more t text behind (Some s) = one_more t (Given s text) behind

module _ (name : Name) (t : Texts) (word : List ℕ) where
  option_first : (h : Option (List ℕ × List ℕ)) (rest : List (List ℕ)) →
      option_and_then (λ f. texts_with name f.0 (drop f.1 rest)) (given_first name t word h rest) ≡ option_and_then (with_parts t) (option_parts name word h rest (parts name rest) (beyond name rest))
  option_first (Some (option, text)) rest =
      then_map (λ u. (u, 0)) (λ f. texts_with name f.0 (drop f.1 rest)) (with_named name t option text) ∙ sym (option_more t text (parts name rest) (allowed name option))
  option_first None [] = refl
  option_first None (text ∷ more) =
      then_map (λ u. (u, 1)) (λ f. texts_with name f.0 (drop f.1 (text ∷ more))) (with_named name t word text) ∙ sym (option_more t text (parts name more) (allowed name word))

  dashed_first : (dashed : Bool) (rest : List (List ℕ)) →
      option_and_then (λ f. texts_with name f.0 (drop f.1 rest)) (if dashed then given_first name t word (halves word) rest else option_map (λ u. (u, 0)) (with_part t (Operand word)))
      ≡ option_and_then (with_parts t) (if dashed then option_parts name word (halves word) rest (parts name rest) (beyond name rest) else cons (Operand word) (parts name rest))
  dashed_first true rest = option_first (halves word) rest
  dashed_first false rest = then_map (λ u. (u, 0)) (λ f. texts_with name f.0 (drop f.1 rest)) (with_part t (Operand word)) ∙ sym (one_more t (Operand word) (parts name rest))

  -- the words behind a part have the texts that are left
  pub first_texts : (rest : List (List ℕ)) → bytes_eq word (codes "--") ≡ false →
      option_and_then (λ f. texts_with name f.0 (drop f.1 rest)) (first_part name t word rest) ≡ texts_with name t (word ∷ rest)
  first_texts rest other =
      let ps : Option (List Part) = if is_dashed word then option_parts name word (halves word) rest (parts name rest) (beyond name rest) else cons (Operand word) (parts name rest) in
      let step : parts name (word ∷ rest) ≡ ps = parts_step name word rest ∙ ap (λ b. if b then Some (map Operand rest) else ps) other in
      dashed_first (is_dashed word) rest ∙ ap (option_and_then (with_parts t)) (sym step)

  -- and behind `--` they are operands
  pub last_texts : (rest : List (List ℕ)) → bytes_eq word (codes "--") ≡ true → with_parts t (map Operand rest) ≡ texts_with name t (word ∷ rest)
  last_texts rest dashes =
      let ps : Option (List Part) = if is_dashed word then option_parts name word (halves word) rest (parts name rest) (beyond name rest) else cons (Operand word) (parts name rest) in
      let step : parts name (word ∷ rest) ≡ Some (map Operand rest) = parts_step name word rest ∙ ap (λ b. if b then Some (map Operand rest) else ps) dashes in
      ap (option_and_then (with_parts t)) (sym step)

-- at a word of a list of words, whose texts these are
module _ {S : Type 0} (text : S → List ℕ) (name : Name) (words : List S) (at : ℕ) (word : S) (t : Texts) (all : Option Texts) (here : drop at words ≡ word ∷ drop (at + 1) words)
    (before : texts_with name t (map text (drop at words)) ≡ all) where
  from_here : texts_with name t (text word ∷ map text (drop (at + 1) words)) ≡ all
  from_here = ap (λ l. texts_with name t (map text l)) (sym here) ∙ before

  -- a part begins there
  pub part_on : (taken : ℕ) (u : Texts) → bytes_eq (text word) (codes "--") ≡ false → Some (u, taken) ≡ first_part name t (text word) (map text (drop (at + 1) words)) →
      texts_with name u (map text (drop (at + (1 + taken)) words)) ≡ all
  part_on taken u other found =
      let ws : List (List ℕ) = map text (drop (at + 1) words) in
      let places : at + 1 + taken ≡ at + (1 + taken) = omega arith in
      let moved : drop taken ws ≡ map text (drop (at + (1 + taken)) words) =
      drop-map text taken (drop (at + 1) words) ∙ ap (map text) (drop-drop taken (at + 1) words ∙ ap (λ n. drop n words) places) in
      ap (texts_with name u) (sym moved) ∙ ap (option_and_then (λ f. texts_with name f.0 (drop f.1 ws))) found ∙ first_texts name t (text word) ws other ∙ from_here

  -- none does
  pub no_part : bytes_eq (text word) (codes "--") ≡ false → None ≡ first_part name t (text word) (map text (drop (at + 1) words)) → None ≡ all
  no_part other none =
      let ws : List (List ℕ) = map text (drop (at + 1) words) in
      ap (option_and_then (λ f. texts_with name f.0 (drop f.1 ws))) none ∙ first_texts name t (text word) ws other ∙ from_here

  -- all that follow are operands
  pub operands_on : bytes_eq (text word) (codes "--") ≡ true → with_parts t (map Operand (map text (drop (at + 1) words))) ≡ all
  operands_on dashes = last_texts name t (text word) (map text (drop (at + 1) words)) dashes ∙ from_here

-- an option whose text is the next word
pub next_given : (name : Name) (t u : Texts) (word text : List ℕ) (h : Option (List ℕ × List ℕ)) (rest more : List (List ℕ)) → None ≡ h → rest ≡ text ∷ more → Some u ≡ with_named name t word text →
    Some (u, 1) ≡ given_first name t word h rest
next_given name t u word text h rest more none next found =
    ap (option_map (λ v. (v, 1))) found ∙ ap (λ l. given_first name t word None l) (sym next) ∙ ap (λ x. given_first name t word x rest) none

-- one operand more
pub operand_more : {S : Type 0} (text : S → List ℕ) (words : List S) (i : ℕ) (word : S) (t u : Texts) (all : Option Texts) → drop i words ≡ word ∷ drop (i + 1) words →
    Some u ≡ with_part t (Operand (text word)) → with_parts t (map Operand (map text (drop i words))) ≡ all → with_parts u (map Operand (map text (drop (i + 1) words))) ≡ all
operand_more text words i word t u all here found before =
    ap (option_and_then (λ v. with_parts v (map Operand (map text (drop (i + 1) words))))) found ∙ ap (λ l. with_parts t (map Operand (map text l))) (sym here) ∙ before

pub no_operand : {S : Type 0} (text : S → List ℕ) (words : List S) (i : ℕ) (word : S) (t : Texts) (all : Option Texts) → drop i words ≡ word ∷ drop (i + 1) words →
    None ≡ with_part t (Operand (text word)) → with_parts t (map Operand (map text (drop i words))) ≡ all → None ≡ all
no_operand text words i word t all here none before =
    ap (option_and_then (λ v. with_parts v (map Operand (map text (drop (i + 1) words))))) none ∙ ap (λ l. with_parts t (map Operand (map text l))) (sym here) ∙ before

-- which the command doesn't take
pub no_given : (name : Name) (t : Texts) (word text : List ℕ) (h : Option (List ℕ × List ℕ)) (rest more : List (List ℕ)) → None ≡ h → rest ≡ text ∷ more → None ≡ with_named name t word text →
    None ≡ given_first name t word h rest
no_given name t word text h rest more none next found =
    ap (option_map (λ v. (v, 1))) found ∙ ap (λ l. given_first name t word None l) (sym next) ∙ ap (λ x. given_first name t word x rest) none
