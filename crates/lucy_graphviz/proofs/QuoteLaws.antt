-- A text between quotes reads back.
use Rattle.std.proofs.Common.{ℕ, ◌≡◌, ◌≢◌, false, List, [], ◌∷◌, ◌++◌, Some, refl, sym, ap, ◌∙◌, subst, arith, inl, inr, append_assoc}
use Rattle.std.specs.List.{AllByRecursion}
use Rattle.std.specs.Option.{option_map}
use Rattle.std.proofs.lemmas.Bool.{cases_eq, ne_eqb}
use Rattle.lucy_graphviz.specs.Quotes.{byte_in_label, in_label, put_before, read_quoted}

-- a byte that is none of the three stands for itself
plain : (byte : ℕ) → byte ≢ 34 → byte ≢ 92 → byte ≢ 10 → byte_in_label byte ≡ byte ∷ []
plain byte a b c = simp (ne_eqb byte 34 a, ne_eqb byte 92 b, ne_eqb byte 10 c) refl

plain_read : (byte : ℕ) (rest : List ℕ) → byte ≢ 34 → byte ≢ 92 → read_quoted false (byte ∷ rest) ≡ option_map (put_before byte) (read_quoted false rest)
plain_read byte rest a b = simp (ne_eqb byte 34 a, ne_eqb byte 92 b) refl

-- what holds of a byte's spelling, by cases
by_cases : (P : ℕ → Type 0) → P 34 → P 92 → P 10 → ((byte : ℕ) → byte ≢ 34 → byte ≢ 92 → byte ≢ 10 → P byte) → (byte : ℕ) → P byte
by_cases P a b c others byte =
    elim (cases_eq byte 34) [
      | inl e ↦ subst P (sym e) a
      | inr w ↦ elim (cases_eq byte 92) [
        | inl e ↦ subst P (sym e) b
        | inr x ↦ elim (cases_eq byte 10) [ inl e ↦ subst P (sym e) c | inr y ↦ others byte w x y ]
      ]
    ]

-- a byte more
byte_reads : (rest : List ℕ) (byte : ℕ) → read_quoted false (byte_in_label byte ++ rest) ≡ option_map (put_before byte) (read_quoted false rest)
byte_reads rest =
    by_cases (λ byte. read_quoted false (byte_in_label byte ++ rest) ≡ option_map (put_before byte) (read_quoted false rest)) refl refl refl
    (λ byte a b c. ap (λ l. read_quoted false (l ++ rest)) (plain byte a b c) ∙ plain_read byte rest a b)

pub reads : (text rest : List ℕ) → read_quoted false (in_label text ++ 34 ∷ rest) ≡ Some (record { text = text; rest = rest })
reads [] rest = refl
reads (byte ∷ text) rest =
    ap (read_quoted false) (append_assoc (byte_in_label byte) (in_label text) (34 ∷ rest)) ∙ byte_reads (in_label text ++ 34 ∷ rest) byte
    ∙ ap (option_map (put_before byte)) (reads text rest)

-- no spelling has a line feed
pub no_line : (text : List ℕ) → AllByRecursion (λ byte. byte ≢ 10) (in_label text)
no_line [] = tt
no_line (byte ∷ text) =
    by_cases (λ x. AllByRecursion (λ y. y ≢ 10) (byte_in_label x ++ in_label text))
    ((λ e. omega arith), ((λ e. omega arith), no_line text))
    ((λ e. omega arith), ((λ e. omega arith), no_line text))
    ((λ e. omega arith), ((λ e. omega arith), no_line text))
    (λ x p q r. subst (λ l. AllByRecursion (λ y. y ≢ 10) (l ++ in_label text)) (sym (plain x p q r)) (r, no_line text)) byte
