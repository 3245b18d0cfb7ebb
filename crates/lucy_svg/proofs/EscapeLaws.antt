-- What is known of texts in XML.
use Rattle.std.proofs.Common.{ℕ, ◌≡◌, false, List, [], ◌∷◌, ◌++◌, Some, None, sym, ap, ◌∙◌, subst, refl, inl, inr}
use Rattle.std.specs.Prelude.{◌==◌, if◌then◌else◌}
use Rattle.std.proofs.lemmas.Bool.{cases_eq, ne_eqb}
use Rattle.lucy_svg.specs.Escaping.{name_of, written, escaped_byte, escaped, before, plain, read_on, unescaped}

-- a byte that is no mark has no name
pub no_name_of : (byte : ℕ) → (byte == 34) ≡ false → (byte == 38) ≡ false → (byte == 39) ≡ false → (byte == 60) ≡ false →
    (byte == 62) ≡ false → name_of byte ≡ None
no_name_of byte a b c d e = simp (a, b, c, d, e)

-- what a byte before the rest is read as
abbrev ReadsOne : (rest text : List ℕ) → ℕ → Type 0
ReadsOne rest text byte = read_on None (escaped_byte byte ++ rest) ≡ Some (byte ∷ text)

module _ (rest text : List ℕ) (is : read_on None rest ≡ Some text) where
  bare : (byte : ℕ) → (byte == 38) ≡ false → name_of byte ≡ None → ReadsOne rest text byte
  bare byte no_and none =
      ap (λ name. read_on None (written byte name ++ rest)) none
      ∙ ap (λ b. if b then read_on (Some []) rest else plain byte (name_of byte) (read_on None rest)) no_and
      ∙ ap (λ name. plain byte name (read_on None rest)) none
      ∙ ap (before byte) is

  at_mark : (byte mark : ℕ) → byte ≡ mark → ReadsOne rest text mark → ReadsOne rest text byte
  at_mark byte mark e h = subst (λ m. ReadsOne rest text m) (sym e) h

  pub reads_one : (byte : ℕ) → ReadsOne rest text byte
  reads_one byte =
      elim (cases_eq byte 34) [
        | inl e ↦ at_mark byte 34 e (ap (before 34) is)
        | inr a ↦
            elim (cases_eq byte 38) [
              | inl e ↦ at_mark byte 38 e (ap (before 38) is)
              | inr b ↦
                  elim (cases_eq byte 39) [
                    | inl e ↦ at_mark byte 39 e (ap (before 39) is)
                    | inr c ↦
                        elim (cases_eq byte 60) [
                          | inl e ↦ at_mark byte 60 e (ap (before 60) is)
                          | inr d ↦
                              elim (cases_eq byte 62) [
                                | inl e ↦ at_mark byte 62 e (ap (before 62) is)
                                | inr g ↦
                                    bare byte (ne_eqb byte 38 b)
                                    (no_name_of byte (ne_eqb byte 34 a) (ne_eqb byte 38 b) (ne_eqb byte 39 c) (ne_eqb byte 60 d) (ne_eqb byte 62 g))
                              ]
                        ]
                  ]
            ]
      ]

pub read_back : (text : List ℕ) → unescaped (escaped text) ≡ Some text
read_back [] = refl
read_back (byte ∷ text) = reads_one (escaped text) text (read_back text) byte
