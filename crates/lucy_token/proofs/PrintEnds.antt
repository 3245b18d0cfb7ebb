-- Which bytes may stand directly behind a token.
use Rattle.std.proofs.Common.{◌≡◌, ℕ, ◌^◌, ◌<◌, ◌≤◌, true, false, List, [], ◌∷◌, ◌++◌, length, refl, ap, ◌∙◌, inl, inr, arith}
use Rattle.std.specs.Prelude.{◌⊎◌, ◌==◌, ◌||◌, not, pos, negsuc}
use Rattle.std.specs.Fmt.{decimal}
use Rattle.std.proofs.lemmas.Bool.{cases_Bool, and_parts, or_cases, or_from, not-true, not_from_false, false_from_ne_true, eqb-true, ne_eqb}
use Rattle.std.proofs.lemmas.Fmt.{decimal_is_IsNumeral}
use Rattle.lucy_word.specs.Bits.{Bits}
use Rattle.lucy_word.specs.Spelling.{text_of, Spells}
use Rattle.lucy_word.specs.Stages.{is_decimal}
use Rattle.lucy_fields.specs.Fields.{is_blank}
use Rattle.lucy_token.proofs.WordFronts.{form_head}
use Rattle.lucy_token.specs.declared.mark.Mark.{Mark}
use Rattle.lucy_token.specs.declared.mark.Mark.TheVariants as mark
use Rattle.lucy_token.specs.declared.token.Kind.{Kind}
use Rattle.lucy_token.specs.declared.token.What.{What}
use Rattle.lucy_token.specs.declared.token.What.TheVariants as what
use Rattle.lucy_token.specs.Fronts.{head, is_letter, is_name_byte}
use Rattle.lucy_token.specs.Written.{IsNameText}
use Rattle.lucy_token.specs.Printed.{text_of_what, Printed, bytes_of}
use Rattle.lucy_token.specs.Spelled.{all_blank, none_of, is_keyword, mark_ends, ends_before, runs_on, is_minus, apart, apart_from, IsSpelled}
use Rattle.lucy_token.proofs.PrintFronts.{letter_high, low_no_letter, decimal_range, first_decimal, keyword_end_is, head_spelling}

-- a byte that no sign goes on with, and that is no digit or stands behind no minus
pub sign_ends : (m : Mark) (c : ℕ) → is_keyword m ≡ false → (c == 42) ≡ false → (c == 58) ≡ false → (c == 61) ≡ false → (is_minus (what.Mark m) ≡ false) ⊎ (is_decimal c ≡ false) → mark_ends m c ≡ true
sign_ends mark.Open c k star colon equals h = not_from_false (c == 42) star
sign_ends mark.Colon c k star colon equals h = not_from_false (c == 58) colon
sign_ends mark.Equals c k star colon equals h = not_from_false (c == 61) equals
sign_ends mark.Less c k star colon equals h = not_from_false (c == 61) equals
sign_ends mark.Greater c k star colon equals h = not_from_false (c == 61) equals
sign_ends mark.Minus c k star colon equals (inl h) = cc
sign_ends mark.Minus c k star colon equals (inr h) = not_from_false (is_decimal c) h
sign_ends m c k star colon equals h = cc

apart_ends : (v : What) (c : ℕ) → runs_on v ≡ false → (c == 42) ≡ false → (c == 58) ≡ false → (c == 61) ≡ false → (is_minus v ≡ false) ⊎ (is_decimal c ≡ false) → ends_before v c ≡ true
apart_ends (what.Mark m) c k star colon equals h = sign_ends m c k star colon equals h
apart_ends (what.Name bytes) c k star colon equals h = cc
apart_ends (what.Number n) c k star colon equals h = cc
apart_ends (what.Word w) c k star colon equals h = refl

-- no letter or digit
low_no_name : (c : ℕ) → c < 48 → is_name_byte c ≡ false
low_no_name c h = or_from (is_letter c) (is_decimal c) (low_no_letter c (omega (arith, h))) (false_from_ne_true (is_decimal c) (λ e. omega (arith, (decimal_range c e).0, h)))

low_mark : (m : Mark) (c : ℕ) → c < 40 → mark_ends m c ≡ true
low_mark m c h =
    elim (cases_Bool (is_keyword m)) [
      | inl k ↦ keyword_end_is m c k ∙ not_from_false (is_name_byte c) (low_no_name c (omega (arith, h)))
      | inr k ↦ sign_ends m c k (ne_eqb c 42 (λ e. omega (arith, e, h))) (ne_eqb c 58 (λ e. omega (arith, e, h))) (ne_eqb c 61 (λ e. omega (arith, e, h)))
          (inr (false_from_ne_true (is_decimal c) (λ e. omega (arith, (decimal_range c e).0, h))))
    ]

-- blanks and the end may stand behind every token
low_ends : (w : What) (c : ℕ) → c < 40 → ends_before w c ≡ true
low_ends (what.Mark m) c h = low_mark m c h
low_ends (what.Name bytes) c h = not_from_false (is_name_byte c) (low_no_name c (omega (arith, h)))
low_ends (what.Number n) c h = not_from_false (is_name_byte c) (low_no_name c (omega (arith, h)))
low_ends (what.Word w) c h = refl

blank_low : (c : ℕ) → is_blank c ≡ true → c < 40
blank_low c h =
    elim (or_cases ((c == 32 || c == 9) || c == 13) (c == 10) h) [
      | inl a ↦ elim (or_cases (c == 32 || c == 9) (c == 13) a) [
        | inl b ↦ elim (or_cases (c == 32) (c == 9) b) [ inl d ↦ omega (arith, eqb-true c 32 d) | inr d ↦ omega (arith, eqb-true c 9 d) ]
        | inr b ↦ omega (arith, eqb-true c 13 b)
      ]
      | inr a ↦ omega (arith, eqb-true c 10 a)
    ]

pub blanks_end : (w : What) (bytes : List ℕ) → all_blank bytes ≡ true → ends_before w (head bytes) ≡ true
blanks_end w [] h = low_ends w 0 (omega arith)
blanks_end w (c ∷ bytes) h = low_ends w c (blank_low c (and_parts (is_blank c) (all_blank bytes) h).0)

-- how the first byte of a token may stand behind another one
name_ends : (v : What) (bytes rest : List ℕ) → IsNameText bytes → runs_on v ≡ false → ends_before v (head (bytes ++ rest)) ≡ true
name_ends v bytes rest name k = at bytes name.some name.begins
  where
    at : (u : List ℕ) → 0 < length u → is_letter (head u) ≡ true → ends_before v (head (u ++ rest)) ≡ true
    at [] some h = absurd (omega (arith, some))
    at (c ∷ u) some h =
        let high : 65 ≤ c = letter_high c h in
        apart_ends v c k (ne_eqb c 42 (λ e. omega (arith, e))) (ne_eqb c 58 (λ e. omega (arith, e))) (ne_eqb c 61 (λ e. omega (arith, e)))
        (inr (false_from_ne_true (is_decimal c) (λ e. omega (arith, (decimal_range c e).1))))

digit_ends : (v : What) (c : ℕ) → runs_on v ≡ false → is_minus v ≡ false → 44 < c → c < 58 → ends_before v c ≡ true
digit_ends v c k m low high =
    apart_ends v c k (ne_eqb c 42 (λ e. omega (arith, e, low))) (ne_eqb c 58 (λ e. omega (arith, e, high))) (ne_eqb c 61 (λ e. omega (arith, e, high))) (inl m)

natural_ends : (v : What) (n : ℕ) (rest : List ℕ) → n < 2 ^ 64 → runs_on v ≡ false → is_minus v ≡ false → ends_before v (head (decimal n ++ rest)) ≡ true
natural_ends v n rest h k m =
    let d = decimal_is_IsNumeral n h in
    let r : (48 ≤ head (decimal n ++ rest)) × (head (decimal n ++ rest) ≤ 57) = decimal_range (head (decimal n ++ rest)) (first_decimal (decimal n) rest d.0.0 d.0.1) in
    digit_ends v (head (decimal n ++ rest)) k m (omega (arith, r.0)) (omega (arith, r.1))

word_ends : (v : What) (w u : Bits) (rest : List ℕ) → Spells (text_of w) u → runs_on v ≡ false → is_minus v ≡ false → ends_before v (head (text_of w ++ rest)) ≡ true
word_ends v w u rest s k m =
    ap (λ x. ends_before v (head (x ++ rest))) s.shape
    ∙ form_head (λ c. ends_before v c ≡ true) (digit_ends v 48 k m (omega arith) (omega arith)) (digit_ends v 49 k m (omega arith) (omega arith)) (apart_ends v 40 k refl refl refl (inl m)) s.form rest

token_ends : (before : Kind) (v w : What) (rest : List ℕ) → IsSpelled before w → apart v w ≡ true → ends_before v (head (text_of_what w ++ rest)) ≡ true
token_ends before v (what.Mark m) rest s h = ap (ends_before v) (head_spelling m rest) ∙ h
token_ends before v (what.Name bytes) rest s h = name_ends v bytes rest s (not-true (runs_on v) h)
token_ends before v (what.Number (pos n)) rest s h =
    let p = and_parts (not (runs_on v)) (not (is_minus v)) h in
    natural_ends v n rest (omega (arith, s.sfits)) (not-true (runs_on v) p.0) (not-true (is_minus v) p.1)
token_ends before v (what.Number (negsuc n)) rest s h =
    let p = and_parts (not (runs_on v)) (not (is_minus v)) h in
    digit_ends v 45 (not-true (runs_on v) p.0) (not-true (is_minus v) p.1) (omega arith) (omega arith)
token_ends before v (what.Word w) rest s h =
    let p = and_parts (not (runs_on v)) (not (is_minus v)) h in
    word_ends v w s.0.0 rest s.0.1 (not-true (runs_on v) p.0) (not-true (is_minus v) p.1)

-- what stands behind a token in print
pub next_ends : (before : Kind) (w : What) (p : Printed) (ps : List Printed) (rest : List ℕ) → all_blank p.blanks ≡ true → IsSpelled before p.what → apart_from w (p ∷ ps) ≡ true → ends_before w (head (bytes_of (p ∷ ps) rest)) ≡ true
next_ends before w p ps rest blank s h = at p.blanks blank h
  where
    at : (blanks : List ℕ) → all_blank blanks ≡ true → (not (none_of blanks) || apart w p.what) ≡ true → ends_before w (head (blanks ++ (text_of_what p.what ++ bytes_of ps rest))) ≡ true
    at [] b e = token_ends before w p.what (bytes_of ps rest) s e
    at (c ∷ blanks) b e = low_ends w c (blank_low c (and_parts (is_blank c) (all_blank blanks) b).0)
