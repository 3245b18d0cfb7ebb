-- What stands at the front of a token in print.
use Rattle.std.proofs.Common.{◌≡◌, ℕ, suc, ◌+◌, ◌<◌, ◌≤◌, Bool, true, false, List, [], ◌∷◌, ◌++◌, length, drop, take, refl, ap, sym, ◌∙◌, subst, inl, inr, arith}
use Rattle.std.specs.Prelude.{◌⊎◌, ◌==◌, ◌&&◌, ◌||◌, not, nat_le, if◌then◌else◌}
use Rattle.std.specs.List.{prefix_len, AllByRecursion}
use Rattle.std.specs.Str.Parse.{AllDigits}
use Rattle.std.proofs.lemmas.Bool.{cases_Bool, cond-true, cond-false, and_right, and_parts, and_from, and_left, or_cases, or_parts, or_from, not-true, false_from_ne_true, leb-true, le-leb, eqb-true, ne_eqb}
use Rattle.std.proofs.lemmas.List.Elements.{recursion_from_All}
use Rattle.std.proofs.lemmas.Str.Parse.{tells_digits}
use Rattle.std.proofs.Math.Seq.{take-append_seam}
use Rattle.lucy_word.specs.Stages.{is_decimal}
use Rattle.lucy_fields.specs.Fields.{is_blank}
use Rattle.lucy_token.specs.declared.mark.Mark.{Mark}
use Rattle.lucy_token.specs.declared.mark.Mark.TheVariants as mark
use Rattle.lucy_token.specs.declared.token.Kind.TheVariants as kind
use Rattle.lucy_token.specs.declared.front.Front.TheVariants.{Token, Bad}
use Rattle.lucy_token.specs.Marks.{spelling, keywords, signs}
use Rattle.lucy_token.specs.Fronts.{head, is_letter, is_name_byte, begins_gap, plain_front, minus_of, sign_in, named_in}
use Rattle.lucy_token.specs.Written.{IsNameText}
use Rattle.lucy_token.specs.Spelled.{is_keyword, mark_ends}

-- how far bytes that pass reach, where the next one doesn't
pub prefix_through : (p : ℕ → Bool) (xs rest : List ℕ) → AllByRecursion (λ c. p c ≡ true) xs → p (head rest) ≡ false → prefix_len p (xs ++ rest) ≡ length xs
prefix_through p [] [] all next = refl
prefix_through p [] (c ∷ rest) all next = cond-false (p c) (1 + prefix_len p rest) 0 next
prefix_through p (c ∷ xs) rest all next = cond-true (p c) (1 + prefix_len p (xs ++ rest)) 0 all.0 ∙ (let i : prefix_len p (xs ++ rest) ≡ length xs = prefix_through p xs rest all.1 next in omega (arith, i))

-- which bytes letters and digits are
pub letter_high : (c : ℕ) → is_letter c ≡ true → 65 ≤ c
letter_high c h =
    elim (or_cases ((nat_le 97 c && nat_le c 122) || (nat_le 65 c && nat_le c 90)) (c == 95) h) [
      | inl a ↦ elim (or_cases (nat_le 97 c && nat_le c 122) (nat_le 65 c && nat_le c 90) a) [
        | inl b ↦ omega (arith, leb-true 97 c (and_parts (nat_le 97 c) (nat_le c 122) b).0)
        | inr b ↦ leb-true 65 c (and_parts (nat_le 65 c) (nat_le c 90) b).0
      ]
      | inr e ↦ omega (arith, eqb-true c 95 e)
    ]

pub low_no_letter : (c : ℕ) → c < 65 → is_letter c ≡ false
low_no_letter c h = false_from_ne_true (is_letter c) (λ e. omega (arith, letter_high c e))

pub decimal_range : (c : ℕ) → is_decimal c ≡ true → (48 ≤ c) × (c ≤ 57)
decimal_range c h = let p = and_parts (nat_le 48 c) (nat_le c 57) h in (leb-true 48 c p.0, leb-true c 57 p.1)

range_decimal : (c : ℕ) → 48 ≤ c → c ≤ 57 → is_decimal c ≡ true
range_decimal c h k = and_from (nat_le 48 c) (nat_le c 57) (le-leb 48 c h) (le-leb c 57 k)

-- no blank and no comment begins with a byte past `(`
pub no_gap : (c : ℕ) (rest : List ℕ) → 40 < c → begins_gap (c ∷ rest) ≡ false
no_gap c rest h =
    let a : (c == 32) ≡ false = ne_eqb c 32 (λ e. omega (arith, e)) in
    let b : (c == 9) ≡ false = ne_eqb c 9 (λ e. omega (arith, e)) in
    let d : (c == 13) ≡ false = ne_eqb c 13 (λ e. omega (arith, e)) in
    let f : (c == 10) ≡ false = ne_eqb c 10 (λ e. omega (arith, e)) in
    let g : (c == 40) ≡ false = ne_eqb c 40 (λ e. omega (arith, e)) in
    or_from (is_blank c) ((c == 40) && (head (drop 1 (c ∷ rest)) == 42))
    (or_from ((c == 32 || c == 9) || c == 13) (c == 10) (or_from (c == 32 || c == 9) (c == 13) (or_from (c == 32) (c == 9) a b) d) f)
    (and_left (c == 40) (head (drop 1 (c ∷ rest)) == 42) g)

-- a name or a keyword
name_front : (operand : Bool) (bytes rest : List ℕ) → is_letter (head (bytes ++ rest)) ≡ true → AllByRecursion (λ c. is_name_byte c ≡ true) bytes → is_name_byte (head rest) ≡ false →
    plain_front operand (bytes ++ rest) ≡ Token (named_in keywords bytes) (length bytes)
unfolding plain_front
name_front operand bytes rest h all next =
    let n : prefix_len is_name_byte (bytes ++ rest) ≡ length bytes = prefix_through is_name_byte bytes rest all next in
    cond-true (is_letter (head (bytes ++ rest))) (Token (named_in keywords (take (prefix_len is_name_byte (bytes ++ rest)) (bytes ++ rest))) (prefix_len is_name_byte (bytes ++ rest))) _ h
    ∙ ap (λ k. Token (named_in keywords (take k (bytes ++ rest))) k) n
    ∙ ap (λ u. Token (named_in keywords u) (length bytes)) (take-append_seam bytes rest)

-- each keyword is spelled as itself, with bytes of names
named_by : (m : Mark) → named_in keywords (spelling m) ≡ if is_keyword m then kind.Mark m else kind.Name
named_by mark.Let = refl
named_by m = refl

keyword_self : (m : Mark) → is_keyword m ≡ true → named_in keywords (spelling m) ≡ kind.Mark m
keyword_self m e = named_by m ∙ cond-true (is_keyword m) (kind.Mark m) kind.Name e

abbrev all_name_bytes : List ℕ → Bool
all_name_bytes [] = true
all_name_bytes (c ∷ bytes) = is_name_byte c && all_name_bytes bytes

all_of_test : (bytes : List ℕ) → all_name_bytes bytes ≡ true → AllByRecursion (λ c. is_name_byte c ≡ true) bytes
all_of_test [] e = tt
all_of_test (c ∷ bytes) e = let p = and_parts (is_name_byte c) (all_name_bytes bytes) e in (p.0, all_of_test bytes p.1)

keyword_bytes : (m : Mark) → is_keyword m ≡ true → all_name_bytes (spelling m) ≡ true
keyword_bytes mark.Let e = refl
keyword_bytes m e = cc

-- what is known of a mark by its first byte
pub head_spelling : (m : Mark) (rest : List ℕ) → head (spelling m ++ rest) ≡ head (spelling m)
head_spelling mark.Let rest = refl
head_spelling m rest = refl

no_digit : (m : Mark) → is_decimal (head (spelling m)) ≡ false
no_digit mark.Let = refl
no_digit m = refl

minus_apart : (m : Mark) (rest : List ℕ) → mark_ends m (head rest) ≡ true → ((head (spelling m) == 45) ≡ false) ⊎ (is_decimal (head (drop 1 (spelling m ++ rest))) ≡ false)
minus_apart mark.Minus rest h = inr (not-true (is_decimal (head rest)) h)
minus_apart m rest h = inl refl

pub mark_no_gap : (m : Mark) (rest : List ℕ) → mark_ends m (head rest) ≡ true → begins_gap (spelling m ++ rest) ≡ false
mark_no_gap mark.Open rest h = not-true (head rest == 42) h
mark_no_gap m rest h = refl

-- no number begins where the first byte is no digit and no minus before one
no_number : (operand : Bool) (text : List ℕ) → ((head text == 45) ≡ false) ⊎ (is_decimal (head (drop 1 text)) ≡ false) → is_decimal (head text) ≡ false → is_decimal (head (drop (minus_of operand text) text)) ≡ false
no_number operand text h k =
    let test : ((operand && (head text == 45)) && is_decimal (head (drop 1 text))) ≡ false =
    elim h [
      | inl a ↦ and_left (operand && (head text == 45)) (is_decimal (head (drop 1 text))) (and_right operand (head text == 45) a)
      | inr b ↦ and_right (operand && (head text == 45)) (is_decimal (head (drop 1 text))) b
    ] in
    let e : minus_of operand text ≡ 0 = cond-false ((operand && (head text == 45)) && is_decimal (head (drop 1 text))) 1 0 test in
    ap (λ m. is_decimal (head (drop m text))) e ∙ k

sign_by : (m : Mark) (rest : List ℕ) → mark_ends m (head rest) ≡ true → sign_in signs (spelling m ++ rest) ≡ if is_keyword m then Bad 0 else Token (kind.Mark m) (length (spelling m))
sign_by mark.Colon [] h = refl
sign_by mark.Colon (c ∷ rest) h = rw (not-true (c == 58) h) refl
sign_by mark.Equals [] h = refl
sign_by mark.Equals (c ∷ rest) h = rw (not-true (c == 61) h) refl
sign_by mark.Less [] h = refl
sign_by mark.Less (c ∷ rest) h = rw (not-true (c == 61) h) refl
sign_by mark.Greater [] h = refl
sign_by mark.Greater (c ∷ rest) h = rw (not-true (c == 61) h) refl
sign_by m rest h = refl

sign_found : (m : Mark) (rest : List ℕ) → is_keyword m ≡ false → mark_ends m (head rest) ≡ true → sign_in signs (spelling m ++ rest) ≡ Token (kind.Mark m) (length (spelling m))
sign_found m rest e h = sign_by m rest h ∙ cond-false (is_keyword m) (Bad 0) (Token (kind.Mark m) (length (spelling m))) e

sign_front : (operand : Bool) (m : Mark) (rest : List ℕ) → is_keyword m ≡ false → mark_ends m (head rest) ≡ true → plain_front operand (spelling m ++ rest) ≡ Token (kind.Mark m) (length (spelling m))
unfolding plain_front
sign_front operand m rest e h =
    let text : List ℕ = spelling m ++ rest in
    let first : head text ≡ head (spelling m) = head_spelling m rest in
    let P : ℕ → Type 0 = λ c. ((c == 45) ≡ false) ⊎ (is_decimal (head (drop 1 text)) ≡ false) in
    cond-false (is_letter (head text)) _ _ (ap is_letter first ∙ e)
    ∙ cond-false (is_decimal (head (drop (minus_of operand text) text))) _ (sign_in signs text) (no_number operand text (subst P (sym first) (minus_apart m rest h)) (ap is_decimal first ∙ no_digit m))
    ∙ sign_found m rest e h

end_by : (m : Mark) (c : ℕ) → mark_ends m c ≡ if is_keyword m then not (is_name_byte c) else mark_ends m c
end_by mark.Let c = refl
end_by m c = refl

pub keyword_end_is : (m : Mark) (c : ℕ) → is_keyword m ≡ true → mark_ends m c ≡ not (is_name_byte c)
keyword_end_is m c e = end_by m c ∙ cond-true (is_keyword m) (not (is_name_byte c)) (mark_ends m c) e

keyword_ends : (m : Mark) (c : ℕ) → is_keyword m ≡ true → mark_ends m c ≡ true → is_name_byte c ≡ false
keyword_ends m c e h = not-true (is_name_byte c) (sym (keyword_end_is m c e) ∙ h)

pub mark_front : (operand : Bool) (m : Mark) (rest : List ℕ) → mark_ends m (head rest) ≡ true → plain_front operand (spelling m ++ rest) ≡ Token (kind.Mark m) (length (spelling m))
mark_front operand m rest h =
    elim (cases_Bool (is_keyword m)) [
      | inl e ↦ name_front operand (spelling m) rest (ap is_letter (head_spelling m rest) ∙ e) (all_of_test (spelling m) (keyword_bytes m e)) (keyword_ends m (head rest) e h) ∙ ap (λ k. Token k (length (spelling m))) (keyword_self m e)
      | inr e ↦ sign_front operand m rest e h
    ]

-- digits
all_decimal : (ds : List ℕ) → AllDigits 10 ds → AllByRecursion (λ c. is_decimal c ≡ true) ds
all_decimal [] all = tt
all_decimal (c ∷ ds) all = let p = tells_digits.parts c ds all in (range_decimal c p.0.0 p.0.1, all_decimal ds p.1)

pub first_decimal : (ds rest : List ℕ) → 0 < length ds → AllDigits 10 ds → is_decimal (head (ds ++ rest)) ≡ true
first_decimal [] rest some all = absurd (omega (arith, some))
first_decimal (c ∷ ds) rest some all = (all_decimal (c ∷ ds) all).0

no_decimal : (c : ℕ) → is_name_byte c ≡ false → is_decimal c ≡ false
no_decimal c h = (or_parts (is_letter c) (is_decimal c) h).1

pub digits_front : (operand : Bool) (ds rest : List ℕ) → 0 < length ds → AllDigits 10 ds → is_name_byte (head rest) ≡ false → plain_front operand (ds ++ rest) ≡ Token kind.Number (length ds)
unfolding plain_front
digits_front operand ds rest some all next =
    let text : List ℕ = ds ++ rest in
    let first : is_decimal (head text) ≡ true = first_decimal ds rest some all in
    let range : (48 ≤ head text) × (head text ≤ 57) = decimal_range (head text) first in
    let no_minus : (head text == 45) ≡ false = ne_eqb (head text) 45 (λ e. omega (arith, e, range.0)) in
    let test : ((operand && (head text == 45)) && is_decimal (head (drop 1 text))) ≡ false = and_left _ _ (and_right operand (head text == 45) no_minus) in
    let none : minus_of operand text ≡ 0 = cond-false ((operand && (head text == 45)) && is_decimal (head (drop 1 text))) 1 0 test in
    let reach : prefix_len is_decimal text ≡ length ds = prefix_through is_decimal ds rest (all_decimal ds all) (no_decimal (head rest) next) in
    let length_is : 0 + prefix_len is_decimal text ≡ length ds = omega (arith, reach) in
    cond-false (is_letter (head text)) _ _ (low_no_letter (head text) (omega (arith, range.1)))
    ∙ cond-true (is_decimal (head (drop (minus_of operand text) text))) (Token kind.Number (minus_of operand text + prefix_len is_decimal (drop (minus_of operand text) text))) (sign_in signs text) (ap (λ m. is_decimal (head (drop m text))) none ∙ first)
    ∙ ap (λ m. Token kind.Number (m + prefix_len is_decimal (drop m text))) none
    ∙ ap (λ n. Token kind.Number n) length_is

pub minus_front : (ds rest : List ℕ) → 0 < length ds → AllDigits 10 ds → is_name_byte (head rest) ≡ false → plain_front true (45 ∷ (ds ++ rest)) ≡ Token kind.Number (suc (length ds))
unfolding plain_front
minus_front ds rest some all next =
    let text : List ℕ = ds ++ rest in
    let first : is_decimal (head text) ≡ true = first_decimal ds rest some all in
    let one : minus_of true (45 ∷ text) ≡ 1 = cond-true (is_decimal (head text)) 1 0 first in
    let reach : prefix_len is_decimal text ≡ length ds = prefix_through is_decimal ds rest (all_decimal ds all) (no_decimal (head rest) next) in
    let length_is : 1 + prefix_len is_decimal text ≡ suc (length ds) = omega (arith, reach) in
    cond-true (is_decimal (head (drop (minus_of true (45 ∷ text)) (45 ∷ text)))) (Token kind.Number (minus_of true (45 ∷ text) + prefix_len is_decimal (drop (minus_of true (45 ∷ text)) (45 ∷ text)))) (sign_in signs (45 ∷ text)) (ap (λ m. is_decimal (head (drop m (45 ∷ text)))) one ∙ first)
    ∙ ap (λ m. Token kind.Number (m + prefix_len is_decimal (drop m (45 ∷ text)))) one
    ∙ ap (λ n. Token kind.Number n) length_is

pub digits_no_gap : (ds rest : List ℕ) → 0 < length ds → AllDigits 10 ds → begins_gap (ds ++ rest) ≡ false
digits_no_gap [] rest some all = absurd (omega (arith, some))
digits_no_gap (c ∷ ds) rest some all = no_gap c (ds ++ rest) (omega (arith, (decimal_range c (all_decimal (c ∷ ds) all).0).0))

-- names
pub name_text_front : (operand : Bool) (bytes rest : List ℕ) → IsNameText bytes → is_name_byte (head rest) ≡ false → plain_front operand (bytes ++ rest) ≡ Token kind.Name (length bytes)
name_text_front operand bytes rest name next =
    name_front operand bytes rest (letter_first bytes name.some name.begins) (recursion_from_All (λ c. is_name_byte c ≡ true) bytes name.name_bytes) next ∙ ap (λ k. Token k (length bytes)) name.no_keyword
  where
    letter_first : (u : List ℕ) → 0 < length u → is_letter (head u) ≡ true → is_letter (head (u ++ rest)) ≡ true
    letter_first [] some h = absurd (omega (arith, some))
    letter_first (c ∷ u) some h = h

pub name_no_gap : (bytes rest : List ℕ) → IsNameText bytes → begins_gap (bytes ++ rest) ≡ false
name_no_gap bytes rest name = at bytes name.some name.begins
  where
    at : (u : List ℕ) → 0 < length u → is_letter (head u) ≡ true → begins_gap (u ++ rest) ≡ false
    at [] some h = absurd (omega (arith, some))
    at (c ∷ u) some h = no_gap c (u ++ rest) (omega (arith, letter_high c h))
