-- Laws of numbers in decimal digits.
use Rattle.std.proofs.Common.{ℕ, ◌<◌, ◌≤◌, ◌≡◌, ◌^◌, true, false, List, [], ◌∷◌, length, Some, None, Result, Err, inl, inr, refl, sym, subst, ap, arith}
use Rattle.std.specs.Prelude.{◌==◌, ◌&&◌, nat_le, if◌then◌else◌}
use Rattle.std.specs.Result.{OkIff}
use Rattle.std.specs.Str.{all_ascii_digits, IsUtf8}
use Rattle.std.specs.Str.Parse.{digits_value, ParsesUnsigned}
use Rattle.std.proofs.lemmas.Bool.{and_right, lt-leb, cases_lt}
use Rattle.std.proofs.lemmas.Fmt.{IsAscii-from_digits}
use Rattle.std.proofs.lemmas.Str.{IsUtf8-from_ascii}
use Rattle.std.proofs.lemmas.Str.Parse.{IsNumeralModel, numerals_by_value, tells_all_ascii_digits, parse_digits}
use Rattle.lucy_fields.specs.Numbers.{number_of}

-- decimal digits are numerals
pub numerals : IsNumeralModel (λ ds. all_ascii_digits ds ≡ true) (digits_value 10)
numerals = numerals_by_value _ tells_all_ascii_digits

-- digits are a text
pub digits_are_text : (bytes : List ℕ) → all_ascii_digits bytes ≡ true → IsUtf8 bytes
digits_are_text bytes h = IsUtf8-from_ascii bytes (IsAscii-from_digits bytes (numerals.to bytes h))

-- a number past the greatest one is none
pub none_past : (digits least most : ℕ) (bytes : List ℕ) → most < digits_value 10 bytes → None ≡ number_of digits least most bytes
none_past digits least most [] h = refl
none_past digits least most (b ∷ bytes) h =
    let v : ℕ = digits_value 10 (b ∷ bytes) in
    let past : nat_le v most ≡ false = lt-leb v most h in
    let no : (nat_le (length (b ∷ bytes)) digits && (all_ascii_digits (b ∷ bytes) && (nat_le least v && nat_le v most))) ≡ false =
    and_right (nat_le (length (b ∷ bytes)) digits) _ (and_right (all_ascii_digits (b ∷ bytes)) _ (and_right (nat_le least v) _ past)) in
    sym (ap (λ t. if t then Some v else None) no)

-- digits that are not parsed are past the greatest 64-bit number
pub unparsed_past : {E : Type 0} (bytes : List ℕ) (r : Result ℕ E) (e : E) → ParsesUnsigned 64 10 bytes r → all_ascii_digits bytes ≡ true →
    false ≡ (length bytes == 0) → r ≡ Err e → 2 ^ 64 ≤ digits_value 10 bytes
unparsed_past [] r e parses digits some is = cc some
unparsed_past (b ∷ bytes) r e parses digits some is =
    let v : ℕ = digits_value 10 (b ∷ bytes) in
    let no : OkIff (Err e) ((0 < length (b ∷ bytes)) × (v < 2 ^ 64)) v =
    subst (λ s. OkIff s ((0 < length (b ∷ bytes)) × (v < 2 ^ 64)) v) is (parse_digits numerals 64 (b ∷ bytes) r parses digits) in
    elim (cases_lt v (2 ^ 64)) [ inl l ↦ absurd (no (omega arith, l)) | inr l ↦ l ]
