-- Digits, with a sign before them or not, are a text.
use Rattle.std.proofs.Common.{ℕ, cond, List, [], ◌∷◌, drop, eqb, arith}
use Rattle.std.specs.Str.{IsAscii, IsUtf8}
use Rattle.std.specs.Str.Parse.{IsNumeral, without_leading_sign}
use Rattle.std.proofs.lemmas.Bool.{cond_both, eqb-true}
use Rattle.std.proofs.lemmas.Fmt.{IsAscii-from_digits}
use Rattle.std.proofs.lemmas.Str.{IsUtf8-from_ascii}
use Rattle.std.proofs.lemmas.Str.Ascii.{IsAscii-cons}

ascii_from_numeral : (bytes : List ℕ) → IsNumeral 10 (without_leading_sign bytes) → IsAscii bytes
ascii_from_numeral [] = λ h. IsAscii-from_digits [] tt
ascii_from_numeral (c ∷ bytes) =
    cond_both (eqb c 45) bytes (drop (cond (eqb c 43) 1 0) (c ∷ bytes)) (λ ds. IsNumeral 10 ds → IsAscii (c ∷ bytes))
    (λ e h. IsAscii-cons c bytes (omega (arith, eqb-true c 45 e)) (IsAscii-from_digits bytes h.1))
    (λ e. cond_both (eqb c 43) 1 0 (λ n. IsNumeral 10 (drop n (c ∷ bytes)) → IsAscii (c ∷ bytes))
    (λ f h. IsAscii-cons c bytes (omega (arith, eqb-true c 43 f)) (IsAscii-from_digits bytes h.1))
    (λ f h. IsAscii-from_digits (c ∷ bytes) h.1))

pub utf8_from_numeral : (bytes : List ℕ) → IsNumeral 10 (without_leading_sign bytes) → IsUtf8 bytes
utf8_from_numeral bytes h = IsUtf8-from_ascii bytes (ascii_from_numeral bytes h)
