use Rattle.std.proofs.Common.{◌≡◌, List, ℕ, Option, Result, Ok, Err, sym, subst}
use Rattle.std.specs.Prelude.{MatchOption, ℤ}
use Rattle.std.specs.Int.{w64}
use Rattle.std.specs.Result.{result_ok}
use Rattle.std.specs.Str.Parse.{IsNumeral, without_leading_sign, signed_digits_value, ParsesSigned}
use mir.Val.{SFits as FitsSigned}
use Rattle.lucy_token.proofs.Numbers.{utf8_from_numeral}
use Rattle.lucy_token.proofs.content.number.Goals as goal

parsed : {E : Type 0} (bytes : List ℕ) (r : Result ℤ E) → IsNumeral 10 (without_leading_sign bytes) → ParsesSigned w64 10 bytes r →
    MatchOption (result_ok r) (FitsSigned w64 (signed_digits_value 10 bytes) → ⊥) (λ n. FitsSigned w64 (signed_digits_value 10 bytes) × (n ≡ signed_digits_value 10 bytes))
parsed bytes (Ok n) is h = (h.0.1, h.1)
parsed bytes (Err e) is h = λ fits. h (is, fits)

pub returns-in-Err : goal.returns-in-Err
returns-in-Err c = λ fits. c.in-Err.ensures.cases.0 (utf8_from_numeral c.args.bytes.now c.requires)

pub returns-in-Ok : goal.returns-in-Ok
returns-in-Ok c =
    let P : List ℕ → Type 0 = λ u. ParsesSigned w64 10 u c.parse.result in
    let Q : Option ℤ → Type 0 = λ o. MatchOption o (FitsSigned w64 (signed_digits_value 10 c.args.bytes.now) → ⊥) (λ n. FitsSigned w64 (signed_digits_value 10 c.args.bytes.now) × (n ≡ signed_digits_value 10 c.args.bytes.now)) in
    subst Q (sym c.ok.ensures.value) (parsed c.args.bytes.now c.parse.result c.requires (subst P c.in-Ok.ensures.cases.0 c.parse.ensures.value.0))
