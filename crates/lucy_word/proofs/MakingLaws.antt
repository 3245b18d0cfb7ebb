-- Bits have one answer: the word in shortest form, or one refusal.
use Rattle.std.specs.Prelude.{◌≡◌, Result, Ok, Err}
use Rattle.std.proofs.Common.{ap, refl, arith}
use Rattle.lucy_word.specs.Bits.{Bits}
use Rattle.lucy_word.specs.Making.{IsMade, Unmakes, Makes}
use Rattle.lucy_word.specs.declared.error.WordError.{WordError}
use Rattle.lucy_word.specs.declared.error.WordError.TheVariants.{BadWord, TooLong, NoOne, OutOfMemory}
use Rattle.lucy_word.proofs.ShortLaws.{short_form_one}

unmakes_one : (bits : Bits) (e f : WordError) → Unmakes bits e → Unmakes bits f → e ≡ f
unmakes_one bits (BadWord p) f h k = absurd h
unmakes_one bits OutOfMemory f h k = absurd h
unmakes_one bits e (BadWord p) h k = absurd k
unmakes_one bits e OutOfMemory h k = absurd k
unmakes_one bits TooLong TooLong h k = refl
unmakes_one bits TooLong NoOne h k = absurd (omega (arith, k.0))
unmakes_one bits NoOne TooLong h k = absurd (omega (arith, h.0))
unmakes_one bits NoOne NoOne h k = refl

made_or_not : (bits w : Bits) (e : WordError) → IsMade bits w → Unmakes bits e → ⊥
made_or_not bits w (BadWord p) h k = k
made_or_not bits w OutOfMemory h k = k
made_or_not bits w TooLong h k = omega (arith, h.short)
made_or_not bits w NoOne h k = omega (arith, h.has_one, k.1)

pub makes_one : (bits : Bits) (a b : Result Bits WordError) → Makes bits a → Makes bits b → a ≡ b
makes_one bits (Ok v) (Ok w) h k = ap (λ u. Ok u) (short_form_one bits v w h.form k.form)
makes_one bits (Ok v) (Err f) h k = absurd (made_or_not bits v f h k)
makes_one bits (Err e) (Ok w) h k = absurd (made_or_not bits w e k h)
makes_one bits (Err e) (Err f) h k = ap (λ u. Err u) (unmakes_one bits e f h k)
