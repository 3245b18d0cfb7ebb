-- What a walk along a word gives.
use Rattle.std.proofs.Common.{ℕ, Bool, true, false, ◌+◌, ◌<◌, ◌≡◌, ap, sym, refl, ◌∙◌, arith}
use mir.Val.{bool_byte}
use Rattle.lucy_word.specs.Bits.{Bits, bit_at, one_if, ones_to}
use Rattle.lucy_word.proofs.BitsLaws.{ones_to-more}

-- a walk that has left i bits of the word behind
abbrev pub Ahead : Bits → Bits → ℕ → Type 0
Ahead w walk i = (j : ℕ) → 0 < j → bit_at walk j ≡ bit_at w (i + j)

pub ahead_none : (w walk : Bits) → walk ≡ w → Ahead w walk 0
ahead_none w walk e j some = ap (λ u. bit_at u j) e ∙ ap (bit_at w) (let f : j ≡ 0 + j = omega arith in f)

-- one instant more of a walk
pub ahead_more : (w walk on : Bits) (i : ℕ) → Ahead w walk i → ((j : ℕ) → 0 < j → bit_at on j ≡ bit_at walk (j + 1)) → Ahead w on (i + 1)
ahead_more w walk on i h more j some =
    more j some ∙ h (j + 1) (omega arith) ∙ ap (bit_at w) (let e : i + (j + 1) ≡ i + 1 + j = omega arith in e)

byte_one_if : (bit : Bool) → bool_byte bit ≡ one_if bit
byte_one_if true = refl
byte_one_if false = refl

-- the ones of the word with the bit that the walk gives, as a number
pub counted : (w walk : Bits) (i n : ℕ) (bit : Bool) → Ahead w walk i → bit ≡ bit_at walk 1 → n ≡ bool_byte bit → ones_to w (i + 1) ≡ ones_to w i + n
counted w walk i n bit h e f =
    ones_to-more w i ∙ ap (λ b. ones_to w i + one_if b) (sym (e ∙ h 1 (omega arith))) ∙ ap (λ m. ones_to w i + m) (sym (f ∙ byte_one_if bit))
