-- A word that was read is read again from its own text.
use Rattle.std.proofs.Common.{◌≡◌, ℕ, zero, suc, ◌+◌, ◌*◌, ◌-◌, ◌/◌, ◌%◌, ◌<◌, ◌≤◌, Bool, false, List, [], ◌∷◌, length, get_or, refl, ap, sym, ◌∙◌, inl, inr, arith}
use Rattle.std.proofs.lemmas.Bool.{cases_lt}
use Rattle.std.proofs.lemmas.Nat.{mul-le}
use Rattle.lucy_token.specs.declared.token.Kind.{Kind}
use Rattle.lucy_token.specs.declared.token.What.{What}
use Rattle.lucy_token.specs.declared.token.What.TheVariants as what
use Rattle.lucy_token.specs.Written.{IsWritten}
use Rattle.lucy_token.specs.Spelled.{IsSpelled}
use Rattle.lucy_word.specs.Bits.{Bits, bit_at, ones_in, bit_count}
use Rattle.lucy_word.specs.Spelling.{text_of}
use Rattle.lucy_word.specs.Shortest.{Same, IsShortForm}
use Rattle.lucy_word.specs.Reading.{IsReadable}
use Rattle.lucy_word.proofs.BitsLaws.{bit_at-prefix, bit_at-period, bit_at-turn}
use Rattle.lucy_word.proofs.RunLaws.{text_spells}
use Rattle.lucy_word.proofs.ShortLaws.{same_sym, one_by_same}

-- the bits at so many instants from one on
bits_from : Bits → ℕ → ℕ → List Bool
bits_from w i zero = []
bits_from w i (suc n) = bit_at w i ∷ bits_from w (suc i) n

length-bits_from : (w : Bits) (i n : ℕ) → length (bits_from w i n) ≡ n
unfolding bits_from
length-bits_from w i zero = refl
length-bits_from w i (suc n) = ap suc (length-bits_from w (suc i) n)

get_or-bits_from : (w : Bits) (i n k : ℕ) → k < n → get_or (bits_from w i n) k false ≡ bit_at w (i + k)
unfolding bits_from
get_or-bits_from w i zero k h = absurd (omega (arith, h))
get_or-bits_from w i (suc n) zero h = ap (bit_at w) (let e : i ≡ i + 0 = omega arith in e)
get_or-bits_from w i (suc n) (suc k) h = get_or-bits_from w (suc i) n k (omega (arith, h)) ∙ ap (bit_at w) (let e : suc i + k ≡ i + suc k = omega arith in e)

-- what comes again after a turn comes again after many
turns : (f : ℕ → Bool) (p : ℕ) → ((j : ℕ) → f (j + p) ≡ f j) → (k j : ℕ) → f (j + k * p) ≡ f j
turns f p again zero j = ap f (let e : j + 0 * p ≡ j = omega arith in e)
turns f p again (suc k) j = ap f (let e : j + suc k * p ≡ j + k * p + p = omega arith in e) ∙ again (j + k * p) ∙ turns f p again k j

module _ (bits w : Bits) (some : 0 < length bits.period) (form : IsShortForm bits w) where
  -- past the prefix that was given, the bits come again after the shortest period
  past : ℕ → Bool
  past j = bit_at w (length bits.prefix + 1 + j)

  past_given : (j : ℕ) → past j ≡ bit_at bits (length bits.prefix + 1 + j)
  unfolding past
  past_given j = sym (form.same (length bits.prefix + 1 + j) (omega arith))

  past_turn : (j : ℕ) → past (j + length bits.period) ≡ past j
  past_turn j =
      past_given (j + length bits.period)
      ∙ ap (bit_at bits) (let e : length bits.prefix + 1 + (j + length bits.period) ≡ length bits.prefix + 1 + j + length bits.period = omega arith in e)
      ∙ bit_at-turn bits (length bits.prefix + 1 + j) (omega arith) ∙ sym (past_given j)

  far_turn : (j : ℕ) → length w.prefix ≤ j → past (j + length w.period) ≡ past j
  unfolding past
  far_turn j h =
      ap (bit_at w) (let e : length bits.prefix + 1 + (j + length w.period) ≡ length bits.prefix + 1 + j + length w.period = omega arith in e)
      ∙ bit_at-turn w (length bits.prefix + 1 + j) (omega (arith, h))

  short_turn : (j : ℕ) → past (j + length w.period) ≡ past j
  short_turn j =
      let k : ℕ = length w.prefix in
      let far : k ≤ k * length bits.period = omega (arith, mul-le k 1 k (length bits.period) (omega arith) some) in
      let n : ℕ = k * length bits.period in
      sym (turns past (length bits.period) past_turn k (j + length w.period))
      ∙ ap past (let e : j + length w.period + n ≡ j + n + length w.period = omega arith in e)
      ∙ far_turn (j + n) (omega (arith, far)) ∙ turns past (length bits.period) past_turn k j

  -- the same word with the prefix that was given and the shortest period
  middle : Bits
  middle = record { prefix = bits.prefix; period = bits_from w (length bits.prefix + 1) (length w.period) }

  past_part : (j : ℕ) → past (j % length w.period) ≡ past j
  past_part j =
      let p : ℕ = length w.period in
      sym (turns past p short_turn (j / p) (j % p)) ∙ ap past (let e : j % p + j / p * p ≡ j = omega (arith, form.nonempty) in e)

  middle_same : Same w middle
  unfolding middle past
  middle_same i h =
      elim (cases_lt (length bits.prefix) i) [
        | inr within ↦ sym (form.same i h) ∙ bit_at-prefix bits i within ∙ sym (bit_at-prefix middle i within)
        | inl behind ↦
            let p : ℕ = length w.period in
            let j : ℕ = i - length bits.prefix - 1 in
            let at : length bits.prefix + 1 + j ≡ i = omega (arith, behind) in
            let part : j % p < p = omega (arith, form.nonempty) in
            sym
            (bit_at-period middle i behind
            ∙ ap (λ n. get_or (bits_from w (length bits.prefix + 1) p) (j % n) false) (length-bits_from w (length bits.prefix + 1) p)
            ∙ get_or-bits_from w (length bits.prefix + 1) p (j % p) part
            ∙ past_part j ∙ ap (bit_at w) at)
      ]

  no_longer : bit_count w ≤ bit_count bits
  unfolding middle
  no_longer =
      omega (
        arith,
        form.shortest.period bits some form.same,
        form.shortest.prefix middle (length-bits_from w (length bits.prefix + 1) (length w.period)) (same_sym w middle middle_same),
      )

period_some : (v : List Bool) → 0 < ones_in v → 0 < length v
period_some [] h = h
period_some (b ∷ v) h = omega arith

pub readable_again : (bytes : List ℕ) (w : Bits) → IsReadable bytes w → IsReadable (text_of w) w
readable_again bytes w r =
    let bits : Bits = r.0 in
    let form : IsShortForm bits w = r.4 in
    let short : bit_count w ≤ bit_count bits = no_longer bits w (period_some bits.period r.3) form in (
      w,
      text_spells w (omega (arith, short, r.2)) (omega (arith, short, r.2)) form.nonempty,
      omega (arith, short, r.2),
      one_by_same bits w form.same form.nonempty r.3,
      record { nonempty = form.nonempty; same = λ i h. refl; shortest = form.shortest },
    )

-- what stands in a text can be read again from how it is printed
pub spelled_again : (before : Kind) (w : What) → IsWritten before w → IsSpelled before w
spelled_again before (what.Mark m) h = tt
spelled_again before (what.Name bytes) h = h
spelled_again before (what.Number n) h = h
spelled_again before (what.Word w) h = (readable_again h.1.0 w h.1.1.0, h.1.1.1)
