-- Laws of sampling: what a clock on a clock is does not depend on how words are given; (1) on a clock, a clock on (1), on a
-- turned clock, and on a clock on a clock; and each clock on a clock is a word.
use Rattle.std.proofs.Common.{ℕ, zero, suc, ◌+◌, ◌-◌, ◌*◌, ◌/◌, ◌%◌, ◌<◌, ◌≡◌, max, true, false, not, ◌&&◌, [], ◌∷◌, map, length, get_or, ap, sym, refl, ◌∙◌, subst, inl, inr, arith}
use Rattle.std.specs.List.{range_with_len}
use Rattle.std.proofs.lemmas.Bool.{cases_Bool, and_left}
use Rattle.std.proofs.lemmas.List.FromFn.{length-map-range_with_len, get_or-map-range_with_len}
use Rattle.lucy_word.specs.Bits.{Bits, bit_at, one_if, ones_to, ones_in, IsWord}
use Rattle.lucy_word.specs.Shortest.{Same, IsShortest}
use Rattle.lucy_word.specs.Stored.{IsStored}
use Rattle.lucy_word.specs.Sampling.{bit_on, IsOn, IsOnNot, AreComputedLengths}
use Rattle.lucy_word.specs.Complement.{turned}
use Rattle.lucy_word.specs.Always.{always}
use Rattle.lucy_word.proofs.BitsLaws.{bit_at-period, period_some, ones_to-none, ones_to-more}
use Rattle.lucy_word.proofs.IndexLaws.{ones_to-one, ones_to-same, IsIndex-some}
use Rattle.lucy_word.proofs.SamplingLaws.{ones_to-on, IsOn-from, IsWord-on, AreComputedLengths-some}
use Rattle.lucy_word.proofs.ComplementLaws.{bit_at-turned}
use Rattle.lucy_word.proofs.Multiples.{lcm_exists}

pub same_self : (w : Bits) → Same w w
same_self w i h = refl

-- (1) has a one at each instant, is a word, and is in shortest form
pub always_ticks : (i : ℕ) → 0 < i → bit_at always i ≡ true
always_ticks i h =
    bit_at-period always i h ∙ ap (λ k. get_or (true ∷ []) k false) (let e : (i - length always.prefix - 1) % length (true ∷ []) ≡ 0 = omega arith in e)

pub always_word : IsWord always
always_word = record { has_one = omega arith }

-- (1) is in shortest form
pub always_shortest : IsShortest always
always_shortest = record { period = λ v some same. omega (arith, some); prefix = λ v len same. omega arith }

-- and it is as words are stored
pub always_stored : IsStored always
always_stored = record { word = always_word; nonempty = omega arith; short = omega arith; shortest = always_shortest }

-- its counts are the instants
pub always_count : (i : ℕ) → ones_to always i ≡ i
always_count zero = ones_to-none always
always_count (suc i) =
    let one : one_if (bit_at always (i + 1)) ≡ 1 = ap one_if (always_ticks (i + 1) (omega arith)) in
    let e : ones_to always (suc i) ≡ ones_to always (i + 1) = ap (ones_to always) (omega arith) in
    omega (arith, always_count i, ones_to-more always i)

-- a clock on (1) is the clock
pub on_always : (a : Bits) (i : ℕ) → 0 < i → bit_on a always i ≡ bit_at a i
on_always a i h =
    elim (cases_Bool (bit_at a i)) [
      | inl one ↦
          let tick : bit_at always (ones_to a i) ≡ true = always_ticks (ones_to a i) (omega (arith, ones_to-one a i h one)) in
          ap (λ b. b && bit_at always (ones_to a i)) one ∙ tick ∙ sym one
      | inr none ↦ and_left (bit_at a i) (bit_at always (ones_to a i)) none ∙ sym none
    ]

-- (1) on a clock is the clock
pub always_on : (a w : Bits) (i : ℕ) → Same a always → 0 < i → bit_on a w i ≡ bit_at w i
always_on a w i base h =
    let count : ones_to a i ≡ i = ones_to-same a always i base ∙ always_count i in
    ap (λ b. b && bit_at w (ones_to a i)) (base i h ∙ always_ticks i h) ∙ ap (bit_at w) count

-- clocks with the same bits, on clocks with the same bits, have the same bits
pub on_same : (a b u v : Bits) (i : ℕ) → Same a b → Same u v → 0 < i → bit_on a u i ≡ bit_on b v i
on_same a b u v i same of_word h =
    elim (cases_Bool (bit_at a i)) [
      | inl one ↦
          let counts : ones_to a i ≡ ones_to b i = ones_to-same a b i same in
          ap (λ x. x && bit_at u (ones_to a i)) (same i h)
          ∙ ap (λ x. bit_at b i && x) (of_word (ones_to a i) (omega (arith, ones_to-one a i h one)) ∙ ap (bit_at v) counts)
      | inr none ↦ and_left (bit_at a i) (bit_at u (ones_to a i)) none ∙ sym (and_left (bit_at b i) (bit_at v (ones_to b i)) (sym (same i h) ∙ none))
    ]

pub on_base : (a b u w : Bits) → Same a b → IsOn a u w → IsOn b u w
on_base a b u w same is i h = is i h ∙ on_same a b u u i same (same_self u) h

pub on_word : (a u v w : Bits) → Same u v → IsOn a u w → IsOn a v w
on_word a u v w same is i h = is i h ∙ on_same a a u v i (same_self a) same h

-- what is one clock on another are the same bits
pub on_one : (a u v w : Bits) → IsOn a u v → IsOn a u w → Same v w
on_one a u v w left right i h = left i h ∙ sym (right i h)

-- a on not b depends on the bits of a alone
pub on_not_same : (a b p : Bits) (i : ℕ) → Same a b → 0 < i → (bit_at a i && not (bit_at p (ones_to a i))) ≡ (bit_at b i && not (bit_at p (ones_to b i)))
on_not_same a b p i same h = ap (λ x. x && not (bit_at p (ones_to a i))) (same i h) ∙ ap (λ k. bit_at b i && not (bit_at p k)) (ones_to-same a b i same)

-- and is a on the turned word
pub on_turned : (a p : Bits) (i : ℕ) → 0 < length p.period → 0 < i → bit_on a (turned p) i ≡ (bit_at a i && not (bit_at p (ones_to a i)))
on_turned a p i some h =
    elim (cases_Bool (bit_at a i)) [
      | inl one ↦ ap (λ b. bit_at a i && b) (bit_at-turned p (ones_to a i) (omega (arith, ones_to-one a i h one)) some)
      | inr none ↦ and_left (bit_at a i) (bit_at (turned p) (ones_to a i)) none ∙ sym (and_left (bit_at a i) (not (bit_at p (ones_to a i))) none)
    ]

pub on_not_from : (a p w : Bits) → 0 < length p.period → IsOn a (turned p) w → IsOnNot a p w
on_not_from a p w some is i h = is i h ∙ on_turned a p i some h

pub on_not_to : (a p w : Bits) → 0 < length p.period → IsOnNot a p w → IsOn a (turned p) w
on_not_to a p w some is i h = is i h ∙ sym (on_turned a p i some h)

-- a on (b on c) is (a on b) on c
pub on_on : (a b c bc abc ab : Bits) → IsOn b c bc → IsOn a bc abc → IsOn a b ab → IsOn ab c abc
on_on a b c bc abc ab of_bc of_abc of_ab i h =
    elim (cases_Bool (bit_at a i)) [
      | inl one ↦
          let some : 0 < ones_to a i = omega (arith, ones_to-one a i h one) in
          let left : bit_at abc i ≡ (bit_at b (ones_to a i) && bit_at c (ones_to b (ones_to a i))) =
          of_abc i h ∙ ap (λ t. t && bit_at bc (ones_to a i)) one ∙ of_bc (ones_to a i) some in
          let here : bit_at ab i ≡ bit_at b (ones_to a i) = of_ab i h ∙ ap (λ t. t && bit_at b (ones_to a i)) one in
          let counts : ones_to ab i ≡ ones_to b (ones_to a i) = ones_to-on a b ab i of_ab in
          left ∙ ap (λ t. t && bit_at c (ones_to b (ones_to a i))) (sym here) ∙ ap (λ n. bit_at ab i && bit_at c n) (sym counts)
      | inr none ↦
          let off : bit_at ab i ≡ false = of_ab i h ∙ and_left (bit_at a i) (bit_at b (ones_to a i)) none in
          of_abc i h ∙ and_left (bit_at a i) (bit_at bc (ones_to a i)) none ∙ sym (and_left (bit_at ab i) (bit_at c (ones_to ab i)) off)
    ]

-- each instant of a on b adds its bit to the ones of b at the count of a
pub count_on : (a b : Bits) (i : ℕ) → ones_to b (ones_to a (i + 1)) ≡ ones_to b (ones_to a i) + one_if (bit_on a b (i + 1))
count_on a b i =
    elim (cases_Bool (bit_at a (i + 1))) [
      | inl one ↦
          let e : ones_to a (i + 1) ≡ ones_to a i + 1 = omega (arith, ones_to-more a i, ap one_if one) in
          let f : bit_on a b (i + 1) ≡ bit_at b (ones_to a i + 1) = ap (λ t. t && bit_at b (ones_to a (i + 1))) one ∙ ap (bit_at b) e in
          omega (arith, ap one_if f, ones_to-more b (ones_to a i), ap (ones_to b) e)
      | inr none ↦
          let e : ones_to a (i + 1) ≡ ones_to a i = omega (arith, ones_to-more a i, ap one_if none) in
          let f : bit_on a b (i + 1) ≡ false = and_left (bit_at a (i + 1)) (bit_at b (ones_to a (i + 1))) none in
          omega (arith, ap one_if f, ap (ones_to b) e)
    ]

-- there is a word of its computed lengths
pub on_exists : (a b : Bits) → IsWord a → IsWord b → (w : Bits) × IsOn a b w × IsWord w × AreComputedLengths a b (length w.prefix) (length w.period)
on_exists a b of_a of_b =
    let place = IsIndex-some a (length b.prefix) of_a in
    let common = lcm_exists (ones_in a.period) (length b.period) of_a.has_one (period_some b of_b) in
    let p : ℕ = max (length a.prefix) place.0 in
    let n : ℕ = common.0 / ones_in a.period * length a.period in
    let lengths : AreComputedLengths a b p n = record { place = place.0; last_read = place.1; of_prefix = refl; ones = common.0; common = common.1; of_period = refl } in
    let w : Bits = record { prefix = map (λ i. bit_on a b i) (range_with_len 1 p); period = map (λ i. bit_on a b i) (range_with_len (p + 1) n) } in
    let of_prefix : length w.prefix ≡ p = length-map-range_with_len (λ i. bit_on a b i) 1 p in
    let of_period : length w.period ≡ n = length-map-range_with_len (λ i. bit_on a b i) (p + 1) n in
    let P : ℕ → Type 0 = λ k. AreComputedLengths a b k n in
    let Q : ℕ → Type 0 = λ k. AreComputedLengths a b (length w.prefix) k in
    let are : AreComputedLengths a b (length w.prefix) (length w.period) = subst Q (sym of_period) (subst P (sym of_prefix) lengths) in
    let some : 0 < length w.period = omega (arith, AreComputedLengths-some a b p n lengths of_a) in
    let on : IsOn a b w = IsOn-from a b w are some
    (λ k h. get_or-map-range_with_len (λ i. bit_on a b i) 1 p k (k + 1) false (omega arith) (omega arith))
    (λ k h. get_or-map-range_with_len (λ i. bit_on a b i) (p + 1) n k (length w.prefix + (k + 1)) false (omega arith) (omega arith)) in
    (w, on, IsWord-on a b w on of_a of_b some, are)

-- so each clock on a clock is a word
pub on_some : (a b : Bits) → IsWord a → IsWord b → (w : Bits) × IsOn a b w × IsWord w
on_some a b of_a of_b = (let found = on_exists a b of_a of_b in (found.0, found.1, found.2))
