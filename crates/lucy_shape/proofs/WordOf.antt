-- The word that is written from positions has its ones there.
use Rattle.std.proofs.Common.{ℤ, ◌≡◌, ℕ, ◌+◌, ◌-◌, ◌*◌, ◌/◌, ◌%◌, ◌<◌, ◌≤◌, zero, suc, length, get_or, List, Bool, true, false, cond, inl, inr, sym, ap, ◌∙◌, refl, arith}
use Rattle.std.proofs.lemmas.Bool.{cases_lt, cases_Bool}
use Rattle.std.proofs.lemmas.List.FromFn.{length-map-range_with_len, get_or-map-range_with_len}
use Rattle.std.proofs.lemmas.List.Sums.{get_or-le-sum_by}
use Rattle.lucy_word.specs.Bits.{Bits, bit_count, bit_at, one_if, ones_to, ones_in}
use Rattle.lucy_word.proofs.BitsLaws.{bit_at-prefix, bit_at-period, ones_to-none, ones_to-more}
use Rattle.lucy_shape.proofs.Indexes.{one_index}
use Rattle.lucy_shape.proofs.WordIndex.{index_with_one}
use Rattle.lucy_shape.proofs.PositionWord.{found, finds, climbs, position_turn, position_index, CountsAt}
use Rattle.lucy_shape.specs.Index.{Recurs, index_of}
use Rattle.lucy_shape.specs.Laws.{WordLaw}
use Rattle.lucy_shape.specs.declared.shape.ClockShape.{ClockShape}
use Rattle.lucy_shape.specs.WordOf.{positions_of, written_word, at_position, word_at}

here : (ℕ → ℕ) → ℕ → Bool
here X i = at_position X i i

-- the bit at any instant
turned : (X : ℕ → ℕ) (n q P : ℕ) → X 0 ≡ 0 → ((m : ℕ) → X m < X (m + 1)) → Recurs X n q P → (f i : ℕ) → X (n + 1) ≤ i → at_position X (i + f * P) (i + f * P) ≡ at_position X i i
turned X n q P x up fits zero i l = let e : i + zero * P ≡ i = omega arith in ap (λ k. at_position X k k) e
turned X n q P x up fits (suc f) i l =
    let a = turned X n q P x up fits f i l in
    let e : i + suc f * P ≡ i + f * P + P = omega arith in
    ap (λ k. at_position X k k) e ∙ position_turn X n q P x up fits (i + f * P) (omega arith) ∙ a

bit_is : (X : ℕ → ℕ) (n q P : ℕ) → 0 < P → X 0 ≡ 0 → ((m : ℕ) → X m < X (m + 1)) → Recurs X n q P → (i : ℕ) → 0 < i → bit_at (word_at X n P) i ≡ at_position X i i
bit_is X n q P some x up fits i pos' =
    let w = word_at X n P in
    let first : 0 < X (n + 1) = let a = climbs X up 0 (n + 1) in let b : X (0 + (n + 1)) ≡ X (n + 1) = ap X (omega arith) in omega arith in
    let lp : length w.prefix ≡ X (n + 1) - 1 = length-map-range_with_len (λ i. at_position X i i) 1 (X (n + 1) - 1) in
    let ll : length w.period ≡ P = length-map-range_with_len (λ i. at_position X i i) (X (n + 1)) P in
    elim (cases_lt (length w.prefix) i) [
      | inr l ↦ bit_at-prefix w i l ∙ get_or-map-range_with_len (λ i. at_position X i i) 1 (X (n + 1) - 1) (i - 1) i false (omega arith) (omega arith)
      | inl l ↦
          let k = i - length w.prefix - 1 in
          let lt : k % P < P = omega arith in
          let e : k / P * P + k % P ≡ k = omega arith in
          let a : get_or w.period (k % length w.period) false ≡ get_or w.period (k % P) false = ap (λ m. get_or w.period (k % m) false) ll in
          let b : get_or w.period (k % P) false ≡ at_position X (X (n + 1) + k % P) (X (n + 1) + k % P) = get_or-map-range_with_len (λ i. at_position X i i) (X (n + 1)) P (k % P) (X (n + 1) + k % P) false lt refl in
          let c = turned X n q P x up fits (k / P) (X (n + 1) + k % P) (omega arith) in
          let d : X (n + 1) + k % P + k / P * P ≡ i = omega arith in
          bit_at-period w i l ∙ a ∙ b ∙ sym c ∙ ap (λ k. at_position X k k) d
    ]

counts_at : (X : ℕ → ℕ) (w : Bits) → ((m : ℕ) → X m < X (m + 1)) → ((i : ℕ) → 0 < i → bit_at w i ≡ at_position X i i) → CountsAt (ones_to w) X
counts_at X w up is i = elim (cases_Bool (at_position X (i + 1) (i + 1))) [
  | inl t ↦ let a = ones_to-more w i in
      let b : one_if (bit_at w (i + 1)) ≡ one_if true = ap one_if (is (i + 1) (omega arith) ∙ t) in
      let c : one_if true ≡ 0 + 1 = refl in
      inl (found X (i + 1) (i + 1) t, omega arith)
  | inr t ↦ let a = ones_to-more w i in
      let b : one_if (bit_at w (i + 1)) ≡ one_if false = ap one_if (is (i + 1) (omega arith) ∙ t) in
      let c : one_if false ≡ 0 + 0 = refl in
      inr (
        λ m e. let d = climbs X up 0 m in let f : X (0 + m) ≡ X m = ap X (omega arith) in
            let g : at_position X (i + 1) (i + 1) ≡ true = finds X (i + 1) (i + 1) m (omega arith) e in (cc (t, g)),
        omega arith,
      )
]

pub word_law : WordLaw
word_law X n q P some x up fits =
    let w = word_at X n P in
    let is = bit_is X n q P some x up fits in
    let index = position_index (ones_to w) X (ones_to-none w) x up (counts_at X w up is) in
    let ll : length w.period ≡ P = length-map-range_with_len (λ i. at_position X i i) (X (n + 1)) P in
    let a = get_or-le-sum_by (λ b. cond b 1 0) w.period 0 false (omega arith) in
    let b : get_or w.period 0 false ≡ true = get_or-map-range_with_len (λ i. at_position X i i) (X (n + 1)) P 0 (X (n + 1)) false some (omega arith)
    ∙ finds X (X (n + 1)) (X (n + 1)) (n + 1) (let c = climbs X up 0 (n + 1) in let d : X (0 + (n + 1)) ≡ X (n + 1) = ap X (omega arith) in omega arith) refl in
    let c : cond (get_or w.period 0 false) 1 0 ≡ 0 + 1 = ap (λ b. cond b 1 0) b in
    let one : 0 < ones_in w.period = omega arith in
    (one, one_index (ones_to w) (index_of w) X (index_with_one w one) index)

-- how many bits the word of a clock is written with
pub written_bits : (P : ℕ) (c : ClockShape) (xs : List ℤ) → bit_count (written_word P c xs) ≡ positions_of P c xs (c.lead + 1) - 1 + P
written_bits P c xs =
    let X = positions_of P c xs in
    let a = length-map-range_with_len (λ i. at_position X i i) 1 (X (c.lead + 1) - 1) in
    let b = length-map-range_with_len (λ i. at_position X i i) (X (c.lead + 1)) P in
    omega arith
