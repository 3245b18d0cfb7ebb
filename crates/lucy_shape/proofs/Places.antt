-- Words and the places of their ones.
use Rattle.std.proofs.Common.{◌≡◌, ℕ, ◌+◌, ◌-◌, ◌*◌, ◌<◌, ◌≤◌, max, true, false, zero, suc, length, inl, inr, sym, ap, ◌∙◌, subst, arith}
use Rattle.std.proofs.lemmas.Bool.{cases_lt}
use Rattle.std.proofs.Math.Nat.{eq_of_mul-eq-mul_right}
use Rattle.lucy_word.specs.Bits.{Bits, bit_at, one_if, ones_to, ones_in, IsWord}
use Rattle.lucy_word.specs.Sampling.{bit_on}
use Rattle.lucy_word.specs.Shortest.{Same}
use Rattle.lucy_word.specs.Adaptable.{SameRate}
use Rattle.lucy_word.proofs.BitsLaws.{ones_to-none, ones_to-more, same_bit}
use Rattle.lucy_word.proofs.IndexLaws.{ones_to-same}
use Rattle.lucy_word.proofs.OnLaws.{always_count, count_on}
use Rattle.lucy_shape.proofs.Indexes.{one_index, index_turn, rate, fits_later}
use Rattle.lucy_shape.proofs.WordIndex.{word_index, word_rises, word_turns}
use Rattle.lucy_shape.specs.Index.{Recurs, index_of}
use Rattle.lucy_shape.specs.Turning.{ones_on}
use Rattle.lucy_word.specs.Always.{always}

-- each one stands later than the one before
pub index_rises : (w : Bits) → IsWord w → (m : ℕ) → index_of w m < index_of w (m + 1)
index_rises w is m =
    let law = word_index w is in
    elim (cases_lt (index_of w m) (index_of w (m + 1))) [
      | inl less ↦ less
      | inr more ↦
          let i = index_of w m in
          let many : m + 1 ≤ ones_to w i = law.there (m + 1) i more in
          elim (cases_lt 0 i) [
            | inr none ↦
                let z : ones_to w i ≡ ones_to w 0 = ap (ones_to w) (omega arith) in
                let n = ones_to-none w in
                absurd (omega arith)
            | inl some ↦
                let before : ones_to w (i - 1) < m = elim (cases_lt (ones_to w (i - 1)) m) [ inl l ↦ l | inr l ↦ let f = law.first m (i - 1) l in absurd (omega arith) ] in
                let step = ones_to-more w (i - 1) in
                let e : ones_to w (i - 1 + 1) ≡ ones_to w i = ap (ones_to w) (omega arith) in
                let one : one_if (bit_at w (i - 1 + 1)) ≤ 1 = elim (bit_at w (i - 1 + 1)) as (λ b. one_if b ≤ 1) [ true ↦ omega arith | false ↦ omega arith ] in
                absurd (omega arith)
          ]
    ]

pub index_some : (w : Bits) → IsWord w → (m : ℕ) → 0 < m → 0 < index_of w m
index_some w is m some =
    let a = index_rises w is (m - 1) in
    let e : index_of w (m - 1 + 1) ≡ index_of w m = ap (index_of w) (omega arith) in
    omega arith

-- the ones of a word that always ticks
pub index_always : (w : Bits) → Same w always → IsWord w → (k : ℕ) → index_of w k ≡ k
index_always w same is k =
    let count : (i : ℕ) → ones_to w i ≡ i = λ i. let a = ones_to-same w always i same in let b = always_count i in omega arith in
    one_index (ones_to w) (index_of w) (λ k. k) (word_index w is) (record {
      there = λ k i h. let a = count i in omega arith;
      first = λ k i h. let a = count i in omega arith;
    }) k

-- the bits of terms with the same counts are the same
pub same_bits : (a u b v : Bits) → ((i : ℕ) → ones_on a u i ≡ ones_on b v i) → (i : ℕ) → 0 < i → bit_on a u i ≡ bit_on b v i
same_bits a u b v same i some =
    let P : ℕ → Type 0 = λ k. bit_on a u k ≡ bit_on b v k in
    let x = same (i - 1) in
    let y = same (i - 1 + 1) in
    let p = count_on a u (i - 1) in
    let q = count_on b v (i - 1) in
    subst P (let e : i - 1 + 1 ≡ i = omega arith in e) (same_bit (bit_on a u (i - 1 + 1)) (bit_on b v (i - 1 + 1)) (omega arith))

-- and same bits have the same counts
pub same_counts : (a u b v : Bits) → ((i : ℕ) → 0 < i → bit_on a u i ≡ bit_on b v i) → (i : ℕ) → ones_on a u i ≡ ones_on b v i
same_counts a u b v same zero =
    let p = ones_to-none a in
    let q = ones_to-none b in
    let x = ones_to-none u in
    let y = ones_to-none v in
    ap (ones_to u) p ∙ x ∙ sym y ∙ ap (ones_to v) (sym q)
same_counts a u b v same (suc i) =
    let r = same_counts a u b v same i in
    let p = count_on a u i in
    let q = count_on b v i in
    let s : one_if (bit_on a u (i + 1)) ≡ one_if (bit_on b v (i + 1)) = ap one_if (same (i + 1) (omega arith)) in
    let e : ones_on a u (suc i) ≡ ones_on a u (i + 1) = ap (ones_on a u) (omega arith) in
    let f : ones_on b v (suc i) ≡ ones_on b v (i + 1) = ap (ones_on b v) (omega arith) in
    omega arith

-- words whose indexes come again after as many ones and as many instants have one rate
pub one_rate : (x y : Bits) (h l Q P : ℕ) → 0 < P → IsWord x → IsWord y → Recurs (index_of x) h Q P → Recurs (index_of y) l Q P → SameRate x y
one_rate x y h l Q P some of_x of_y f g =
    let turn : (z : Bits) (k : ℕ) → IsWord z → Recurs (index_of z) k Q P → ones_in z.period * P ≡ Q * length z.period = λ z k is fits.
    (let past = index_turn (ones_to z) (index_of z) (length z.prefix) (length z.period) (ones_in z.period) (word_index z is) (word_rises z) (word_turns z) in
    let h = max k (ones_to z (length z.prefix)) in
    rate (index_of z) h Q P (ones_in z.period) (length z.period) (fits_later (index_of z) k h Q P (omega arith) fits)
    (λ m l. past m (omega arith))) in
    let a = turn x h of_x f in
    let b = turn y l of_y g in
    let c : ones_in x.period * P * length y.period ≡ Q * length x.period * length y.period = ap (λ n. n * length y.period) a in
    let d : ones_in y.period * P * length x.period ≡ Q * length y.period * length x.period = ap (λ n. n * length x.period) b in
    eq_of_mul-eq-mul_right P some (ones_in x.period * length y.period) (ones_in y.period * length x.period) (omega arith)
