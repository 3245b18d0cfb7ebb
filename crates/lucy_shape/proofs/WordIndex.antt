-- The places of the ones of a word, and of the ones of a need.
use Rattle.std.proofs.Common.{◌≡◌, ℕ, ◌+◌, ◌-◌, ◌*◌, ◌<◌, ◌≤◌, length, ap, ◌∙◌, subst, arith}
use Rattle.std.proofs.Math.Nat.{mul-le-mul_left}
use Rattle.lucy_word.specs.Bits.{Bits, ones_to, ones_in, IsWord}
use Rattle.lucy_word.proofs.BitsLaws.{ones_to-turn, ones_to-turns}
use Rattle.lucy_shape.proofs.Indexes.{has_index, indexes, on_index, need_exact, IsSide}
use Rattle.lucy_shape.specs.Index.{Recurs, index_of}
use Rattle.lucy_shape.specs.Laws.{IsSideOf, NeedLaw, PlaceLaw}
use Rattle.lucy_word.specs.Index.{IsIndex}
use Rattle.lucy_word.proofs.IndexLaws.{IsIndex-some, IsIndex-behind}
use Rattle.lucy_word.proofs.ShortLaws.{ones_to-later}
use Rattle.lucy_shape.specs.Turning.{IsInverse, Rises, Turns, ones_on}

pub word_rises : (w : Bits) → Rises (ones_to w)
word_rises w i j h = let a = ones_to-later w i (j - i) in let b : ones_to w (i + (j - i)) ≡ ones_to w j = ap (ones_to w) (omega arith) in omega arith

pub word_turns : (w : Bits) → Turns (ones_to w) (length w.prefix) (length w.period) (ones_in w.period)
word_turns w i h =
    let a = ones_to-turn w (i - length w.prefix) in
    let same : length w.prefix + (i - length w.prefix) ≡ i = omega arith in
    let b : ones_to w (length w.prefix + (i - length w.prefix)) ≡ ones_to w i = ap (ones_to w) same in
    let c : ones_to w (length w.prefix + (i - length w.prefix) + length w.period) ≡ ones_to w (i + length w.period) = ap (λ k. ones_to w (k + length w.period)) same in
    omega arith

enough : (w : Bits) → 0 < ones_in w.period → (k : ℕ) → k ≤ ones_to w (length w.prefix + k * length w.period)
enough w h k =
    let a = ones_to-turns w 0 k in
    let b : ones_to w (length w.prefix + 0 + k * length w.period) ≡ ones_to w (length w.prefix + k * length w.period) = ap (λ l. ones_to w (l + k * length w.period)) (omega arith) in
    let one : 1 ≤ ones_in w.period = h in
    let c : k * 1 ≤ k * ones_in w.period = mul-le-mul_left k one in
    omega arith

pub index_with_one : (w : Bits) → 0 < ones_in w.period → IsInverse (ones_to w) (index_of w)
index_with_one w h = has_index (ones_to w) (λ k. length w.prefix + k * length w.period) (word_rises w) (enough w h)

pub word_index : (w : Bits) → IsWord w → IsInverse (ones_to w) (index_of w)
word_index w h = index_with_one w h.has_one

-- the place of a one is its index
pub place_is : (w : Bits) (k i : ℕ) → IsWord w → IsIndex w k i → i ≡ index_of w k
place_is w k i word is =
    let law = word_index w word in
    let a = law.first k i (let e = is.there in omega arith) in
    let b = IsIndex-behind w k i (index_of w k) is (law.there k (index_of w k) (omega arith)) in
    omega arith

pub place_law : PlaceLaw
place_law w k is =
    let found = IsIndex-some w k is in
    subst (λ (i : ℕ). IsIndex w k i) (place_is w k found.0 is found.1) found.1

-- the place of the ones before the first is 0
pub index_none : (w : Bits) → IsWord w → index_of w 0 ≡ 0
index_none w h = let a = (word_index w h).first 0 0 (omega arith) in omega arith

side : (a u : Bits) (n q P Q : ℕ) → IsWord a → IsWord u → (s : IsSideOf q Q u) → Recurs (index_of a) n q P →
    IsSide (ones_to u) (index_of u) (index_of a) (ones_to a) n (length u.prefix) (length u.period) (ones_in u.period) q P Q s.times
side a u n q P Q h k s f = record {
  index = word_index u k;
  clock = word_index a h;
  rises = word_rises u;
  turns = word_turns u;
  fits = f;
  whole = s.whole;
  instances = s.some;
}

pub need_law : NeedLaw
need_law a u b w n m q r P Q ha hu hb hw some s t f g = (
  λ h k l e. indexes (ones_on a u) (λ k. index_of a (index_of u k)) (ones_on b w) (λ k. index_of b (index_of w k))
      (on_index (ones_to a) (index_of a) (ones_to u) (index_of u) (word_index a ha) (word_index u hu))
      (on_index (ones_to b) (index_of b) (ones_to w) (index_of w) (word_index b hb) (word_index w hw)) h k,
  λ h. need_exact (ones_to u) (index_of u) (index_of a) (ones_to a) (ones_to w) (index_of w) (index_of b) (ones_to b)
      n (length u.prefix) (length u.period) (ones_in u.period) q s.times m (length w.prefix) (length w.period) (ones_in w.period) r t.times P Q some
      (side a u n q P Q ha hu s f) (side b w m r P Q hb hw t g) h
      (let x : index_of a (index_of u 0) ≡ 0 = ap (index_of a) (index_none u hu) ∙ index_none a ha in omega arith),
)
