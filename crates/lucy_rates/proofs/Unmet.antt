-- Where an assignment meets needs, they are level by the rates of its words.
use Rattle.std.proofs.Common.{◌≡◌, ℕ, ◌+◌, ◌*◌, ◌<◌, ◌≤◌, List, [], ◌∷◌, length, inl, inr, sym, ap, ◌∙◌, arith}
use Rattle.std.specs.List.{All}
use Rattle.std.proofs.lemmas.List.Elements.{All-nil, All-cons, All-from_recursion}
use Rattle.std.proofs.Math.Nat.{eq_of_mul-eq-mul_right}
use Rattle.lucy_word.specs.Bits.{Bits, IsWord, ones_to, ones_in}
use Rattle.lucy_word.specs.Sampling.{IsOn}
use Rattle.lucy_word.specs.Adaptable.{SameRate}
use Rattle.lucy_word.proofs.BitsLaws.{period_some}
use Rattle.lucy_word.proofs.IndexLaws.{ones_to-periods, ones_to-enough, ones_to-rises}
use Rattle.lucy_word.proofs.SamplingLaws.{ones_to-on}
use Rattle.lucy_word.proofs.OnLaws.{on_some}
use Rattle.lucy_word.proofs.AdaptableLaws.{adaptable_self}
use Rattle.lucy_need.specs.Meeting.{Assignment, AreWordsIn, IsWithin, Meets}
use Rattle.lucy_need.specs.Stored.{HasWords}
use Rattle.lucy_need.specs.declared.need.Term.{Term}
use Rattle.lucy_need.specs.declared.need.Need.{Need}
use Rattle.lucy_need.specs.declared.need.Need.TheVariants.{Equal, Adapt}
use Rattle.lucy_rates.specs.declared.fraction.Fraction.{Fraction}
use Rattle.lucy_rates.specs.Walks.{first_of, second_of, need_at, no_need, IsNeedWalk, UnmetLaw}
use Rattle.lucy_rates.specs.Trees.{AreEven}
use Rattle.lucy_rates.proofs.Growing.{both_within}
use Rattle.lucy_rates.proofs.Walking.{IsLevelBy, level_walk_by}
use Rattle.lucy_rates.proofs.Factoring.{product_some}

-- the rate of a word on a word is the product of theirs
on_rate : (a b w : Bits) → IsOn a b w → IsWord a → IsWord b → IsWord w → ones_in w.period * (length a.period * length b.period) ≡ ones_in a.period * ones_in b.period * length w.period
on_rate a b w on word_a word_b word_w =
    let la = length a.period in
    let lb = length b.period in
    let lw = length w.period in
    let n = length b.prefix in
    let at = length a.prefix + n * la + length w.prefix in
    let far : n ≤ ones_to a at = (let x = ones_to-enough a n word_a in let y = ones_to-rises a (length a.prefix + n * la) at (omega arith) in omega arith) in
    let of_w : ones_to w (at + la * lb * lw) ≡ ones_to w at + la * lb * ones_in w.period = ones_to-periods w at (la * lb) (omega arith) in
    let of_a : ones_to a (at + lb * lw * la) ≡ ones_to a at + lb * lw * ones_in a.period = ones_to-periods a at (lb * lw) (omega arith) in
    let of_b : ones_to b (ones_to a at + lw * ones_in a.period * lb) ≡ ones_to b (ones_to a at) + lw * ones_in a.period * ones_in b.period = ones_to-periods b (ones_to a at) (lw * ones_in a.period) far in
    let here = ones_to-on a b w at on in
    let there = ones_to-on a b w (at + la * lb * lw) on in
    let same : ones_to a (at + la * lb * lw) ≡ ones_to a at + lw * ones_in a.period * lb = ap (ones_to a) (let e : at + la * lb * lw ≡ at + lb * lw * la = omega arith in e) ∙ of_a ∙ omega arith in
    let there' : ones_to w (at + la * lb * lw) ≡ ones_to b (ones_to a at + lw * ones_in a.period * lb) = there ∙ ap (ones_to b) same in
    omega arith

-- two terms whose words have one rate
even_terms : (oa la ob lb ou lu ov lv ox lx oy ly : ℕ) → 0 < lx → 0 < ly → ox * (la * lu) ≡ oa * ou * lx → oy * (lb * lv) ≡ ob * ov * ly → ox * ly ≡ oy * lx → oa * lb * (ou * lv) ≡ ob * la * (lu * ov)
even_terms oa la ob lb ou lu ov lv ox lx oy ly some_x some_y h k e =
    let p : ox * (la * lu) * (lb * lv * ly) ≡ oa * ou * lx * (lb * lv * ly) = ap (λ z. z * (lb * lv * ly)) h in
    let q : oy * (lb * lv) * (la * lu * lx) ≡ ob * ov * ly * (la * lu * lx) = ap (λ z. z * (la * lu * lx)) k in
    let r : ox * ly * (la * lu * (lb * lv)) ≡ oy * lx * (la * lu * (lb * lv)) = ap (λ z. z * (la * lu * (lb * lv))) e in
    let s : oa * lb * (ou * lv) * (lx * ly) ≡ ob * la * (lu * ov) * (lx * ly) = omega arith in
    eq_of_mul-eq-mul_right (lx * ly) (product_some lx ly some_x some_y) (oa * lb * (ou * lv)) (ob * la * (lu * ov)) s

-- the rate of a clock's word
abbrev rate_in : Assignment → ℕ → Fraction
rate_in w c = record { num = ones_in (w c).period; den = length (w c).period }

even_words : (w : Assignment) (s t : Term) (x y : Bits) → IsWord (w s.clock) → IsWord (w t.clock) → IsWord s.word → IsWord t.word → IsWord x → IsWord y → IsOn (w s.clock) s.word x → IsOn (w t.clock) t.word y → SameRate x y →
    ones_in (w s.clock).period * length (w t.clock).period * (ones_in s.word.period * length t.word.period) ≡ ones_in (w t.clock).period * length (w s.clock).period * (length s.word.period * ones_in t.word.period)
even_words w s t x y a b u v word_x word_y on_x on_y same =
    even_terms _ _ _ _ _ _ _ _ (ones_in x.period) (length x.period) (ones_in y.period) (length y.period) (period_some x word_x) (period_some y word_y)
    (on_rate (w s.clock) s.word x on_x a u word_x) (on_rate (w t.clock) t.word y on_y b v word_y) same

even_met : (w : Assignment) (need : Need) → IsWord (w (first_of need).clock) → IsWord (w (second_of need).clock) → HasWords need → Meets w need →
    AreEven need (ones_in (w (first_of need).clock).period) (length (w (first_of need).clock).period) (ones_in (w (second_of need).clock).period) (length (w (second_of need).clock).period)
even_met w (Equal s t) a b words met =
    let x = on_some (w s.clock) s.word a words.0.word in
    let y = on_some (w t.clock) t.word b words.1.word in
    let same = adaptable_self x.0 y.0 (λ i l. x.1 i l ∙ met i l ∙ sym (y.1 i l)) in
    even_words w s t x.0 y.0 a b words.0.word words.1.word x.2 y.2 x.1 y.1 same.0
even_met w (Adapt s t) a b words met =
    even_words w s t met.first met.second a b words.0.word words.1.word met.of_first.is_word met.of_second.is_word met.of_first.on met.of_second.on met.adaptable.0

level_met : (needs : List Need) (clocks : ℕ) (w : Assignment) → All (IsWithin clocks) needs → All HasWords needs → AreWordsIn w clocks → All (Meets w) needs →
    (walk : List ℕ) (c d num den : ℕ) → IsNeedWalk needs walk c d num den → All (IsLevelBy needs (rate_in w)) walk
level_met needs clocks w within words assigned met [] c d num den h = All-nil (IsLevelBy needs (rate_in w))
level_met needs clocks w within words assigned met (m ∷ walk) c d num den h =
    let need = need_at needs m in
    let ends = both_within clocks need (within m no_need h.0) in
    let first = assigned (first_of need).clock ends.0 in
    let second = assigned (second_of need).clock ends.1 in
    let one : IsLevelBy needs (rate_in w) m = record { even = even_met w need first second (words m no_need h.0) (met m no_need h.0); first = period_some _ first; second = period_some _ second } in
    All-cons (IsLevelBy needs (rate_in w)) m walk one (level_met needs clocks w within words assigned met walk h.1.0 d h.1.3 h.1.4 h.1.6)

start_within : (needs : List Need) (clocks : ℕ) → All (IsWithin clocks) needs → (walk : List ℕ) (c d num den : ℕ) → 0 < length walk → IsNeedWalk needs walk c d num den → c < clocks
start_within needs clocks within [] c d num den l h = absurd (omega arith)
start_within needs clocks within (m ∷ walk) c d num den l h =
    let ends = both_within clocks (need_at needs m) (within m no_need h.0) in
    elim h.1.5 [ inl e ↦ (let x = e.0 in let a = ends.0 in omega arith) | inr e ↦ (let x = e.0 in let a = ends.1 in omega arith) ]

pub unmet_law : UnmetLaw
unmet_law needs clocks w walk within words assigned met h =
    let within' = All-from_recursion (IsWithin clocks) needs within in
    let level = level_walk_by needs (rate_in w) walk h.clock h.clock h.num h.den
    (level_met needs clocks w within' (All-from_recursion HasWords needs words) assigned (All-from_recursion (Meets w) needs met) walk h.clock h.clock h.num h.den h.round) h.round in
    let word = assigned h.clock (start_within needs clocks within' walk h.clock h.clock h.num h.den h.some h.round) in
    let n = ones_in (w h.clock).period in
    let d = length (w h.clock).period in
    let some : 0 < n * d = product_some n d word.has_one (period_some (w h.clock) word) in
    h.unequal (eq_of_mul-eq-mul_right (n * d) some h.num h.den (let e : n * d * h.den ≡ n * d * h.num = level in omega arith))
