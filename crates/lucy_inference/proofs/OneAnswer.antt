-- Needs have one answer: words and sizes, or one reason why there are none.
use Rattle.std.proofs.Common.{◌≡◌, ℕ, ◌+◌, ◌-◌, ◌<◌, ◌≤◌, length, List, inl, inr, sym, ap, ◌∙◌, subst, arith}
use Rattle.std.proofs.lemmas.List.{ext_get_or}
use Rattle.std.proofs.lemmas.List.Elements.{All-from_recursion}
use Rattle.lucy_word.specs.Bits.{Bits, bit_at, one_if, ones_to, IsWord, most_bits}
use Rattle.lucy_word.specs.Always.{always}
use Rattle.lucy_word.specs.Shortest.{Same, IsShortest}
use Rattle.lucy_word.specs.declared.limit.Limit.{Limit}
use Rattle.lucy_word.proofs.BitsLaws.{ones_to-more, period_some, same_bit}
use Rattle.lucy_word.proofs.IndexLaws.{IsIndex-behind, IsIndex-there}
use Rattle.lucy_word.proofs.ShortLaws.{shortest_one}
use Rattle.lucy_need.specs.Meeting.{Assignment, assigned, word_bits}
use Rattle.lucy_need.specs.declared.need.Needs.{Needs}
use Rattle.lucy_check.specs.Passing.{PassesAll, IsFirstRefusal}
use Rattle.lucy_check.specs.declared.fault.CheckFault.TheVariants as check
use Rattle.lucy_check.proofs.OneAnswer.{all_one, all_not, refusal_one}
use Rattle.lucy_shape.specs.declared.shape.Shape.{Shape}
use Rattle.lucy_shape.specs.declared.shape.RateFault.TheVariants as fault
use Rattle.lucy_shape.specs.Index.{index_of}
use Rattle.lucy_shape.specs.Fitting.{clock_at}
use Rattle.lucy_shape.proofs.WordIndex.{place_law}
use Rattle.lucy_rates.specs.Vectors.{IsShapeOf}
use Rattle.lucy_rates.proofs.OneWay.{one_walk_law}
use Rattle.lucy_rates.proofs.OneShape.{one_shape, shape_or_none, one_limit, limit_or_walk}
use Rattle.lucy_inference.specs.declared.refusal.Uninferred.{Uninferred}
use Rattle.lucy_inference.specs.declared.refusal.Uninferred.TheVariants.{Rates, Clocks, Limit as LimitPassed, OutOfMemory}
use Rattle.lucy_inference.specs.Earliest.{IsEarliestAssignment, AreEarliestWords}
use Rattle.lucy_inference.specs.Inference.{HasLongClock, IsInference}
use Rattle.lucy_inference.specs.Stages.{IsInferenceIn}
use Rattle.lucy_inference.specs.Refusals.{PassesLimitIn, HasNoClocks, RefusesIn, RefusesShape, RefusesInference, AreAlike}

-- no more ones in v than in w up to an instant, where those of w stand no later
fewer : (v w : Bits) → IsWord v → IsWord w → ((k : ℕ) → index_of v k ≡ index_of w k) → (i : ℕ) → ones_to v i ≤ ones_to w i
fewer v w is_v is_w places i =
    let k : ℕ = ones_to v i in
    let behind : index_of v k ≤ i = IsIndex-behind v k (index_of v k) i (place_law v k is_v) (omega arith) in
    IsIndex-there w k (index_of w k) i (place_law w k is_w) (omega (arith, places k))

pub same_by_places : (v w : Bits) → IsWord v → IsWord w → ((k : ℕ) → index_of v k ≡ index_of w k) → Same v w
same_by_places v w is_v is_w places i some =
    let up = fewer v w is_v is_w places in
    let down = fewer w v is_w is_v (λ k. sym (places k)) in
    let here : i - 1 + 1 ≡ i = omega arith in
    let bit : one_if (bit_at v (i - 1 + 1)) ≡ one_if (bit_at w (i - 1 + 1)) =
    omega (arith, ones_to-more v (i - 1), ones_to-more w (i - 1), up (i - 1), down (i - 1), up (i - 1 + 1), down (i - 1 + 1)) in
    subst (λ k. bit_at v k ≡ bit_at w k) here (same_bit (bit_at v (i - 1 + 1)) (bit_at w (i - 1 + 1)) bit)

-- in a shape with a clock for each of the needs
module _ (needs : Needs) (shape : Shape) (clocks : length shape.clocks ≡ needs.clocks) where
  -- two assignments that are the earliest have their ones at the same places
  places_one : (v w : Assignment) → IsEarliestAssignment needs shape v → IsEarliestAssignment needs shape w → (clock number : ℕ) → clock < needs.clocks →
      index_of (v clock) number ≡ index_of (w clock) number
  places_one v w first second clock number within = omega (arith, first.earliest w second.is clock number within, second.earliest v first.is clock number within)

  -- so one of them has a long word where the other has
  long_one : (v w : Assignment) → IsEarliestAssignment needs shape v → IsEarliestAssignment needs shape w → HasLongClock shape v → HasLongClock shape w
  long_one v w first second long =
      let within : long.0 < needs.clocks = subst (λ n. long.0 < n) clocks long.1.0 in
      let e = places_one v w first second long.0 ((clock_at shape.clocks long.0).lead + 1) within in
      (long.0, long.1, subst (λ n. most_bits < n - 1 + shape.period) e long.2)

  -- and the words are equal
  words_one : (xs ys : List Bits) → AreEarliestWords needs shape xs → AreEarliestWords needs shape ys → xs ≡ ys
  words_one xs ys first second =
      ext_get_or always xs ys (first.count ∙ sym second.count) (λ c h.
      let within : c < needs.clocks = subst (λ n. c < n) first.count h in
      let inside : c < length shape.clocks = subst (λ n. c < n) (sym clocks) within in
      let is_x : IsWord (assigned xs c) = first.earliest.is.fits.words c inside in
      let is_y : IsWord (assigned ys c) = second.earliest.is.fits.words c inside in
      let short_x : IsShortest (assigned xs c) = All-from_recursion IsShortest xs first.shortest c always h in
      let short_y : IsShortest (assigned ys c) = All-from_recursion IsShortest ys second.shortest c always (omega (arith, first.count, second.count)) in
      shortest_one (assigned xs c) (assigned ys c) short_x short_y (period_some (assigned xs c) is_x) (period_some (assigned ys c) is_y)
      (same_by_places (assigned xs c) (assigned ys c) is_x is_y (λ k. places_one (assigned xs) (assigned ys) first.earliest second.earliest c k within)))

  bits_one : (xs ys : List Bits) → AreEarliestWords needs shape xs → AreEarliestWords needs shape ys → word_bits xs ≡ word_bits ys
  bits_one xs ys first second = ap word_bits (words_one xs ys first second)

  refused_one : (xs ys : List Bits) (n m : ℕ) (l k : Limit) → AreEarliestWords needs shape xs → AreEarliestWords needs shape ys →
      IsFirstRefusal (assigned xs) needs.list (check.Limit n l) → IsFirstRefusal (assigned ys) needs.list (check.Limit m k) → l ≡ k
  refused_one xs ys n m l k first second p q =
      let e = refusal_one (assigned ys) needs.list (check.Limit n l) (check.Limit m k) (subst (λ ws. IsFirstRefusal (assigned ws) needs.list (check.Limit n l)) (words_one xs ys first second) p) q in
      cc

  refused_not : (xs ys : List Bits) (sizes : List ℕ) (n : ℕ) (l : Limit) → AreEarliestWords needs shape xs → AreEarliestWords needs shape ys →
      PassesAll (assigned xs) needs.list sizes → IsFirstRefusal (assigned ys) needs.list (check.Limit n l) → ⊥
  refused_not xs ys sizes n l first second p q =
      all_not (assigned ys) needs.list sizes (check.Limit n l) (subst (λ ws. PassesAll (assigned ws) needs.list sizes) (words_one xs ys first second) p) q

  -- one limit is passed
  limits_one : (l m : Limit) → PassesLimitIn needs shape l → PassesLimitIn needs shape m → l ≡ m
  limits_one l m (inl p) (inl q) = p.0 ∙ sym q.0
  limits_one l m (inl p) (inr (inl q)) = absurd (omega (arith, p.1, q.1.inequalities))
  limits_one l m (inl p) (inr (inr (inl q))) = absurd (omega (arith, p.1, q.1.inequalities))
  limits_one l m (inl p) (inr (inr (inr q))) = absurd (omega (arith, p.1, q.are.inequalities))
  limits_one l m (inr (inl p)) (inl q) = absurd (omega (arith, q.1, p.1.inequalities))
  limits_one l m (inr (inl p)) (inr (inl q)) = p.0 ∙ sym q.0
  limits_one l m (inr (inl p)) (inr (inr (inl q))) = absurd (q.1.short (long_one p.1.words (assigned q.1.words) p.1.earliest q.1.earliest.earliest p.1.long))
  limits_one l m (inr (inl p)) (inr (inr (inr q))) = absurd (q.are.short (long_one p.1.words (assigned q.words) p.1.earliest q.are.earliest.earliest p.1.long))
  limits_one l m (inr (inr (inl p))) (inl q) = absurd (omega (arith, q.1, p.1.inequalities))
  limits_one l m (inr (inr (inl p))) (inr (inl q)) = absurd (p.1.short (long_one q.1.words (assigned p.1.words) q.1.earliest p.1.earliest.earliest q.1.long))
  limits_one l m (inr (inr (inl p))) (inr (inr (inl q))) = p.0 ∙ sym q.0
  limits_one l m (inr (inr (inl p))) (inr (inr (inr q))) = absurd (omega (arith, p.1.many, q.are.few, bits_one p.1.words q.words p.1.earliest q.are.earliest))
  limits_one l m (inr (inr (inr p))) (inl q) = absurd (omega (arith, q.1, p.are.inequalities))
  limits_one l m (inr (inr (inr p))) (inr (inl q)) = absurd (p.are.short (long_one q.1.words (assigned p.words) q.1.earliest p.are.earliest.earliest q.1.long))
  limits_one l m (inr (inr (inr p))) (inr (inr (inl q))) = absurd (omega (arith, q.1.many, p.are.few, bits_one p.words q.1.words p.are.earliest q.1.earliest))
  limits_one l m (inr (inr (inr p))) (inr (inr (inr q))) = refused_one p.words q.words p.need q.need l m p.are.earliest q.are.earliest p.refused q.refused

  -- none where there are no clocks
  limit_or_clocks : (l : Limit) (cycle : List ℕ) → PassesLimitIn needs shape l → HasNoClocks needs shape cycle → ⊥
  limit_or_clocks l cycle (inl p) q = omega (arith, p.1, q.inequalities)
  limit_or_clocks l cycle (inr (inl p)) q = q.none p.1.words p.1.earliest.is
  limit_or_clocks l cycle (inr (inr (inl p))) q = q.none (assigned p.1.words) p.1.earliest.earliest.is
  limit_or_clocks l cycle (inr (inr (inr p))) q = q.none (assigned p.words) p.are.earliest.earliest.is

  -- and none where clocks are inferred
  limit_or_inferred : (l : Limit) (xs : List Bits) (sizes : List ℕ) → PassesLimitIn needs shape l → IsInferenceIn needs shape xs sizes → ⊥
  limit_or_inferred l xs sizes (inl p) q = omega (arith, p.1, q.are.inequalities)
  limit_or_inferred l xs sizes (inr (inl p)) q = q.are.short (long_one p.1.words (assigned xs) p.1.earliest q.are.earliest.earliest p.1.long)
  limit_or_inferred l xs sizes (inr (inr (inl p))) q = omega (arith, p.1.many, q.are.few, bits_one p.1.words xs p.1.earliest q.are.earliest)
  limit_or_inferred l xs sizes (inr (inr (inr p))) q = refused_not xs p.words sizes p.need l q.are.earliest p.are.earliest q.passes p.refused

  alike_in : (e f : Uninferred) → RefusesIn needs shape e → RefusesIn needs shape f → AreAlike e f
  alike_in (Clocks told diffs cycle) (Clocks other others round) p q = (p.0 ∙ sym q.0, p.1 ∙ sym q.1)
  alike_in (Clocks told diffs cycle) (LimitPassed l) p q = absurd (limit_or_clocks l cycle.items q p.2)
  alike_in (Clocks told diffs cycle) (Rates walk) p q = absurd q
  alike_in (Clocks told diffs cycle) OutOfMemory p q = absurd q
  alike_in (LimitPassed l) (Clocks told diffs cycle) p q = absurd (limit_or_clocks l cycle.items p q.2)
  alike_in (LimitPassed l) (LimitPassed m) p q = limits_one l m p q
  alike_in (LimitPassed l) (Rates walk) p q = absurd q
  alike_in (LimitPassed l) OutOfMemory p q = absurd q
  alike_in (Rates walk) f p q = absurd p
  alike_in OutOfMemory f p q = absurd p

  kept_in : (xs : List Bits) (sizes : List ℕ) (e : Uninferred) → IsInferenceIn needs shape xs sizes → RefusesIn needs shape e → ⊥
  kept_in xs sizes (Clocks told diffs cycle) p q = q.2.none (assigned xs) p.are.earliest.earliest.is
  kept_in xs sizes (LimitPassed l) p q = limit_or_inferred l xs sizes q p
  kept_in xs sizes (Rates walk) p q = q
  kept_in xs sizes OutOfMemory p q = q

  one_in : (xs ys : List Bits) (ss ts : List ℕ) → IsInferenceIn needs shape xs ss → IsInferenceIn needs shape ys ts → (xs ≡ ys) × (ss ≡ ts)
  one_in xs ys ss ts p q =
      let e = words_one xs ys p.are.earliest q.are.earliest in
      (e, all_one (assigned ys) needs.list ss ts (subst (λ ws. PassesAll (assigned ws) needs.list ss) e p.passes) q.passes)

-- needs that have a shape aren't refused for want of one
shape_kept : (needs : Needs) (scale lead : ℕ) (shape : Shape) (e : Uninferred) → IsShapeOf needs scale lead shape → RefusesShape needs scale lead e → ⊥
shape_kept needs scale lead shape (Rates walk) p q = let e = shape_or_none needs scale lead shape (fault.Unequal walk) p q in absurd (cc)
shape_kept needs scale lead shape (LimitPassed l) p q = let e = shape_or_none needs scale lead shape (fault.Limit l) p q in absurd (cc)
shape_kept needs scale lead shape (Clocks told diffs cycle) p q = q
shape_kept needs scale lead shape OutOfMemory p q = q

shapes_alike : (needs : Needs) (scale lead : ℕ) (e f : Uninferred) → RefusesShape needs scale lead e → RefusesShape needs scale lead f → AreAlike e f
shapes_alike needs scale lead (Rates one) (Rates two) p q = one_walk_law needs.list one.items two.items p.1 q.1
shapes_alike needs scale lead (Rates walk) (LimitPassed l) p q = absurd (limit_or_walk needs scale lead l walk q p)
shapes_alike needs scale lead (Rates walk) (Clocks told diffs cycle) p q = absurd q
shapes_alike needs scale lead (Rates walk) OutOfMemory p q = absurd q
shapes_alike needs scale lead (LimitPassed l) (Rates walk) p q = absurd (limit_or_walk needs scale lead l walk p q)
shapes_alike needs scale lead (LimitPassed l) (LimitPassed m) p q = one_limit needs scale lead l m p q
shapes_alike needs scale lead (LimitPassed l) (Clocks told diffs cycle) p q = absurd q
shapes_alike needs scale lead (LimitPassed l) OutOfMemory p q = absurd q
shapes_alike needs scale lead (Clocks told diffs cycle) f p q = absurd p
shapes_alike needs scale lead OutOfMemory f p q = absurd p

in_shape : (needs : Needs) (scale lead : ℕ) (xs : List Bits) (ss : List ℕ) → (p : IsInference needs scale lead xs ss) → IsInferenceIn needs p.shape xs ss
in_shape needs scale lead xs ss p = record { are = p.are; passes = p.passes }

-- two inferences of the same needs are one
pub inference_one : (needs : Needs) (scale lead : ℕ) (xs ys : List Bits) (ss ts : List ℕ) → IsInference needs scale lead xs ss → IsInference needs scale lead ys ts → (xs ≡ ys) × (ss ≡ ts)
inference_one needs scale lead xs ys ss ts p q =
    let e = one_shape needs scale lead p.shape q.shape p.of_needs q.of_needs in
    one_in needs q.shape q.of_needs.wide.clocks xs ys ss ts (subst (λ s. IsInferenceIn needs s xs ss) e (in_shape needs scale lead xs ss p)) (in_shape needs scale lead ys ts q)

-- where clocks are inferred there is no reason why none are
pub inference_kept : (needs : Needs) (scale lead : ℕ) (xs : List Bits) (ss : List ℕ) (e : Uninferred) → IsInference needs scale lead xs ss → RefusesInference needs scale lead e → ⊥
inference_kept needs scale lead xs ss e p (inl q) = shape_kept needs scale lead p.shape e p.of_needs q
inference_kept needs scale lead xs ss e p (inr q) =
    let same = one_shape needs scale lead p.shape q.0 p.of_needs q.1 in
    kept_in needs q.0 q.1.wide.clocks xs ss e (subst (λ s. IsInferenceIn needs s xs ss) same (in_shape needs scale lead xs ss p)) q.2

-- and reasons tell the same
pub refusals_alike : (needs : Needs) (scale lead : ℕ) (e f : Uninferred) → RefusesInference needs scale lead e → RefusesInference needs scale lead f → AreAlike e f
refusals_alike needs scale lead e f (inl p) (inl q) = shapes_alike needs scale lead e f p q
refusals_alike needs scale lead e f (inl p) (inr q) = absurd (shape_kept needs scale lead q.0 e q.1 p)
refusals_alike needs scale lead e f (inr p) (inl q) = absurd (shape_kept needs scale lead p.0 f p.1 q)
refusals_alike needs scale lead e f (inr p) (inr q) =
    let same = one_shape needs scale lead p.0 q.0 p.1 q.1 in
    alike_in needs q.0 q.1.wide.clocks e f (subst (λ s. RefusesIn needs s e) same p.2) q.2
