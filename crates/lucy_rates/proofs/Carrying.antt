-- The shape of needs carries them.
use Rattle.std.proofs.Common.{◌≡◌, ℕ, ◌+◌, ◌*◌, ◌/◌, ◌<◌, ◌≤◌, ◌⊎◌, cond, List, [], ◌∷◌, ◌++◌, length, inl, inr, sym, ap, ◌∙◌, subst, refl, arith}
use Rattle.std.specs.List.{AllByRecursion}
use Prim.Native.Nat.{◌∣◌}
use Rattle.std.proofs.Math.Nat.{div-mul_cancel, dvd-mul_right, dvd-mul_left, eq_of_mul-eq-mul_right}
use Rattle.std.proofs.lemmas.Nat.{mul-le}
use Rattle.std.proofs.lemmas.Nat.Gcd.{dvd_trans}
use Rattle.std.proofs.lemmas.Bool.{cases_lt, cases_eq}
use Rattle.std.proofs.lemmas.List.Elements.{All-from_recursion, recursion_from_All, All-from_get_or}
use Rattle.std.proofs.lemmas.List.Sums.{sum_by_more_le}
use Rattle.lucy_word.specs.Bits.{ones_in, IsWord}
use Rattle.lucy_word.proofs.BitsLaws.{period_some as word_period}
use Rattle.lucy_need.specs.Meeting.{AreProperNeeds, IsWithin}
use Rattle.lucy_need.specs.declared.need.Term.{Term}
use Rattle.lucy_need.specs.declared.need.Need.{Need}
use Rattle.lucy_need.specs.declared.need.Need.TheVariants.{Equal, Adapt}
use Rattle.lucy_need.specs.declared.need.Needs.{Needs}
use Rattle.lucy_shape.specs.declared.shape.Shape.{Shape}
use Rattle.lucy_shape.specs.Fitting.{unused, clock_at, IsUsed, AreCarried, IsCarried, IsLaidOut, variable_count, position_count}
use Rattle.lucy_need.specs.Stored.{HasWords}
use Rattle.lucy_rates.specs.Walks.{first_of, second_of, no_need, need_at, over, under, IsNeedWalk, AreJoinedClocks}
use Rattle.lucy_rates.specs.Trees.{IsNamedBy}
use Rattle.lucy_rates.specs.Vectors.{IsInUse, IsTop, IsWideShape}
use Rattle.lucy_rates.specs.ShapeLaws.{CarriesLaw}
use Rattle.lucy_rates.proofs.Walking.{walk_append, one_walk}

pub joined_self : (needs : List Need) (c : ℕ) → AreJoinedClocks needs c c
joined_self needs c = ([], 1, 1, (refl, refl, refl))

-- clocks that are joined to one are joined
pub joined_on : (needs : List Need) (a b c : ℕ) → AreJoinedClocks needs a b → AreJoinedClocks needs b c → AreJoinedClocks needs a c
joined_on needs a b c h k = (h.0 ++ k.0, h.1 * k.1, h.2 * k.2, walk_append needs h.0 k.0 a b c h.1 h.2 k.1 k.2 h.3 k.3)

pub joined_by : (needs : List Need) (k : ℕ) → k < length needs → AreJoinedClocks needs (first_of (need_at needs k)).clock (second_of (need_at needs k)).clock
joined_by needs k l = (k ∷ [], over (need_at needs k), under (need_at needs k), one_walk needs k _ _ _ _ l (inl (refl, refl, refl, refl)))

pub joined_back : (needs : List Need) (k : ℕ) → k < length needs → AreJoinedClocks needs (second_of (need_at needs k)).clock (first_of (need_at needs k)).clock
joined_back needs k l = (k ∷ [], under (need_at needs k), over (need_at needs k), one_walk needs k _ _ _ _ l (inr (refl, refl, refl, refl)))

pub walk_back : (needs : List Need) (v : List ℕ) (a b n m : ℕ) → IsNeedWalk needs v a b n m → AreJoinedClocks needs b a
walk_back needs [] a b n m h = ([], 1, 1, (sym h.0, refl, refl))
walk_back needs (k ∷ v) a b n m h =
    let s = h.1 in
    let rest = walk_back needs v s.0 b s.3 s.4 s.6 in
    joined_on needs b s.0 a rest (elim s.5 [
      | inl w ↦ subst (λ (z : ℕ). AreJoinedClocks needs s.0 z) w.0 (subst (λ (z : ℕ). AreJoinedClocks needs z (first_of (need_at needs k)).clock) w.1 (joined_back needs k h.0))
      | inr w ↦ subst (λ (z : ℕ). AreJoinedClocks needs s.0 z) w.0 (subst (λ (z : ℕ). AreJoinedClocks needs z (second_of (need_at needs k)).clock) w.1 (joined_by needs k h.0))
    ])

-- a walk names the clock that it begins at
pub walk_names : (needs : List Need) (v : List ℕ) (a b n m : ℕ) → IsNeedWalk needs v a b n m → (a ≡ b) ⊎ ((k : ℕ) × (k < length needs) × IsNamedBy a (need_at needs k))
walk_names needs [] a b n m h = inl h.0
walk_names needs (k ∷ v) a b n m h = elim h.1.5 [ inl w ↦ inr (k, h.0, inl w.0) | inr w ↦ inr (k, h.0, inr w.0) ]

-- a need names clocks of the node alone
pub below : (clocks : ℕ) (need : Need) (c : ℕ) → IsWithin clocks need → IsNamedBy c need → c < clocks
below clocks (Equal s t) c h n = elim n [ inl e ↦ (let a = h.0 in omega arith) | inr e ↦ (let a = h.1 in omega arith) ]
below clocks (Adapt s t) c h n = elim n [ inl e ↦ (let a = h.0 in omega arith) | inr e ↦ (let a = h.1 in omega arith) ]

-- joined clocks have one top
pub one_top : (needs : Needs) (r : ℕ → ℕ) (c d s t : ℕ) → AreJoinedClocks needs.list c d → AreJoinedClocks needs.list d c → IsTop needs r c s → IsTop needs r d t → s ≡ t
one_top needs r c d s t there back a b = elim (cases_eq s t) [
  | inl e ↦ e
  | inr n ↦
      let apart : AreJoinedClocks needs.list 0 c → ⊥ = λ j. n (a.base j ∙ sym (b.base (joined_on needs.list 0 c d j there))) in
      let apart' : AreJoinedClocks needs.list 0 d → ⊥ = λ j. apart (joined_on needs.list 0 d c j back) in
      let x = a.reached apart in
      let y = b.reached apart' in
      let low = b.passed apart' x.0 (joined_on needs.list x.0 c d x.1 there) in
      let high = a.passed apart y.0 (joined_on needs.list y.0 d c y.1 back) in
      let e = x.2 in
      let f = y.2 in
      omega arith
]

-- ones per period times a period's share of instances
turn_of : (q o l : ℕ) → 0 < l → l ∣ q → q * o / l * l ≡ q * o
turn_of q o l some whole =
    let e : q / l * l ≡ q = div-mul_cancel l whole in
    div-mul_cancel l (let P : ℕ → Type 0 = λ z. l ∣ z in subst P (let f : q / l * o * l ≡ q * o = (let g : q / l * l * o ≡ q * o = ap (λ z. z * o) e in omega arith) in f) (dvd-mul_left l (q / l * o)))

-- both sides of a need have as many instances in a period
same_turn : (q p r s t P o1 l1 o2 l2 : ℕ) → 0 < l1 → 0 < l2 → 0 < t → l1 ∣ q → l2 ∣ p → q * t ≡ r * P → p * t ≡ s * P → s * (l1 * o2) ≡ r * (o1 * l2) → q * o1 / l1 ≡ p * o2 / l2
same_turn q p r s t P o1 l1 o2 l2 some1 some2 some w1 w2 e f g =
    let x = turn_of q o1 l1 some1 w1 in
    let y = turn_of p o2 l2 some2 w2 in
    let a : q * t * (o1 * l2) ≡ r * P * (o1 * l2) = ap (λ z. z * (o1 * l2)) e in
    let b : p * t * (l1 * o2) ≡ s * P * (l1 * o2) = ap (λ z. z * (l1 * o2)) f in
    let d : P * (s * (l1 * o2)) ≡ P * (r * (o1 * l2)) = ap (λ z. P * z) g in
    let h : q * o1 * l2 * t ≡ p * o2 * l1 * t = omega arith in
    let i : q * o1 * l2 ≡ p * o2 * l1 = eq_of_mul-eq-mul_right t some (q * o1 * l2) (p * o2 * l1) h in
    let j : q * o1 / l1 * l1 * l2 ≡ q * o1 * l2 = ap (λ z. z * l2) x in
    let k : p * o2 / l2 * l2 * l1 ≡ p * o2 * l1 = ap (λ z. z * l1) y in
    let m : q * o1 / l1 * (l1 * l2) ≡ p * o2 / l2 * (l1 * l2) = omega arith in
    eq_of_mul-eq-mul_right (l1 * l2) (let z : 1 * 1 ≤ l1 * l2 = mul-le 1 1 l1 l2 some1 some2 in omega arith) (q * o1 / l1) (p * o2 / l2) m

-- what divides a number of the vector divides the ones
whole_ones : (q t r P k l : ℕ) → 0 < t → q * t ≡ r * P → P ≡ k * t → l ∣ r → l ∣ q
whole_ones q t r P k l some e f h =
    let a : q * t ≡ r * k * t = e ∙ ap (λ z. r * z) f ∙ omega arith in
    let b : q ≡ r * k = eq_of_mul-eq-mul_right t some q (r * k) a in
    subst (λ (z : ℕ). l ∣ z) (sym b) (dvd_trans l h (dvd-mul_right r k))

module _ (needs : Needs) (scale lead : ℕ) (shape : Shape) (proper : AreProperNeeds needs) (words : AllByRecursion HasWords needs.list) (low : 0 < scale) (high : scale ≤ 64) (wide : IsWideShape needs scale lead shape) (few : variable_count shape.clocks ≤ 65537) where
  abbrev r : ℕ → ℕ
  r = wide.vector

  in_use : (c : ℕ) → IsUsed shape.clocks c → IsInUse needs c
  in_use c u = (wide.used c (let a = u.0 in let b = wide.clocks in omega arith)).0 u.1

  is_used : (c : ℕ) → IsInUse needs c → IsUsed shape.clocks c
  is_used c u = ((let a = u.0 in let b = wide.clocks in omega arith), (wide.used c u.0).1 u)

  period_some : 0 < shape.period
  period_some = let e = wide.period in let z : 1 * 1 ≤ scale * wide.common = mul-le 1 1 scale wide.common low wide.is_common.some in omega arith

  pub top_some : (c : ℕ) → IsInUse needs c → 0 < wide.top c
  top_some c u = elim (cases_lt 0 (wide.top c)) [
    | inl m ↦ m
    | inr m ↦
        let is = wide.is_top c u in
        let z : wide.top c ≡ 0 = omega arith in
        let apart : AreJoinedClocks needs.list 0 c → ⊥ = λ j. (let a = is.base j in let b = wide.is_vector.is.some 0 in absurd (omega arith)) in
        let x = is.reached apart in
        let a = x.2 in
        let b = wide.is_vector.is.some x.0 in
        absurd (omega arith)
  ]

  turns : (c : ℕ) → IsInUse needs c → (k : ℕ) × (shape.period ≡ k * wide.top c)
  turns c u =
      let d = div-mul_cancel (wide.top c) (wide.is_common.of_all c u) in
      (scale * (wide.common / wide.top c), wide.period ∙ (let e : scale * (wide.common / wide.top c * wide.top c) ≡ scale * wide.common = ap (λ z. scale * z) d in omega arith))

  ones_some : (c : ℕ) → IsInUse needs c → 0 < (clock_at shape.clocks c).ones
  ones_some c u = elim (cases_lt 0 (clock_at shape.clocks c).ones) [
    | inl m ↦ m
    | inr m ↦
        let e = wide.ones c u in
        let z : (clock_at shape.clocks c).ones * wide.top c ≡ 0 * wide.top c = ap (λ z. z * wide.top c) (let y : (clock_at shape.clocks c).ones ≡ 0 = omega arith in y) in
        let p : 1 * 1 ≤ r c * shape.period = mul-le 1 1 (r c) shape.period (wide.is_vector.is.some c) period_some in
        absurd (omega arith)
  ]

  named : (k : ℕ) → k < length needs.list → (c : ℕ) → c < needs.clocks → IsNamedBy c (need_at needs.list k) → IsInUse needs c
  named k l c within n = elim (cases_lt 0 c) [ inl m ↦ (within, inl m) | inr m ↦ (within, inr (k, l, n)) ]

  carried : (k : ℕ) → k < length needs.list → (first_of (need_at needs.list k)).clock < needs.clocks → (second_of (need_at needs.list k)).clock < needs.clocks → IsWord (first_of (need_at needs.list k)).word → IsWord (second_of (need_at needs.list k)).word →
      AreCarried shape.clocks (first_of (need_at needs.list k)) (second_of (need_at needs.list k))
  carried k l wa wb ia ib =
      let need = need_at needs.list k in
      let s = first_of need in
      let t = second_of need in
      let us = named k l s.clock wa (inl refl) in
      let ut = named k l t.clock wb (inr refl) in
      let top : wide.top s.clock ≡ wide.top t.clock = one_top needs r s.clock t.clock (wide.top s.clock) (wide.top t.clock) (joined_by needs.list k l) (joined_back needs.list k l) (wide.is_top s.clock us) (wide.is_top t.clock ut) in
      let ks = turns s.clock us in
      let kt = turns t.clock ut in
      let fs = whole_ones (clock_at shape.clocks s.clock).ones (wide.top s.clock) (r s.clock) shape.period ks.0 (length s.word.period) (top_some s.clock us) (wide.ones s.clock us) ks.1 (wide.is_vector.is.whole s.clock s.word (k, l, inl refl)) in
      let ft = whole_ones (clock_at shape.clocks t.clock).ones (wide.top t.clock) (r t.clock) shape.period kt.0 (length t.word.period) (top_some t.clock ut) (wide.ones t.clock ut) kt.1 (wide.is_vector.is.whole t.clock t.word (k, l, inr refl)) in
      let walk = wide.is_vector.is.proportion s.clock t.clock (over need) (under need) (k ∷ []) (one_walk needs.list k _ _ _ _ l (inl (refl, refl, refl, refl))) in
      let et : (clock_at shape.clocks t.clock).ones * wide.top s.clock ≡ r t.clock * shape.period = ap (λ z. (clock_at shape.clocks t.clock).ones * z) top ∙ wide.ones t.clock ut in
      record {
        first_used = is_used s.clock us;
        second_used = is_used t.clock ut;
        first_whole = fs;
        second_whole = ft;
        same = same_turn (clock_at shape.clocks s.clock).ones (clock_at shape.clocks t.clock).ones (r s.clock) (r t.clock) (wide.top s.clock) shape.period (ones_in s.word.period) (length s.word.period) (ones_in t.word.period) (length t.word.period)
            (word_period s.word ia) (word_period t.word ib) (top_some s.clock us) fs ft (wide.ones s.clock us) et walk;
      }

  within_at : (k : ℕ) → k < length needs.list → IsWithin needs.clocks (need_at needs.list k)
  within_at k l = All-from_recursion (IsWithin needs.clocks) needs.list proper.within k no_need l

  named_use : (k c : ℕ) → k < length needs.list → IsNamedBy c (need_at needs.list k) → IsInUse needs c
  named_use k c l n = named k l c (below needs.clocks (need_at needs.list k) c (within_at k l) n) n

  -- a clock that is joined with one in use is in use
  pub use_from : (d c : ℕ) → AreJoinedClocks needs.list d c → IsInUse needs c → IsInUse needs d
  use_from d c j u = elim (walk_names needs.list j.0 d c j.1 j.2 j.3) [
    | inl e ↦ subst (IsInUse needs) (sym e) u
    | inr w ↦ named_use w.0 d w.1 w.2
  ]

  -- with the number of its top a clock has as many ones as the period
  full : (d : ℕ) → IsInUse needs d → wide.top d ≡ r d → (clock_at shape.clocks d).ones ≡ shape.period
  full d u e =
      let a = wide.ones d u in
      let b : (clock_at shape.clocks d).ones * wide.top d ≡ (clock_at shape.clocks d).ones * r d = ap (λ z. (clock_at shape.clocks d).ones * z) e in
      eq_of_mul-eq-mul_right (r d) (wide.is_vector.is.some d) (clock_at shape.clocks d).ones shape.period (omega arith)

  full_base : IsInUse needs 0 → (clock_at shape.clocks 0).ones ≡ shape.period
  full_base u = full 0 u ((wide.is_top 0 u).base (joined_self needs.list 0))

  -- so the period is no longer than all positions
  within_positions : (d : ℕ) → IsInUse needs d → (clock_at shape.clocks d).ones ≡ shape.period → shape.period ≤ 65536
  within_positions d u e =
      let s = clock_at shape.clocks d in
      let v = is_used d u in
      let n : position_count s ≡ s.lead + s.ones = ap (λ b. cond b (s.lead + s.ones) 0) v.1 in
      let m = sum_by_more_le position_count shape.clocks d unused v.0 in
      omega arith

  short_by : (c : ℕ) → IsInUse needs c → shape.period ≤ 65536
  short_by c u = elim (cases_lt 65536 shape.period) [
    | inr m ↦ m
    | inl long ↦
        let apart : AreJoinedClocks needs.list 0 c → ⊥ = λ j. (let v = use_from 0 c j u in let a = within_positions 0 v (full_base v) in absurd (omega arith)) in
        let is = wide.is_top c u in
        let x = is.reached apart in
        let d = x.0 in
        let v = use_from d c x.1 u in
        let back = walk_back needs.list x.1.0 d c x.1.1 x.1.2 x.1.3 in
        let same = one_top needs r d c (wide.top d) (wide.top c) x.1 back (wide.is_top d v) is in
        let a = within_positions d v (full d v (same ∙ x.2)) in
        absurd (omega arith)
  ]

  pub short : shape.period ≤ 65536
  short = elim (cases_lt 1 needs.clocks) [
    | inl two ↦ short_by 1 (two, inl (omega arith))
    | inr one ↦ elim (cases_lt 0 (length needs.list)) [
      | inl some ↦ short_by (first_of (need_at needs.list 0)).clock (named_use 0 (first_of (need_at needs.list 0)).clock some (inl refl))
      | inr none ↦
          let least = wide.is_common.least 1 (omega arith) (λ c u. absurd (elim u.1 [ inl m ↦ (let a = u.0 in let z : ⊥ = absurd (omega arith) in z) | inr w ↦ (let a = w.1 in let z : ⊥ = absurd (omega arith) in z) ])) in
          let m : scale * wide.common ≤ 64 * 1 = mul-le scale wide.common 64 1 high least in
          let e = wide.period in
          omega arith
    ]
  ]

  each : (k : ℕ) → k < length needs.list → (need : Need) → need_at needs.list k ≡ need → IsWithin needs.clocks (need_at needs.list k) → HasWords (need_at needs.list k) → IsCarried shape.clocks (need_at needs.list k)
  each k l (Equal s t) e h w =
      let f = ap first_of e in
      let g = ap second_of e in
      let wi = subst (IsWithin needs.clocks) e h in
      let wo = subst HasWords e w in
      let a = carried k l (subst (λ (z : Term). z.clock < needs.clocks) (sym f) wi.0) (subst (λ (z : Term). z.clock < needs.clocks) (sym g) wi.1) (subst (λ (z : Term). IsWord z.word) (sym f) wo.0.word) (subst (λ (z : Term). IsWord z.word) (sym g) wo.1.word) in
      subst (IsCarried shape.clocks) (sym e) (subst (λ (z : Term). AreCarried shape.clocks s z) g (subst (λ (z : Term). AreCarried shape.clocks z (second_of (need_at needs.list k))) f a))
  each k l (Adapt s t) e h w =
      let f = ap first_of e in
      let g = ap second_of e in
      let wi = subst (IsWithin needs.clocks) e h in
      let wo = subst HasWords e w in
      let a = carried k l (subst (λ (z : Term). z.clock < needs.clocks) (sym f) wi.0) (subst (λ (z : Term). z.clock < needs.clocks) (sym g) wi.1) (subst (λ (z : Term). IsWord z.word) (sym f) wo.0.word) (subst (λ (z : Term). IsWord z.word) (sym g) wo.1.word) in
      subst (IsCarried shape.clocks) (sym e) (subst (λ (z : Term). AreCarried shape.clocks s z) g (subst (λ (z : Term). AreCarried shape.clocks z (second_of (need_at needs.list k))) f a))

  laid : IsLaidOut shape
  laid = record {
    some = period_some;
    short = short;
    ones = λ c u. ones_some c (in_use c u);
    base = λ u. full_base (in_use 0 u);
    first = λ c u. wide.first c (in_use c u);
    few = few;
  }

  needs_carried : AllByRecursion (IsCarried shape.clocks) needs.list
  needs_carried = recursion_from_All (IsCarried shape.clocks) needs.list (All-from_get_or (IsCarried shape.clocks) needs.list no_need (λ k l.
      each k l (need_at needs.list k) refl (within_at k l) (All-from_recursion HasWords needs.list words k no_need l)))

pub carries_law : CarriesLaw
carries_law needs scale lead shape proper words low high is = record {
  clocks = is.wide.clocks;
  laid = laid needs scale lead shape proper words low high is.wide is.few;
  carried = needs_carried needs scale lead shape proper words low high is.wide is.few;
}
