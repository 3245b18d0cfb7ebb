-- Needs have one shape, and one verdict.
use Rattle.std.proofs.Common.{◌≡◌, ℕ, zero, suc, ◌+◌, ◌*◌, ◌<◌, ◌≤◌, Bool, List, length, take, inl, inr, sym, ap, ◌∙◌, subst, refl, arith}
use Prim.Native.Nat.{◌∣◌}
use Rattle.std.proofs.Math.Nat.{eq_of_mul-eq-mul_right}
use Rattle.std.proofs.lemmas.Bool.{cases_eq, cases_Bool, false≢true}
use Rattle.std.proofs.lemmas.List.{take_more_same, take_all}
use Rattle.lucy_need.specs.declared.need.Needs.{Needs}
use Rattle.lucy_shape.specs.declared.shape.Shape.{Shape}
use Rattle.lucy_shape.specs.declared.shape.ClockShape.{ClockShape}
use Rattle.lucy_shape.specs.declared.shape.RateFault.TheVariants as fault
use Rattle.lucy_shape.specs.Fitting.{unused, clock_at, variable_count}
use Rattle.lucy_rates.specs.Walks.{AreJoinedClocks}
use Rattle.lucy_rates.specs.Vectors.{IsInUse, IsTop, IsWideShape}
use Rattle.lucy_rates.specs.ShapeLaws.{OneWideShapeLaw, OneShapeLaw, ShapeOrNoneLaw, OneLimitLaw, LimitOrWalkLaw}
use Rattle.lucy_rates.proofs.Carrying.{joined_self, one_top}
use Rattle.lucy_rates.proofs.Topping.{is_longest}
use Rattle.lucy_rates.specs.Laying.{longest_to}

abbrev clock_of : Bool → ℕ → ℕ → ℕ → ClockShape
clock_of used lead ones first = record { used = used; lead = lead; ones = ones; first = first }

abbrev shape_from : ℕ → List ClockShape → Shape
shape_from period clocks = record { period = period; clocks = clocks }

same_clock : (a b : ClockShape) → a.used ≡ b.used → a.lead ≡ b.lead → a.ones ≡ b.ones → a.first ≡ b.first → a ≡ b
same_clock a b p q r s =
    ap (λ u. clock_of u a.lead a.ones a.first) p ∙ ap (λ l. clock_of b.used l a.ones a.first) q ∙ ap (λ o. clock_of b.used b.lead o a.first) r ∙ ap (λ f. clock_of b.used b.lead b.ones f) s

same_shape : (a b : Shape) → a.period ≡ b.period → a.clocks ≡ b.clocks → a ≡ b
same_shape a b p q = ap (λ n. shape_from n a.clocks) p ∙ ap (λ l. shape_from b.period l) q

-- the top of equal vectors
top_along : (needs : Needs) (r s : ℕ → ℕ) (c top : ℕ) → ((d : ℕ) → r d ≡ s d) → IsTop needs r c top → IsTop needs s c top
top_along needs r s c top e h = record {
  base = λ j. h.base j ∙ e 0;
  reached = λ n. (let x = h.reached n in (x.0, x.1, x.2 ∙ e x.0));
  passed = λ n d j. (let p = h.passed n d j in let f = e d in omega arith);
}

module _ (needs : Needs) (scale lead : ℕ) (a b : Shape) (h : IsWideShape needs scale lead a) (k : IsWideShape needs scale lead b) where
  vectors : (c : ℕ) → h.vector c ≡ k.vector c
  vectors c = let x = h.is_vector.least k.vector k.is_vector.is c in let y = k.is_vector.least h.vector h.is_vector.is c in omega arith

  tops : (c : ℕ) → IsInUse needs c → h.top c ≡ k.top c
  tops c u = one_top needs k.vector c c (h.top c) (k.top c) (joined_self needs.list c) (joined_self needs.list c) (top_along needs h.vector k.vector c (h.top c) vectors (h.is_top c u)) (k.is_top c u)

  tops_some : (c : ℕ) → IsInUse needs c → 0 < k.top c
  tops_some c u = elim (cases_eq (k.top c) 0) [
    | inr n ↦ omega arith
    | inl z ↦
        let is = k.is_top c u in
        let apart : AreJoinedClocks needs.list 0 c → ⊥ = λ j. (let e = is.base j in let s = k.is_vector.is.some 0 in absurd (omega arith)) in
        let x = is.reached apart in
        let e = x.2 in
        let s = k.is_vector.is.some x.0 in
        absurd (omega arith)
  ]

  commons : h.common ≡ k.common
  commons =
      let x = h.is_common.least k.common k.is_common.some (λ c u. subst (λ (z : ℕ). z ∣ k.common) (sym (tops c u)) (k.is_common.of_all c u)) in
      let y = k.is_common.least h.common h.is_common.some (λ c u. subst (λ (z : ℕ). z ∣ h.common) (tops c u) (h.is_common.of_all c u)) in
      omega arith

  periods : a.period ≡ b.period
  periods = h.period ∙ ap (λ z. scale * z) commons ∙ sym k.period

  in_both : (c : ℕ) → IsInUse needs c → take c a.clocks ≡ take c b.clocks → clock_at a.clocks c ≡ clock_at b.clocks c
  in_both c u before =
      let x : (clock_at a.clocks c).ones * k.top c ≡ h.vector c * a.period = ap (λ z. (clock_at a.clocks c).ones * z) (sym (tops c u)) ∙ h.ones c u in
      let y : h.vector c * a.period ≡ k.vector c * b.period = ap (λ z. z * a.period) (vectors c) ∙ ap (λ z. k.vector c * z) periods in
      let ones : (clock_at a.clocks c).ones ≡ (clock_at b.clocks c).ones = eq_of_mul-eq-mul_right (k.top c) (tops_some c u) (clock_at a.clocks c).ones (clock_at b.clocks c).ones (x ∙ y ∙ sym (k.ones c u)) in
      let p = is_longest needs c in
      let n : ℕ = longest_to needs.list c (length needs.list) in
      let leads : (clock_at a.clocks c).lead ≡ (clock_at b.clocks c).lead = h.leads c n u p ∙ ap (λ z. lead * z + n) ones ∙ sym (k.leads c n u p) in
      same_clock (clock_at a.clocks c) (clock_at b.clocks c) ((h.used c u.0).1 u ∙ sym ((k.used c u.0).1 u)) leads ones (h.first c u ∙ ap variable_count before ∙ sym (k.first c u))

  each : (c : ℕ) → c < needs.clocks → take c a.clocks ≡ take c b.clocks → clock_at a.clocks c ≡ clock_at b.clocks c
  each c l before = elim (cases_Bool (clock_at a.clocks c).used) [
    | inl e ↦ in_both c ((h.used c l).0 e) before
    | inr e ↦
        let idle : IsInUse needs c → ⊥ = λ u. false≢true (sym e ∙ (h.used c l).1 u) in
        h.none c l idle ∙ sym (k.none c l idle)
  ]

  fronts : (n : ℕ) → n ≤ needs.clocks → take n a.clocks ≡ take n b.clocks
  fronts zero l = refl
  fronts (suc n) l =
      let e = fronts n (omega arith) in
      let f = h.clocks in
      let g = k.clocks in
      subst (λ (z : ℕ). take z a.clocks ≡ take z b.clocks) (let m : n + 1 ≡ suc n = omega arith in m) (take_more_same a.clocks b.clocks n unused (omega arith) (omega arith) e (each n (omega arith) e))

  one : a ≡ b
  one =
      let f : length a.clocks ≤ needs.clocks = (let e = h.clocks in omega arith) in
      let g : length b.clocks ≤ needs.clocks = (let e = k.clocks in omega arith) in
      same_shape a b periods (sym (take_all needs.clocks a.clocks f) ∙ fronts needs.clocks (omega arith) ∙ take_all needs.clocks b.clocks g)

pub one_wide_shape : OneWideShapeLaw
one_wide_shape needs scale lead first second h k = one needs scale lead first second h k

pub one_shape : OneShapeLaw
one_shape needs scale lead first second h k = one_wide_shape needs scale lead first second h.wide k.wide

pub shape_or_none : ShapeOrNoneLaw
shape_or_none needs scale lead shape fault.OutOfMemory h k = refl
shape_or_none needs scale lead shape (fault.Unequal walk) h k =
    absurd (k.1.uneven (h.balanced k.1.need k.1.within))
shape_or_none needs scale lead shape (fault.Limit l) h k = absurd (elim k [
  | inl w ↦ h.small w.1
  | inr w ↦
      let other = w.3 in
      let same = one_wide_shape needs scale lead shape other.0 h.wide other.1 in
      let e = ap (λ (z : Shape). variable_count z.clocks) same in
      let f = h.few in
      let m = other.2 in
      absurd (omega arith)
])

pub one_limit : OneLimitLaw
one_limit needs scale lead first second h k = elim h [
  | inl v ↦ elim k [ inl w ↦ v.0 ∙ sym w.0 | inr w ↦ absurd (w.1 v.1) ]
  | inr v ↦ elim k [ inl w ↦ absurd (v.1 w.1) | inr w ↦ v.0 ∙ sym w.0 ]
]

pub limit_or_walk : LimitOrWalkLaw
limit_or_walk needs scale lead l walk h k = elim h [
  | inl w ↦ k.0 w.1
  | inr w ↦ k.1.uneven (w.2 k.1.need k.1.within)
]
