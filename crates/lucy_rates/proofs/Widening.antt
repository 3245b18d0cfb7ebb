-- The wide shape of needs, and when it is too wide.
use Rattle.std.proofs.Common.{◌≡◌, ℕ, zero, suc, ◌+◌, ◌*◌, ◌/◌, ◌<◌, ◌≤◌, ◌↔◌, Bool, true, false, cond, ltb, List, length, inl, inr, sym, ap, ◌∙◌, subst, refl, arith}
use Rattle.std.specs.Prelude.{slice_index}
use Rattle.std.specs.List.{AllByRecursion}
use Prim.Native.Nat.{◌∣◌}
use Rattle.std.proofs.Math.Nat.{dvd_refl, le_of_dvd, div-mul_cancel, dvd-mul_left, pos_of_dvd_of_pos}
use Rattle.std.proofs.lemmas.Nat.{mul-le}
use Rattle.std.proofs.lemmas.Nat.Gcd.{dvd_trans}
use Rattle.std.proofs.lemmas.Bool.{cases_lt, cases_eq, cases_Bool, false≢true, lt-ltb, le-ltb}
use Rattle.lucy_word.proofs.Multiples.{gcd_exists}
use Rattle.lucy_need.specs.Meeting.{AreProperNeeds}
use Rattle.lucy_need.specs.Stored.{HasWords}
use Rattle.lucy_need.specs.declared.need.Term.{Term}
use Rattle.lucy_need.specs.declared.need.Need.{Need}
use Rattle.lucy_need.specs.declared.need.Needs.{Needs}
use Rattle.lucy_shape.specs.declared.shape.Shape.{Shape}
use Rattle.lucy_shape.specs.declared.shape.ClockShape.{ClockShape}
use Rattle.lucy_shape.specs.Fitting.{unused, clock_at, variable_count, most_positions}
use Rattle.lucy_rates.specs.declared.fraction.Fraction.{Fraction}
use Rattle.lucy_rates.specs.Walks.{first_of, second_of, need_at, AreJoinedClocks}
use Rattle.lucy_rates.specs.Trees.{IsNamedBy}
use Rattle.lucy_rates.specs.Forests.{rate_at, IsRateFraction}
use Rattle.lucy_rates.specs.Vectors.{IsNamedBySome, IsInUse, IsLeastVector, IsTop, IsLongestPrefix, IsWideShape, IsTooWide}
use Rattle.lucy_rates.specs.Laying.{AsksTerm, AsksNeed, AsksUpto, HasLargeFactor, top_to, counts, IsCommonTo, HasLargeCommon, longest_to, shape_behind, laid_out}
use Rattle.lucy_rates.proofs.Gauss.{times_law, quotient_some}
use Rattle.lucy_rates.proofs.Carrying.{joined_self, walk_names, short}
use Rattle.lucy_rates.proofs.Dividing.{IsCollected, collected_both, collected_same, collected_free}
use Rattle.lucy_rates.proofs.Factoring.{AreRated, words_at, named_within, root_within, root_root, asked, product_some, least_vector}
use Rattle.lucy_rates.proofs.Topping.{is_top, top_some, in_use, common_is, common_exists, is_longest, longest_one}
use Rattle.lucy_rates.proofs.Layouts.{laid_length, laid_take, laid_at}

-- what one need more asks
pub asks_more : (needs : List Need) (roots : List ℕ) (rates : List Fraction) (root k n : ℕ) → ((AsksUpto needs roots rates k root n × AsksNeed roots rates root (need_at needs k) n) ↔ AsksUpto needs roots rates (suc k) root n)
asks_more needs roots rates root k n = (
  λ w i l. elim (cases_eq i k) [ inl e ↦ subst (λ (z : ℕ). AsksNeed roots rates root (need_at needs z) n) (sym e) w.1 | inr d ↦ w.0 i (omega arith) ],
  λ h. (λ i l. h i (omega arith), h k (omega arith)),
)

-- what a term asks is to be a multiple of a number
pub term_collected : (roots : List ℕ) (rates : List Fraction) (root : ℕ) (t : Term) → IsRateFraction (rate_at rates t.clock) → 0 < length t.word.period → IsCollected (AsksTerm roots rates root t)
term_collected roots rates root t rate some = elim (cases_eq (slice_index roots t.clock) root) [
  | inr n ↦ collected_free (AsksTerm roots rates root t) (λ n' e. absurd (n e))
  | inl e ↦
      let product : ℕ = length t.word.period * (rate_at rates t.clock).den in
      let g = gcd_exists ((rate_at rates t.clock).num + 1) product (rate_at rates t.clock).num (omega arith) in
      let positive = product_some (length t.word.period) (rate_at rates t.clock).den some rate.den in
      let some_g = pos_of_dvd_of_pos g.1.0 positive in
      record {
        number = product / g.0;
        some = quotient_some product g.0 g.1.0 positive;
        exact = λ n. (
          λ d _. (times_law (rate_at rates t.clock).num (rate_at rates t.clock).den (length t.word.period) g.0 n rate.lowest rate.den some g.1 some_g).1 d,
          λ h. (times_law (rate_at rates t.clock).num (rate_at rates t.clock).den (length t.word.period) g.0 n rate.lowest rate.den some g.1 some_g).0 (h e),
        );
      }
]

-- whether one of the first so many needs names a clock
named_decided : (needs : List Need) (c upto : ℕ) → (b : Bool) × (b ≡ true ↔ ((k : ℕ) × (k < upto) × IsNamedBy c (need_at needs k)))
named_decided needs c zero = (false, (λ e. absurd (false≢true e), λ w. (let a = w.1 in absurd (omega arith))))
named_decided needs c (suc m) =
    let r = named_decided needs c m in
    elim (cases_Bool r.0) [
      | inl e ↦ (true, (λ _. (let w = r.1.0 e in (w.0, (let a = w.1 in omega arith), w.2)), λ _. refl))
      | inr no' ↦ elim (cases_eq (first_of (need_at needs m)).clock c) [
        | inl e ↦ (true, (λ _. (m, omega arith, inl e), λ _. refl))
        | inr n1 ↦ elim (cases_eq (second_of (need_at needs m)).clock c) [
          | inl e ↦ (true, (λ _. (m, omega arith, inr e), λ _. refl))
          | inr n2 ↦ (
            false,
            (
              λ e. absurd (false≢true e),
              λ w. elim (cases_eq w.0 m) [
                | inr d ↦ absurd (false≢true (sym no' ∙ r.1.1 (w.0, (let a = w.1 in omega arith), w.2)))
                | inl e ↦ elim w.2 [
                  | inl f ↦ absurd (n1 (ap (λ z. (first_of (need_at needs z)).clock) (sym e) ∙ f))
                  | inr f ↦ absurd (n2 (ap (λ z. (second_of (need_at needs z)).clock) (sym e) ∙ f))
                ]
              ],
            ),
          )
        ]
      ]
    ]

-- ones of a clock in a period that its top divides
pub ones_of : (r top P : ℕ) → top ∣ P → r * (P / top) * top ≡ r * P
ones_of r top P d = let e = div-mul_cancel top d in let x : r * (P / top * top) ≡ r * P = ap (λ z. r * z) e in omega arith

-- the shape of a vector, its tops and their common period
module _ (needs : Needs) (scale lead : ℕ) (r : ℕ → ℕ) (least : IsLeastVector needs r) (top : ℕ → ℕ) (tops : (c : ℕ) → c < needs.clocks → IsTop needs r c (top c))
    (b : Bool) (tells : b ≡ true ↔ IsNamedBySome needs.list 0) (common : ℕ) (is_common : IsCommonTo b top needs.clocks common) (ones prefix : ℕ → ℕ)
    (ones_are : (c : ℕ) → IsInUse needs c → ones c * top c ≡ r c * (scale * common)) (prefix_are : (c : ℕ) → c < needs.clocks → prefix c ≡ longest_to needs.list c (length needs.list)) where
  abbrev list : List ClockShape
  list = laid_out b lead ones prefix needs.clocks

  at_used : (c : ℕ) → IsInUse needs c → clock_at list c ≡ record { used = true; lead = lead * ones c + prefix c; ones = ones c; first = variable_count (laid_out b lead ones prefix c) }
  at_used c u = laid_at b lead ones prefix c needs.clocks u.0 ∙ ap (λ z. shape_behind (laid_out b lead ones prefix c) z lead (ones c) (prefix c)) ((in_use needs b c tells u.0).1 u)

  at_unused : (c : ℕ) → c < needs.clocks → counts b c ≡ false → clock_at list c ≡ unused
  at_unused c l e = laid_at b lead ones prefix c needs.clocks l ∙ ap (λ z. shape_behind (laid_out b lead ones prefix c) z lead (ones c) (prefix c)) e

  used_is : (c : ℕ) → c < needs.clocks → ((clock_at list c).used ≡ true ↔ IsInUse needs c)
  used_is c l = (
    λ h. elim (cases_Bool (counts b c)) [
      | inl e ↦ (in_use needs b c tells l).0 e
      | inr e ↦ absurd (false≢true (ap (λ (z : ClockShape). z.used) (sym (at_unused c l e)) ∙ h))
    ],
    λ u. ap (λ (z : ClockShape). z.used) (at_used c u),
  )

  none_is : (c : ℕ) → c < needs.clocks → (IsInUse needs c → ⊥) → clock_at list c ≡ unused
  none_is c l n = elim (cases_Bool (counts b c)) [
    | inl e ↦ absurd (n ((in_use needs b c tells l).0 e))
    | inr e ↦ at_unused c l e
  ]

  leads_are : (c p : ℕ) → IsInUse needs c → IsLongestPrefix needs c p → (clock_at list c).lead ≡ lead * (clock_at list c).ones + p
  leads_are c p u is =
      let e : (clock_at list c).lead ≡ lead * ones c + prefix c = ap (λ (z : ClockShape). z.lead) (at_used c u) in
      let f : lead * (clock_at list c).ones ≡ lead * ones c = ap (λ (z : ClockShape). lead * z.ones) (at_used c u) in
      let g : prefix c ≡ p = prefix_are c u.0 ∙ longest_one needs c (longest_to needs.list c (length needs.list)) p (is_longest needs c) is in
      omega arith

  pub wide : IsWideShape needs scale lead (record { period = scale * common; clocks = laid_out b lead ones prefix needs.clocks })
  wide = record {
    vector = r;
    is_vector = least;
    top = top;
    is_top = λ c u. tops c u.0;
    common = common;
    is_common = common_is needs b top common tells is_common;
    period = refl;
    clocks = laid_length b lead ones prefix needs.clocks;
    used = used_is;
    ones = λ c u. ap (λ (z : ClockShape). z.ones * top c) (at_used c u) ∙ ones_are c u;
    leads = leads_are;
    first = λ c u. ap (λ (z : ClockShape). z.first) (at_used c u) ∙ ap variable_count (sym (laid_take b lead ones prefix c needs.clocks (let a = u.0 in omega arith)));
    none = none_is;
  }

-- and with the numbers that follow from them
pub shaped : (needs : Needs) (scale lead : ℕ) (r : ℕ → ℕ) → IsLeastVector needs r → (top : ℕ → ℕ) → ((c : ℕ) → c < needs.clocks → IsTop needs r c (top c)) → (b : Bool) → (b ≡ true ↔ IsNamedBySome needs.list 0) →
    (common : ℕ) → IsCommonTo b top needs.clocks common → (shape : Shape) × IsWideShape needs scale lead shape × (shape.period ≡ scale * common)
shaped needs scale lead r least top tops b tells common is = (
  _,
  wide needs scale lead r least top tops b tells common is (λ c. r c * (scale * common / top c)) (λ c. longest_to needs.list c (length needs.list))
      (λ c u. ones_of (r c) (top c) (scale * common) (dvd_trans (top c) ((is.exact common).0 (dvd_refl common) c u.0 ((in_use needs b c tells u.0).1 u)) (dvd-mul_left common scale)))
      (λ c l. refl),
  refl,
)

-- too long a period
pub wide_by_period : (needs : Needs) (scale lead : ℕ) (shape : Shape) → AreProperNeeds needs → AllByRecursion HasWords needs.list → 0 < scale → scale ≤ 64 → IsWideShape needs scale lead shape → most_positions < shape.period → IsTooWide needs scale lead
wide_by_period needs scale lead shape proper words low high is long = (
  shape,
  is,
  elim (cases_lt 65537 (variable_count shape.clocks)) [
    | inl m ↦ m
    | inr few ↦ (let s = short needs scale lead shape proper words low high is few in absurd (omega arith))
  ],
)

-- a number that divides the common period makes it as long
pub period_above : (needs : Needs) (scale lead : ℕ) (shape : Shape) (is : IsWideShape needs scale lead shape) (n : ℕ) → 0 < scale → n ≤ is.common → n ≤ shape.period
period_above needs scale lead shape is n low l = let e = is.period in let m : 1 * n ≤ scale * is.common = mul-le 1 n scale is.common low l in omega arith

module _ (needs : Needs) (roots parents : List ℕ) (rates : List Fraction) (rated : AreRated needs roots parents rates) where
  need_collected : (root k : ℕ) → k < length needs.list → IsCollected (AsksNeed roots rates root (need_at needs.list k))
  need_collected root k l =
      let w = words_at needs roots parents rates rated k l in
      collected_both (AsksTerm roots rates root (first_of (need_at needs.list k))) (AsksTerm roots rates root (second_of (need_at needs.list k)))
      (term_collected roots rates root (first_of (need_at needs.list k)) (rated.forest.rate _ (named_within needs roots parents rates rated k _ l (inl refl))) w.0.nonempty)
      (term_collected roots rates root (second_of (need_at needs.list k)) (rated.forest.rate _ (named_within needs roots parents rates rated k _ l (inr refl))) w.1.nonempty)

  pub upto_collected : (root k : ℕ) → k ≤ length needs.list → IsCollected (AsksUpto needs.list roots rates k root)
  upto_collected root zero l = collected_free _ (λ n i m. absurd (omega arith))
  upto_collected root (suc k) l =
      collected_same (λ n. AsksUpto needs.list roots rates k root n × AsksNeed roots rates root (need_at needs.list k) n) (AsksUpto needs.list roots rates (suc k) root)
      (λ n. asks_more needs.list roots rates root k n)
      (collected_both (AsksUpto needs.list roots rates k root) (AsksNeed roots rates root (need_at needs.list k)) (upto_collected root k (omega arith)) (need_collected root k (omega arith)))

  whole : (root : ℕ) → IsCollected (AsksUpto needs.list roots rates (length needs.list) root)
  whole root = upto_collected root (length needs.list) (omega arith)

  abbrev number : ℕ → ℕ
  number c = cond (ltb c needs.clocks) ((whole (slice_index roots c)).number / (rate_at rates c).den * (rate_at rates c).num) 1

  number_at : (c : ℕ) → c < needs.clocks → number c ≡ (whole (slice_index roots c)).number / (rate_at rates c).den * (rate_at rates c).num
  number_at c l = ap (λ z. cond z ((whole (slice_index roots c)).number / (rate_at rates c).den * (rate_at rates c).num) 1) (lt-ltb c needs.clocks l)

  number_beyond : (c : ℕ) → needs.clocks ≤ c → number c ≡ 1
  number_beyond c l = ap (λ z. cond z ((whole (slice_index roots c)).number / (rate_at rates c).den * (rate_at rates c).num) 1) (le-ltb c needs.clocks l)

  number_least : IsLeastVector needs number
  number_least = least_vector needs roots parents rates rated (λ root. (whole root).number) (λ root l. (whole root).some) (λ root n l. (whole root).exact n) number number_at number_beyond

  -- there is a wide shape
  pub widened : (scale lead : ℕ) → (shape : Shape) × IsWideShape needs scale lead shape
  widened scale lead =
      let named = named_decided needs.list 0 (length needs.list) in
      let tops = is_top needs roots parents rates rated number number (λ c l. refl) number_least.is.some in
      let some = top_some needs roots parents rates rated number number (λ c l. refl) number_least.is.some in
      let common = common_exists named.0 (λ c. top_to roots number (slice_index roots c) needs.clocks) needs.clocks some in
      let s = shaped needs scale lead number number_least (λ c. top_to roots number (slice_index roots c) needs.clocks) tops named.0 named.1 common.number (record { some = common.some; exact = common.exact }) in
      (s.0, s.1)

  use_from : (d c : ℕ) → AreJoinedClocks needs.list d c → IsInUse needs c → IsInUse needs d
  use_from d c j u = elim (walk_names needs.list j.0 d c j.1 j.2 j.3) [
    | inl e ↦ subst (IsInUse needs) (sym e) u
    | inr w ↦ (named_within needs roots parents rates rated w.0 d w.1 w.2, inr w)
  ]

  -- the top of a root is no less than its number
  root_below_top : (r : ℕ → ℕ) (c top : ℕ) → c < needs.clocks → IsTop needs r (slice_index roots c) top → r (slice_index roots c) ≤ top
  root_below_top r c top l is = elim (cases_lt top (r (slice_index roots c))) [
    | inr m ↦ m
    | inl m ↦
        let root : ℕ = slice_index roots c in
        let apart : AreJoinedClocks needs.list 0 root → ⊥ = λ j.
        let a = (rated.forest.root root (root_within needs roots parents rates rated c l)).least 0 j in
        let b = root_root needs roots parents rates rated c l in
        let e : root ≡ 0 = omega arith in
        let f : top ≡ r root = is.base j ∙ ap r (sym e) in
        absurd (omega arith) in
        let p = is.passed apart root (joined_self needs.list root) in
        absurd (omega arith)
  ]

  module _ (scale lead : ℕ) (proper : AreProperNeeds needs) (words : AllByRecursion HasWords needs.list) (low : 0 < scale) (high : scale ≤ 64) where
    pub wide_by_factor : HasLargeFactor needs.list roots rates → IsTooWide needs scale lead
    wide_by_factor (c, named, large) =
        let w = widened scale lead in
        let l = named_within needs roots parents rates rated named.0 c named.1 named.2 in
        let root : ℕ = slice_index roots c in
        let u = use_from root c (rated.forest.root c l).joined (l, inr named) in
        let v = w.1.is_vector.is in
        let a = large (w.1.vector root) (v.some root) (asked needs roots parents rates rated w.1.vector v root) in
        let b = root_below_top w.1.vector c (w.1.top root) l (w.1.is_top root u) in
        let d = le_of_dvd w.1.is_common.some (w.1.is_common.of_all root u) in
        let p = period_above needs scale lead w.0 w.1 (w.1.top root) low d in
        wide_by_period needs scale lead w.0 proper words low high w.1 (omega arith)

    pub wide_by_common : (r : ℕ → ℕ) → IsLeastVector needs r → (top : ℕ → ℕ) → ((c : ℕ) → c < needs.clocks → IsTop needs r c (top c)) → ((c : ℕ) → c < needs.clocks → 0 < top c) →
        (b : Bool) → (b ≡ true ↔ IsNamedBySome needs.list 0) → HasLargeCommon b top needs.clocks → IsTooWide needs scale lead
    wide_by_common r least top tops some b tells large =
        let common = common_exists b top needs.clocks some in
        let s = shaped needs scale lead r least top tops b tells common.number (record { some = common.some; exact = common.exact }) in
        let a = large common.number common.some ((common.exact common.number).0 (dvd_refl common.number)) in
        let m : 1 * common.number ≤ scale * common.number = mul-le 1 common.number scale common.number low (omega arith) in
        wide_by_period needs scale lead s.0 proper words low high s.1 (let e = s.2 in omega arith)
