-- Factors that grow, need by need, and the lists that follow from them.
use Rattle.std.proofs.Common.{◌≡◌, ℕ, suc, ◌+◌, ◌*◌, ◌/◌, ◌^◌, ◌<◌, ◌≤◌, ◌↔◌, List, [], ◌∷◌, ◌++◌, length, replicate, get_or, inl, inr, sym, ap, ◌∙◌, subst, refl, arith}
use Rattle.std.specs.Prelude.{slice_index, slice_set}
use Prim.Native.Nat.{◌∣◌}
use Rattle.std.proofs.Math.Nat.{one-dvd, le_of_dvd}
use Rattle.std.proofs.lemmas.Bool.{cases_eq}
use Rattle.std.proofs.lemmas.List.{length-set, length-replicate, get_or-replicate, get_or-set_same, get_or-set_other, length_push, get_or_append_left, get_or_push, get_or_read}
use Rattle.std.specs.List.{All}
use Rattle.std.proofs.lemmas.List.Elements.{All-get_or}
use Rattle.lucy_need.specs.Meeting.{IsWithin}
use Rattle.lucy_word.specs.Multiple.{IsLcm}
use Rattle.lucy_word.proofs.Multiples.{lcm_exists}
use Rattle.lucy_need.specs.declared.need.Term.{Term}
use Rattle.lucy_need.specs.declared.need.Need.{Need}
use Rattle.lucy_shape.specs.Fitting.{most_positions}
use Rattle.lucy_rates.specs.declared.fraction.Fraction.{Fraction}
use Rattle.lucy_rates.specs.Walks.{first_of, second_of, no_need, need_at}
use Rattle.lucy_rates.specs.Forests.{no_rate, rate_at, IsRateFraction, IsForest}
use Rattle.lucy_rates.proofs.Carrying.{joined_self, below}
use Rattle.lucy_rates.specs.Laying.{AsksTerm, AsksUpto, AreFactors, AreAsked, AsksTooMuch, HasLargeFactor, AreMultiplied, most_ones, AreOnes}
use Rattle.lucy_rates.proofs.Dividing.{lcm_splits}
use Rattle.lucy_rates.proofs.Widening.{asks_more}

-- what a share asks is too much where the common multiple is
pub too_much : (roots : List ℕ) (rates : List Fraction) (term : Term) (factors : List ℕ) (share : ℕ) → 0 < slice_index factors (slice_index roots term.clock) → 0 < share →
    ((n : ℕ) → ((length term.word.period * (rate_at rates term.clock).den) ∣ (n * (rate_at rates term.clock).num) ↔ share ∣ n)) →
    ((m : ℕ) → IsLcm (slice_index factors (slice_index roots term.clock)) share m → most_positions < m) → AsksTooMuch roots rates term factors
too_much roots rates term factors share some some' exact large = λ n positive d ask.
    let m = lcm_exists (slice_index factors (slice_index roots term.clock)) share some some' in
    let a = large m.0 m.1 in
    let b = le_of_dvd positive ((lcm_splits (slice_index factors (slice_index roots term.clock)) share m.0 n m.1).1 (d, (exact n).0 (ask refl))) in
    omega arith

-- one factor changes to the common multiple
pub asked_by : (roots : List ℕ) (rates : List Fraction) (term : Term) (factors : List ℕ) (share m : ℕ) → slice_index roots term.clock < length factors →
    ((i : ℕ) → i < length factors → 0 < slice_index factors i) → ((i : ℕ) → i < length factors → slice_index factors i ≤ most_positions) →
    ((n : ℕ) → ((length term.word.period * (rate_at rates term.clock).den) ∣ (n * (rate_at rates term.clock).num) ↔ share ∣ n)) →
    IsLcm (slice_index factors (slice_index roots term.clock)) share m → m ≤ most_positions →
    AreAsked roots rates term factors (slice_set factors (slice_index roots term.clock) m)
asked_by roots rates term factors share m l some few exact is small = record {
  size = length-set factors (slice_index roots term.clock) m;
  some = λ root h. elim (cases_eq root (slice_index roots term.clock)) [
    | inl e ↦ (let f = get_or-set_same factors (slice_index roots term.clock) m 0 l in let g = is.positive in subst (λ (z : ℕ). 0 < slice_index (slice_set factors (slice_index roots term.clock) m) z) (sym e) (omega arith))
    | inr n ↦ (let f = get_or-set_other factors (slice_index roots term.clock) root m 0 n in let g = some root h in omega arith)
  ];
  few = λ root h. elim (cases_eq root (slice_index roots term.clock)) [
    | inl e ↦ (let f = get_or-set_same factors (slice_index roots term.clock) m 0 l in subst (λ (z : ℕ). slice_index (slice_set factors (slice_index roots term.clock) m) z ≤ most_positions) (sym e) (omega arith))
    | inr n ↦ (let f = get_or-set_other factors (slice_index roots term.clock) root m 0 n in let g = few root h in omega arith)
  ];
  exact = λ root n h. elim (cases_eq root (slice_index roots term.clock)) [
    | inl e ↦
        let f = get_or-set_same factors (slice_index roots term.clock) m 0 l in
        let s = lcm_splits (slice_index factors (slice_index roots term.clock)) share m n is in
        subst (λ (z : ℕ). (slice_index (slice_set factors (slice_index roots term.clock) m) z ∣ n ↔ ((slice_index factors z ∣ n) × AsksTerm roots rates z term n))) (sym e) (
          λ d. (let w = s.0 (subst (λ (z : ℕ). z ∣ n) f d) in (w.0, λ _. (exact n).1 w.1)),
          λ w. subst (λ (z : ℕ). z ∣ n) (sym f) (s.1 (w.0, (exact n).0 (w.1 refl))),
        )
    | inr o ↦
        let f = get_or-set_other factors (slice_index roots term.clock) root m 0 o in
        (λ d. (subst (λ (z : ℕ). z ∣ n) f d, λ e. absurd (o (sym e))), λ w. subst (λ (z : ℕ). z ∣ n) (sym f) w.0)
  ];
}

pub factors_none : (needs : List Need) (roots : List ℕ) (rates : List Fraction) (n : ℕ) → n ≡ length roots → AreFactors needs roots rates 0 (replicate n 1)
factors_none needs roots rates n e = record {
  size = length-replicate n 1 ∙ e;
  some = λ root l. (let f : slice_index (replicate n 1) root ≡ 1 = get_or-replicate n root 1 0 (omega arith) in omega arith);
  few = λ root l. (let f : slice_index (replicate n 1) root ≡ 1 = get_or-replicate n root 1 0 (omega arith) in omega arith);
  exact = λ root k l. (
    λ d i m. absurd (omega arith),
    λ w. subst (λ (z : ℕ). z ∣ k) (sym (get_or-replicate n root 1 0 (omega arith))) (one-dvd k),
  );
}

-- one need further
pub factors_more : (needs : List Need) (roots : List ℕ) (rates : List Fraction) (k : ℕ) (before between after : List ℕ) (first second : Term) → AreFactors needs roots rates k before →
    first ≡ first_of (need_at needs k) → second ≡ second_of (need_at needs k) → AreAsked roots rates first before between → AreAsked roots rates second between after →
    AreFactors needs roots rates (k + 1) after
factors_more needs roots rates k before between after first second so_far e f a b = record {
  size = b.size ∙ a.size ∙ so_far.size;
  some = λ root l. b.some root (let x = a.size in let y = so_far.size in omega arith);
  few = λ root l. b.few root (let x = a.size in let y = so_far.size in omega arith);
  exact = λ root n l.
      let x = a.exact root n (let y = so_far.size in omega arith) in
      let y = b.exact root n (let p = a.size in let q = so_far.size in omega arith) in
      let z = so_far.exact root n l in
      let more = asks_more needs roots rates root k n in
      let g : suc k ≡ k + 1 = omega arith in
      subst (λ (m : ℕ). (slice_index after root ∣ n ↔ AsksUpto needs roots rates m root n)) g (
        λ d. (let w = y.0 d in let v = x.0 w.0 in more.0 (z.0 v.0, (subst (λ (t : Term). AsksTerm roots rates root t n) e v.1, subst (λ (t : Term). AsksTerm roots rates root t n) f w.1))),
        λ h. (let w = more.1 h in y.1 (x.1 (z.1 w.0, subst (λ (t : Term). AsksTerm roots rates root t n) (sym e) w.1.0), subst (λ (t : Term). AsksTerm roots rates root t n) (sym f) w.1.1)),
      );
}

-- what is too much for one term is too much for all needs
pub first_large : (needs : List Need) (roots : List ℕ) (rates : List Fraction) (k : ℕ) (before : List ℕ) (first : Term) → k < length needs → slice_index roots first.clock < length roots → AreFactors needs roots rates k before →
    first ≡ first_of (need_at needs k) → AsksTooMuch roots rates first before → HasLargeFactor needs roots rates
first_large needs roots rates k before first l within so_far e large = (
  first.clock,
  (k, l, inl (sym (ap (λ (t : Term). t.clock) e))),
  λ n some all.
      large n some ((so_far.exact (slice_index roots first.clock) n within).1 (λ i m. all i (omega arith)))
      (subst (λ (t : Term). AsksTerm roots rates (slice_index roots first.clock) t n) (sym e) (all k l).0),
)

pub second_large : (needs : List Need) (roots : List ℕ) (rates : List Fraction) (k : ℕ) (before between : List ℕ) (first second : Term) → k < length needs → slice_index roots second.clock < length roots → AreFactors needs roots rates k before →
    first ≡ first_of (need_at needs k) → second ≡ second_of (need_at needs k) → AreAsked roots rates first before between → AsksTooMuch roots rates second between → HasLargeFactor needs roots rates
second_large needs roots rates k before between first second l within so_far e f a large = (
  second.clock,
  (k, l, inr (sym (ap (λ (t : Term). t.clock) f))),
  λ n some all.
      large n some ((a.exact (slice_index roots second.clock) n (let y = so_far.size in omega arith)).1
      ((so_far.exact (slice_index roots second.clock) n within).1 (λ i m. all i (omega arith)), subst (λ (t : Term). AsksTerm roots rates (slice_index roots second.clock) t n) (sym e) (all k l).0))
      (subst (λ (t : Term). AsksTerm roots rates (slice_index roots second.clock) t n) (sym f) (all k l).1),
)

-- what holds of each entry, also of one more
pub pushed : (P : ℕ → ℕ → Type 0) (list : List ℕ) (upto x : ℕ) → length list ≡ upto → ((c : ℕ) → c < upto → P c (slice_index list c)) → P upto x → (c : ℕ) → c < upto + 1 → P c (slice_index (list ++ x ∷ []) c)
pushed P list upto x size each here c l = elim (cases_eq c upto) [
  | inr n ↦ subst (P c) (sym (get_or_append_left list (x ∷ []) 0 c (omega arith))) (each c (omega arith))
  | inl e ↦ subst (λ (z : ℕ). P z (slice_index (list ++ x ∷ []) z)) (sym e) (subst (P upto) (sym (get_or_push list x 0 upto size)) here)
]

-- one clock more
pub multiplied_more : (roots : List ℕ) (rates : List Fraction) (factors : List ℕ) (c : ℕ) (before : List ℕ) (x : ℕ) → AreMultiplied roots rates factors c before →
    x ≡ slice_index factors (slice_index roots c) / (rate_at rates c).den * (rate_at rates c).num → x ≤ 2 ^ 32 → AreMultiplied roots rates factors (c + 1) (before ++ x ∷ [])
multiplied_more roots rates factors c before x so_far is few = record {
  size = length_push before x ∙ ap (λ z. z + 1) so_far.size;
  each = pushed (λ i n. n ≡ slice_index factors (slice_index roots i) / (rate_at rates i).den * (rate_at rates i).num) before c x so_far.size so_far.each is;
  few = pushed (λ i n. n ≤ 2 ^ 32) before c x so_far.size so_far.few few;
}

pub ones_more : (roots vector tops : List ℕ) (period c : ℕ) (before : List ℕ) (x : ℕ) → AreOnes roots vector tops period c before →
    x ≡ slice_index vector c * (period / slice_index tops (slice_index roots c)) → x ≤ most_ones → AreOnes roots vector tops period (c + 1) (before ++ x ∷ [])
ones_more roots vector tops period c before x so_far is few = record {
  size = length_push before x ∙ ap (λ z. z + 1) so_far.size;
  each = pushed (λ i n. n ≡ slice_index vector i * (period / slice_index tops (slice_index roots i))) before c x so_far.size so_far.each is;
  few = pushed (λ i n. n ≤ most_ones) before c x so_far.size so_far.few few;
}

-- the terms of a need that is read
pub at_first : (needs : List Need) (k : ℕ) (need : Need) (t : Term) → k < length needs → need ≡ get_or needs k need → t ≡ first_of need → t ≡ first_of (need_at needs k)
at_first needs k need t l is e = e ∙ ap first_of (get_or_read needs k need l is no_need)

pub at_second : (needs : List Need) (k : ℕ) (need : Need) (t : Term) → k < length needs → need ≡ get_or needs k need → t ≡ second_of need → t ≡ second_of (need_at needs k)
at_second needs k need t l is e = e ∙ ap second_of (get_or_read needs k need l is no_need)

pub first_within : (needs : List Need) (clocks k : ℕ) (t : Term) → All (IsWithin clocks) needs → k < length needs → t ≡ first_of (need_at needs k) → t.clock < clocks
first_within needs clocks k t within l e = below clocks (need_at needs k) t.clock (All-get_or (IsWithin clocks) needs k no_need l within) (inl (sym (ap (λ (z : Term). z.clock) e)))

pub second_within : (needs : List Need) (clocks k : ℕ) (t : Term) → All (IsWithin clocks) needs → k < length needs → t ≡ second_of (need_at needs k) → t.clock < clocks
second_within needs clocks k t within l e = below clocks (need_at needs k) t.clock (All-get_or (IsWithin clocks) needs k no_need l within) (inr (sym (ap (λ (z : Term). z.clock) e)))

pub root_below : (needs : List Need) (clocks : ℕ) (roots parents : List ℕ) (rates : List Fraction) → IsForest needs clocks roots parents rates → (c : ℕ) → c < clocks → slice_index roots c < clocks
root_below needs clocks roots parents rates forest c l = let a = (forest.root c l).least c (joined_self needs c) in omega arith

-- what is read of the lists
pub ask_refused : (roots : List ℕ) (rates : List Fraction) (term : Term) (factors : List ℕ) (root : ℕ) (rate : Fraction) (len share : ℕ) → term.clock < length roots → length rates ≡ length roots → root ≡ get_or roots term.clock root → rate ≡ get_or rates term.clock rate →
    len ≡ length term.word.period → 0 < slice_index factors (slice_index roots term.clock) → 0 < share → ((n : ℕ) → ((len * rate.den) ∣ (n * rate.num) ↔ share ∣ n)) → ((m : ℕ) → IsLcm (slice_index factors root) share m → most_positions < m) → AsksTooMuch roots rates term factors
ask_refused roots rates term factors root rate len share l sizes e f g some some' exact large =
    let e' : root ≡ slice_index roots term.clock = get_or_read roots term.clock root l e 0 in
    let f' : rate ≡ rate_at rates term.clock = get_or_read rates term.clock rate (omega arith) f no_rate in
    too_much roots rates term factors share some some'
    (λ n. subst (λ (z : Fraction). ((length term.word.period * z.den) ∣ (n * z.num) ↔ share ∣ n)) f' (subst (λ (z : ℕ). ((z * rate.den) ∣ (n * rate.num) ↔ share ∣ n)) g (exact n)))
    (λ m is. large m (subst (λ (z : ℕ). IsLcm (slice_index factors z) share m) (sym e') is))

pub ask_done : (roots : List ℕ) (rates : List Fraction) (term : Term) (factors after : List ℕ) (root : ℕ) (rate : Fraction) (len share m : ℕ) → term.clock < length roots → length rates ≡ length roots → root ≡ get_or roots term.clock root → rate ≡ get_or rates term.clock rate →
    len ≡ length term.word.period → slice_index roots term.clock < length factors → ((i : ℕ) → i < length factors → 0 < slice_index factors i) → ((i : ℕ) → i < length factors → slice_index factors i ≤ most_positions) → ((n : ℕ) → ((len * rate.den) ∣ (n * rate.num) ↔ share ∣ n)) →
    IsLcm (slice_index factors root) share m → m ≤ most_positions → after ≡ slice_set factors root m → AreAsked roots rates term factors after
ask_done roots rates term factors after root rate len share m l sizes e f g within some few exact is small now =
    let e' : root ≡ slice_index roots term.clock = get_or_read roots term.clock root l e 0 in
    let f' : rate ≡ rate_at rates term.clock = get_or_read rates term.clock rate (omega arith) f no_rate in
    subst (AreAsked roots rates term factors) (sym (now ∙ ap (λ z. slice_set factors z m) e')) (asked_by roots rates term factors share m within some few
    (λ n. subst (λ (z : Fraction). ((length term.word.period * z.den) ∣ (n * z.num) ↔ share ∣ n)) f' (subst (λ (z : ℕ). ((z * rate.den) ∣ (n * rate.num) ↔ share ∣ n)) g (exact n)))
    (subst (λ (z : ℕ). IsLcm (slice_index factors z) share m) e' is) small)

pub multiplied_read : (roots : List ℕ) (rates : List Fraction) (factors : List ℕ) (c : ℕ) (before after : List ℕ) (root : ℕ) (rate : Fraction) (x : ℕ) → AreMultiplied roots rates factors c before → c < length roots → length rates ≡ length roots →
    root ≡ get_or roots c root → rate ≡ get_or rates c rate → x ≡ slice_index factors root / rate.den * rate.num → x ≤ 2 ^ 32 → after ≡ before ++ x ∷ [] → AreMultiplied roots rates factors (c + 1) after
multiplied_read roots rates factors c before after root rate x so_far l sizes e f is few now =
    let e' : root ≡ slice_index roots c = get_or_read roots c root l e 0 in
    let f' : rate ≡ rate_at rates c = get_or_read rates c rate (omega arith) f no_rate in
    subst (AreMultiplied roots rates factors (c + 1)) (sym now) (multiplied_more roots rates factors c before x so_far
    (is ∙ ap (λ z. slice_index factors z / rate.den * rate.num) e' ∙ ap (λ (z : Fraction). slice_index factors (slice_index roots c) / z.den * z.num) f') few)

pub rate_read : (rates : List Fraction) (c : ℕ) (rate : Fraction) → c < length rates → rate ≡ get_or rates c rate → IsRateFraction (rate_at rates c) → IsRateFraction rate
rate_read rates c rate l e h = subst IsRateFraction (sym (get_or_read rates c rate l e no_rate)) h
