-- A tree that has begun to grow grows on to its end.
use Rattle.std.proofs.Common.{◌≡◌, ℕ, ◌+◌, ◌-◌, ◌*◌, ◌<◌, ◌⊎◌, zero, suc, List, [], ◌∷◌, ◌++◌, length, get_or, set, eqb, inl, inr, sym, ap, ◌∙◌, subst, refl, arith}
use Rattle.std.specs.List.{All, Contains, count_by}
use Rattle.std.proofs.lemmas.Bool.{cases_lt, cases_eq}
use Rattle.std.proofs.lemmas.List.{length-set, get_or_default}
use Rattle.std.proofs.lemmas.List.Elements.{Contains-append_left, Contains-push, All-push, All-weaker}
use Rattle.std.proofs.Math.Nat.{eq_of_mul-eq-mul_right}
use Rattle.lucy_word.specs.Bits.{ones_in}
use Rattle.lucy_need.specs.Meeting.{IsWithin}
use Rattle.lucy_need.specs.declared.need.Need.{Need}
use Rattle.lucy_need.specs.declared.need.Term.{Term}
use Rattle.lucy_rates.specs.declared.fraction.Fraction.{Fraction}
use Rattle.lucy_rates.specs.Walks.{first_of, second_of, need_at, LeadsBetween}
use Rattle.lucy_rates.specs.Trees.{IsTree}
use Rattle.lucy_rates.specs.Forests.{rate_at}
use Rattle.lucy_rates.specs.Growing.{no_number, IsJoiningStep, IsGrowing, IsRated, IsLargeNext, HasLargeFrom}
use Rattle.lucy_rates.proofs.Growing.{growth_step, growth_done, skip_at, step_at, fewer}
use Rattle.lucy_rates.proofs.Walking.{walk_append, one_walk, level_walk}
use Rattle.lucy_rates.proofs.RatedTree.{path_to, level_tree}

-- the whole tree, which has the needs of its beginning
pub record IsWhole (needs : List Need) (root : ℕ) (tree : List ℕ) : Type 0 where
  pub all : List ℕ
  pub is_tree : IsTree needs root all
  pub has : (k : ℕ) → Contains tree k → Contains all k

unfolded : (needs : List Need) (root : ℕ) (tree : List ℕ) (m : ℕ) → IsWhole needs root (tree ++ m ∷ []) → IsWhole needs root tree
unfolded needs root tree m w = record { all = w.all; is_tree = w.is_tree; has = λ k i. w.has k (Contains-append_left tree (m ∷ []) k i) }

abbrev pub left : List ℕ → ℕ → ℕ → ℕ
left roots n at = count_by (λ r. eqb r no_number) roots * (n + 1) + (n - at)

-- a step, where the first of two clocks has a root and the second has none
decided : (needs : List Need) (clocks : ℕ) (at : ℕ) (roots : List ℕ) → ((s t : Term) → IsJoiningStep roots (need_at needs at) s t → ⊥) ⊎ ((s : Term) × (t : Term) × IsJoiningStep roots (need_at needs at) s t)
decided needs clocks at roots =
    let need = need_at needs at in
    let s = first_of need in
    let t = second_of need in
    elim (cases_eq (get_or roots s.clock 0) no_number) [
      | inl a ↦ elim (cases_eq (get_or roots t.clock 0) no_number) [
        | inl b ↦ inl (λ x y h. elim h.0 [ inl e ↦ h.1 (ap (λ (z : Term). get_or roots z.clock 0) e.0 ∙ a) | inr e ↦ h.1 (ap (λ (z : Term). get_or roots z.clock 0) e.0 ∙ b) ])
        | inr b ↦ inr (t, s, (inr (refl, refl), (λ z. absurd (omega arith)), a))
      ]
      | inr a ↦ elim (cases_eq (get_or roots t.clock 0) no_number) [
        | inl b ↦ inr (s, t, (inl (refl, refl), (λ z. absurd (omega arith)), b))
        | inr b ↦ inl (λ x y h. elim h.0 [
          | inl e ↦ (let z = sym (ap (λ (z : Term). get_or roots z.clock 0) e.1) ∙ h.2 in absurd (omega arith))
          | inr e ↦ (let z = sym (ap (λ (z : Term). get_or roots z.clock 0) e.1) ∙ h.2 in absurd (omega arith))
        ])
      ]
    ]

pub complete : (fuel : ℕ) (needs : List Need) (clocks root : ℕ) (tree : List ℕ) (at : ℕ) (roots : List ℕ) → IsGrowing needs clocks root tree at roots → length roots ≡ clocks → (root ≡ no_number → ⊥) → All (IsWithin clocks) needs →
    left roots (length needs) at < fuel → IsWhole needs root tree
complete zero needs clocks root tree at roots h size is_root within l = absurd (omega arith)
complete (suc fuel) needs clocks root tree at roots h size is_root within l = elim (cases_lt at (length needs)) [
  | inr m ↦ record { all = tree; is_tree = growth_done needs clocks root tree at roots h m; has = λ k i. i }
  | inl m ↦
      let is : need_at needs at ≡ get_or needs at (need_at needs at) = get_or_default needs at _ _ m in
      elim (decided needs clocks at roots) [
        | inl none ↦ complete fuel needs clocks root tree (at + 1) roots (skip_at needs clocks root tree at roots (need_at needs at) h m is_root within is none) size is_root within (omega arith)
        | inr w ↦
            let a = step_at needs clocks root tree at roots (need_at needs at) w.0 w.1 h m is_root within is w.2 in
            let new = w.1.clock in
            let in_roots : new < length roots = (let b = a.second in omega arith) in
            let g = growth_step needs clocks root tree at 0 w.0.clock new roots h m a.joint (omega arith) (λ k b. absurd (omega arith)) a.fresh in_roots in
            let less = fewer roots new root (length needs) 0 at in_roots a.fresh is_root in
            unfolded needs root tree at (complete fuel needs clocks root (tree ++ at ∷ []) 0 (set roots new root) g (length-set roots new root ∙ size) is_root within (omega arith))
      ]
]

-- numbers of a rate that is too large
large_same : (rn rd a b o u num den : ℕ) → 0 < rd → rn * b ≡ rd * a → num * (rd * u) ≡ rn * o * den → num * (b * u) ≡ a * o * den
large_same rn rd a b o u num den some h k =
    let p : num * (rd * u) * b ≡ rn * o * den * b = ap (λ z. z * b) k in
    let q : rn * b * (o * den) ≡ rd * a * (o * den) = ap (λ z. z * (o * den)) h in
    let r : num * (b * u) * rd ≡ a * o * den * rd = omega arith in
    eq_of_mul-eq-mul_right rd some (num * (b * u)) (a * o * den) r

-- the need leads from the one clock to the other
leads_by : (need : Need) (s t : Term) → ((s ≡ first_of need) × (t ≡ second_of need)) ⊎ ((s ≡ second_of need) × (t ≡ first_of need)) →
    LeadsBetween need s.clock t.clock (ones_in s.word.period * length t.word.period) (length s.word.period * ones_in t.word.period)
leads_by need s t (inl h) =
    let P : Term → Term → Type 0 = λ x y. LeadsBetween need x.clock y.clock (ones_in x.word.period * length y.word.period) (length x.word.period * ones_in y.word.period) in
    let here : P (first_of need) (second_of need) = inl (refl, refl, refl, refl) in
    subst (λ (y : Term). P s y) (sym h.1) (subst (λ (x : Term). P x (second_of need)) (sym h.0) here)
leads_by need s t (inr h) =
    let P : Term → Term → Type 0 = λ x y. LeadsBetween need x.clock y.clock (ones_in x.word.period * length y.word.period) (length x.word.period * ones_in y.word.period) in
    let here : P (second_of need) (first_of need) = inr (refl, refl, omega arith, omega arith) in
    subst (λ (y : Term). P s y) (sym h.1) (subst (λ (x : Term). P x (first_of need)) (sym h.0) here)

pub contained : (needs : List Need) (tree : List ℕ) → ((i : ℕ) → i < length tree → get_or tree i 0 < length needs) → (k : ℕ) → Contains tree k → k < length needs
contained needs tree h k i = (let e : get_or tree i.0 0 ≡ k = get_or_default tree i.0 0 k i.1 ∙ i.2 in let l = h i.0 i.1 in omega arith)

-- at a rate that is too large the tree grows on to one that has it
pub large_from : (needs : List Need) (clocks root : ℕ) (tree : List ℕ) (m : ℕ) (roots parents depths : List ℕ) (rates : List Fraction) (need : Need) (s t : Term) → IsGrowing needs clocks root tree m roots → IsRated needs root tree parents depths rates →
    length roots ≡ clocks → (root ≡ no_number → ⊥) → All (IsWithin clocks) needs → m < length needs → need ≡ get_or needs m need → IsJoiningStep roots need s t → IsLargeNext (rate_at rates s.clock) s t → HasLargeFrom needs clocks root
large_from needs clocks root tree m roots parents depths rates need s t h rated size is_root within l is step large =
    let a = step_at needs clocks root tree m roots need s t h l is_root within is step in
    let in_roots : t.clock < length roots = (let b = a.second in omega arith) in
    let g = growth_step needs clocks root tree m 0 s.clock t.clock roots h l a.joint (omega arith) (λ k b. absurd (omega arith)) a.fresh in_roots in
    let now = set roots t.clock root in
    let whole = complete (left now (length needs) 0 + 1) needs clocks root (tree ++ m ∷ []) 0 now g (length-set roots t.clock root ∙ size) is_root within (omega arith) in
    let path = path_to needs root tree parents depths rates rated (contained needs tree h.within) (get_or depths s.clock 0 + 1) s.clock (omega arith) a.joint.there in
    let o = ones_in s.word.period * length t.word.period in
    let u = length s.word.period * ones_in t.word.period in
    let level = level_walk needs rates path.walk root s.clock path.num path.den (level_tree needs root tree parents depths rates rated path.walk path.in_tree) path.along in
    let r = rate_at rates s.clock in
    let base : r.num * path.den ≡ r.den * path.num =
    (let p : r.num * (rate_at rates root).den * path.den ≡ r.num * 1 * path.den = ap (λ z. r.num * z * path.den) rated.den in
    let q : (rate_at rates root).num * r.den * path.num ≡ 1 * r.den * path.num = ap (λ z. z * r.den * path.num) rated.num in omega arith) in
    record {
      tree = whole.all;
      is_tree = whole.is_tree;
      walk = path.walk ++ m ∷ [];
      in_tree = All-push (Contains whole.all) path.walk m (All-weaker (Contains tree) (Contains whole.all) (λ k i. whole.has k (Contains-append_left tree (m ∷ []) k i)) path.walk path.in_tree) (whole.has m (Contains-push tree m));
      clock = t.clock;
      within = a.second;
      a = path.num * o;
      b = path.den * u;
      along = walk_append needs path.walk (m ∷ []) root s.clock t.clock path.num path.den o u path.along (one_walk needs m s.clock t.clock o u l (leads_by (need_at needs m) s t a.terms));
      num = large.num;
      den = large.den;
      same = large_same r.num r.den path.num path.den o u large.num large.den (rated.rate s.clock a.joint.there).den base large.same;
      lowest = large.lowest;
      large = large.large;
    }
