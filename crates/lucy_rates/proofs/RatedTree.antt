-- How the rates of a tree grow with it.
use Rattle.std.proofs.Common.{◌≡◌, ℕ, ◌+◌, ◌*◌, ◌<◌, ◌⊎◌, zero, suc, List, [], ◌∷◌, ◌++◌, length, get_or, set, inl, inr, sym, ap, ◌∙◌, subst, refl, arith}
use Rattle.std.specs.List.{All, Contains}
use Rattle.std.proofs.lemmas.Bool.{cases_eq}
use Rattle.std.proofs.lemmas.List.{get_or-set_same, get_or-set_other, length-set}
use Rattle.std.proofs.lemmas.List.Elements.{Contains-append_left, Contains-push, Contains-push_cases, All-push, All-nil, All-weaker}
use Rattle.lucy_word.specs.Bits.{ones_in}
use Rattle.lucy_need.specs.declared.need.Need.{Need}
use Rattle.lucy_need.specs.declared.need.Term.{Term}
use Rattle.lucy_rates.specs.declared.fraction.Fraction.{Fraction}
use Rattle.lucy_rates.specs.Walks.{first_of, second_of, need_at, over, under, LeadsBetween, IsNeedWalk}
use Rattle.lucy_rates.specs.Trees.{IsReachedByTree, IsNamedBy, AreEven}
use Rattle.lucy_rates.specs.Forests.{rate_at, no_rate, IsRateFraction}
use Rattle.lucy_rates.specs.Growing.{no_number, IsEvenBy, IsUp, IsRated, AreKept, AreDeep}
use Rattle.lucy_rates.proofs.Growing.{IsJoint, IsAt, reached_cases, one_fewer}
use Rattle.lucy_rates.proofs.Walking.{walk_append, one_walk, IsLevel}

-- reached by the tree, or new
old_or_new : (needs : List Need) (root : ℕ) (tree : List ℕ) (m old new x : ℕ) → IsJoint needs root tree m old new → IsReachedByTree needs root (tree ++ m ∷ []) x → (x ≡ new → ⊥) → IsReachedByTree needs root tree x
old_or_new needs root tree m old new x joint r n = elim (reached_cases needs root tree m x r) [
  | inl a ↦ a
  | inr a ↦ elim (joint.names x a) [ inl e ↦ subst (IsReachedByTree needs root tree) (sym e) joint.there | inr e ↦ absurd (n e) ]
]

-- what a list has at a place that isn't set
kept : (list : List ℕ) (new v x : ℕ) → (x ≡ new → ⊥) → get_or (set list new v) x 0 ≡ get_or list x 0
kept list new v x n = get_or-set_other list new x v 0 (omega arith)

kept_rate : (rates : List Fraction) (new : ℕ) (rate : Fraction) (x : ℕ) → (x ≡ new → ⊥) → rate_at (set rates new rate) x ≡ rate_at rates x
kept_rate rates new rate x n = get_or-set_other rates new x rate no_rate (omega arith)

-- the need is even by this number for its first and that for its second clock
abbrev IsEvenFor : Need → Fraction → Fraction → Type 0
IsEvenFor need r s = AreEven need r.num r.den s.num s.den

even_kept : (needs : List Need) (rates : List Fraction) (new : ℕ) (rate : Fraction) (k : ℕ) → ((first_of (need_at needs k)).clock ≡ new → ⊥) → ((second_of (need_at needs k)).clock ≡ new → ⊥) → IsEvenBy needs rates k → IsEvenBy needs (set rates new rate) k
even_kept needs rates new rate k a b h =
    subst (λ (z : Fraction). IsEvenFor (need_at needs k) z (rate_at (set rates new rate) (second_of (need_at needs k)).clock)) (sym (kept_rate rates new rate (first_of (need_at needs k)).clock a))
    (subst (λ (z : Fraction). IsEvenFor (need_at needs k) (rate_at rates (first_of (need_at needs k)).clock) z) (sym (kept_rate rates new rate (second_of (need_at needs k)).clock b)) h)

up_kept : (needs : List Need) (root : ℕ) (tree parents depths : List ℕ) (m new v x : ℕ) → (x ≡ new → ⊥) → (IsReachedByTree needs root tree new → ⊥) → IsUp needs tree parents depths x → IsUp needs (tree ++ m ∷ []) (set parents new m) (set depths new v) x
up_kept needs root tree parents depths m new v x n fresh up =
    let p : get_or parents x 0 ≡ get_or (set parents new m) x 0 = sym (kept parents new m x n) in
    let d : get_or depths x 0 ≡ get_or (set depths new v) x 0 = sym (kept depths new v x n) in
    let k = get_or parents x 0 in
    let old : (y : ℕ) → IsNamedBy y (need_at needs k) → y ≡ new → ⊥ = λ y b e. fresh (subst (IsReachedByTree needs root tree) e (inr (k, up.in_tree, b))) in
    let P : ℕ → Type 0 = λ z. Contains (tree ++ m ∷ []) z × ((((first_of (need_at needs z)).clock ≡ x) × (get_or (set depths new v) (second_of (need_at needs z)).clock 0 + 1 ≡ get_or (set depths new v) x 0))
    ⊎ (((second_of (need_at needs z)).clock ≡ x) × (get_or (set depths new v) (first_of (need_at needs z)).clock 0 + 1 ≡ get_or (set depths new v) x 0))) in
    let here : P k = (
      Contains-append_left tree (m ∷ []) k up.in_tree,
      elim up.one_up [
        | inl w ↦ (let q = kept depths new v (second_of (need_at needs k)).clock (old (second_of (need_at needs k)).clock (inr refl)) in inl (w.0, ap (λ z. z + 1) q ∙ w.1 ∙ d))
        | inr w ↦ (let q = kept depths new v (first_of (need_at needs k)).clock (old (first_of (need_at needs k)).clock (inl refl)) in inr (w.0, ap (λ z. z + 1) q ∙ w.1 ∙ d))
      ],
    ) in
    let there = subst P p here in
    record { in_tree = there.0; one_up = there.1 }

up_new : (needs : List Need) (tree parents depths : List ℕ) (m old new : ℕ) → new < length parents → new < length depths → (old ≡ new → ⊥) →
    (((first_of (need_at needs m)).clock ≡ old) × ((second_of (need_at needs m)).clock ≡ new)) ⊎ (((second_of (need_at needs m)).clock ≡ old) × ((first_of (need_at needs m)).clock ≡ new)) →
    IsUp needs (tree ++ m ∷ []) (set parents new m) (set depths new (get_or depths old 0 + 1)) new
up_new needs tree parents depths m old new in_parents in_depths apart ends =
    let v = get_or depths old 0 + 1 in
    let p : m ≡ get_or (set parents new m) new 0 = sym (get_or-set_same parents new m 0 in_parents) in
    let d : v ≡ get_or (set depths new v) new 0 = sym (get_or-set_same depths new v 0 in_depths) in
    let q : get_or (set depths new v) old 0 ≡ get_or depths old 0 = kept depths new v old apart in
    let P : ℕ → Type 0 = λ z. Contains (tree ++ m ∷ []) z × ((((first_of (need_at needs z)).clock ≡ new) × (get_or (set depths new v) (second_of (need_at needs z)).clock 0 + 1 ≡ get_or (set depths new v) new 0))
    ⊎ (((second_of (need_at needs z)).clock ≡ new) × (get_or (set depths new v) (first_of (need_at needs z)).clock 0 + 1 ≡ get_or (set depths new v) new 0))) in
    let here : P m = (
      Contains-push tree m,
      elim ends [
        | inl w ↦ inr (w.1, ap (λ z. get_or (set depths new v) z 0 + 1) w.0 ∙ ap (λ z. z + 1) q ∙ d)
        | inr w ↦ inl (w.1, ap (λ z. get_or (set depths new v) z 0 + 1) w.0 ∙ ap (λ z. z + 1) q ∙ d)
      ],
    ) in
    let there = subst P p here in
    record { in_tree = there.0; one_up = there.1 }

-- the ends of a need that joins
abbrev pub HasEnds : Need → ℕ → ℕ → Type 0
HasEnds need old new = (((first_of need).clock ≡ old) × ((second_of need).clock ≡ new)) ⊎ (((second_of need).clock ≡ old) × ((first_of need).clock ≡ new))

pub ends_of : (need : Need) (s t : Term) → ((s ≡ first_of need) × (t ≡ second_of need)) ⊎ ((s ≡ second_of need) × (t ≡ first_of need)) → HasEnds need s.clock t.clock
ends_of need s t (inl h) = inl (ap (λ (z : Term). z.clock) (sym h.0), ap (λ (z : Term). z.clock) (sym h.1))
ends_of need s t (inr h) = inr (ap (λ (z : Term). z.clock) (sym h.0), ap (λ (z : Term). z.clock) (sym h.1))

-- the need at which the new rate was found is even by it
even_new : (need : Need) (s t : Term) (r next : Fraction) → ((s ≡ first_of need) × (t ≡ second_of need)) ⊎ ((s ≡ second_of need) × (t ≡ first_of need)) →
    next.num * (r.den * (length s.word.period * ones_in t.word.period)) ≡ r.num * (ones_in s.word.period * length t.word.period) * next.den →
    (((s ≡ first_of need) × (t ≡ second_of need)) × IsEvenFor need r next) ⊎ (((s ≡ second_of need) × (t ≡ first_of need)) × IsEvenFor need next r)
even_new need s t r next (inl h) e =
    let P : Term → Term → Type 0 = λ x y. r.num * next.den * (ones_in x.word.period * length y.word.period) ≡ next.num * r.den * (length x.word.period * ones_in y.word.period) in
    let here : P s t = omega arith in
    inl (h, subst (λ (y : Term). P (first_of need) y) h.1 (subst (λ (x : Term). P x t) h.0 here))
even_new need s t r next (inr h) e =
    let P : Term → Term → Type 0 = λ x y. next.num * r.den * (ones_in y.word.period * length x.word.period) ≡ r.num * next.den * (length y.word.period * ones_in x.word.period) in
    let here : P s t = omega arith in
    inr (h, subst (λ (y : Term). P (second_of need) y) h.1 (subst (λ (x : Term). P x t) h.0 here))

even_at : (needs : List Need) (m : ℕ) (s t : Term) (rates : List Fraction) (next : Fraction) → (s.clock ≡ t.clock → ⊥) → t.clock < length rates →
    ((s ≡ first_of (need_at needs m)) × (t ≡ second_of (need_at needs m))) ⊎ ((s ≡ second_of (need_at needs m)) × (t ≡ first_of (need_at needs m))) →
    next.num * ((rate_at rates s.clock).den * (length s.word.period * ones_in t.word.period)) ≡ (rate_at rates s.clock).num * (ones_in s.word.period * length t.word.period) * next.den →
    IsEvenBy needs (set rates t.clock next) m
even_at needs m s t rates next apart l terms e =
    let now = set rates t.clock next in
    let a : rate_at rates s.clock ≡ rate_at now s.clock = sym (kept_rate rates t.clock next s.clock apart) in
    let b : next ≡ rate_at now t.clock = sym (get_or-set_same rates t.clock next no_rate l) in
    let need = need_at needs m in
    elim (even_new need s t (rate_at rates s.clock) next terms e) [
      | inl w ↦
          let h : IsEvenFor need (rate_at now s.clock) (rate_at now t.clock) = subst (λ (z : Fraction). IsEvenFor need (rate_at now s.clock) z) b (subst (λ (z : Fraction). IsEvenFor need z next) a w.1) in
          subst (λ (y : Term). IsEvenFor need (rate_at now (first_of need).clock) (rate_at now y.clock)) w.0.1 (subst (λ (x : Term). IsEvenFor need (rate_at now x.clock) (rate_at now t.clock)) w.0.0 h)
      | inr w ↦
          let h : IsEvenFor need (rate_at now t.clock) (rate_at now s.clock) = subst (λ (z : Fraction). IsEvenFor need (rate_at now t.clock) z) a (subst (λ (z : Fraction). IsEvenFor need z (rate_at rates s.clock)) b w.1) in
          subst (λ (y : Term). IsEvenFor need (rate_at now y.clock) (rate_at now (second_of need).clock)) w.0.1 (subst (λ (x : Term). IsEvenFor need (rate_at now t.clock) (rate_at now x.clock)) w.0.0 h)
    ]

-- one more need and its new clock
pub rated_step : (needs : List Need) (clocks root : ℕ) (tree : List ℕ) (m : ℕ) (roots parents depths : List ℕ) (rates : List Fraction) (s t : Term) (next : Fraction) → IsRated needs root tree parents depths rates → IsAt needs clocks root tree m roots s t →
    IsRateFraction next → next.num * ((rate_at rates s.clock).den * (length s.word.period * ones_in t.word.period)) ≡ (rate_at rates s.clock).num * (ones_in s.word.period * length t.word.period) * next.den →
    t.clock < length parents → t.clock < length depths → t.clock < length rates →
    IsRated needs root (tree ++ m ∷ []) (set parents t.clock m) (set depths t.clock (get_or depths s.clock 0 + 1)) (set rates t.clock next)
rated_step needs clocks root tree m roots parents depths rates s t next h at good e in_parents in_depths in_rates =
    let new = t.clock in
    let joint = at.joint in
    let root_old : root ≡ new → ⊥ = λ z. joint.fresh (inl (sym z)) in
    let apart : s.clock ≡ new → ⊥ = λ z. joint.fresh (subst (IsReachedByTree needs root tree) z joint.there) in
    record {
      rate = λ x r. elim (cases_eq x new) [
        | inl z ↦ subst IsRateFraction (sym (ap (λ y. rate_at (set rates new next) y) z ∙ get_or-set_same rates new next no_rate in_rates)) good
        | inr n ↦ subst IsRateFraction (sym (kept_rate rates new next x (λ z. absurd (omega arith)))) (h.rate x (old_or_new needs root tree m s.clock new x joint r (λ z. absurd (omega arith))))
      ];
      num = ap (λ (z : Fraction). z.num) (kept_rate rates new next root root_old) ∙ h.num;
      den = ap (λ (z : Fraction). z.den) (kept_rate rates new next root root_old) ∙ h.den;
      even = λ k i. elim (Contains-push_cases tree m k i) [
        | inl old ↦ even_kept needs rates new next k
            (λ z. joint.fresh (subst (IsReachedByTree needs root tree) z (inr (k, old, inl refl))))
            (λ z. joint.fresh (subst (IsReachedByTree needs root tree) z (inr (k, old, inr refl)))) (h.even k old)
        | inr same ↦ subst (IsEvenBy needs (set rates new next)) same (even_at needs m s t rates next apart in_rates at.terms e)
      ];
      top = kept depths new (get_or depths s.clock 0 + 1) root root_old ∙ h.top;
      up = λ x r n. elim (cases_eq x new) [
        | inl z ↦ subst (IsUp needs (tree ++ m ∷ []) (set parents new m) (set depths new (get_or depths s.clock 0 + 1))) (sym z)
            (up_new needs tree parents depths m s.clock new in_parents in_depths apart (ends_of (need_at needs m) s t at.terms))
        | inr z ↦ up_kept needs root tree parents depths m new (get_or depths s.clock 0 + 1) x (λ y. absurd (omega arith)) joint.fresh
            (h.up x (old_or_new needs root tree m s.clock new x joint r (λ y. absurd (omega arith))) n)
      ];
    }

pub kept_step : (root : ℕ) (r0 p0 d0 : List ℕ) (x0 : List Fraction) (r p d : List ℕ) (x : List Fraction) (new m v : ℕ) (next : Fraction) → AreKept root r0 p0 d0 x0 r p d x → get_or r new 0 ≡ no_number → new < length r →
    AreKept root r0 p0 d0 x0 (set r new root) (set p new m) (set d new v) (set x new next)
kept_step root r0 p0 d0 x0 r p d x new m v next h none l =
    let other : (c : ℕ) → (get_or r0 c 0 ≡ no_number → ⊥) → c ≡ new → ⊥ = λ c old e. old (sym (h.root_kept c old) ∙ ap (λ z. get_or r z 0) e ∙ none) in
    record {
      root_kept = λ c old. kept r new root c (other c old) ∙ h.root_kept c old;
      parent_kept = λ c old. kept p new m c (other c old) ∙ h.parent_kept c old;
      depth_kept = λ c old. kept d new v c (other c old) ∙ h.depth_kept c old;
      rate_kept = λ c old. kept_rate x new next c (other c old) ∙ h.rate_kept c old;
      near = λ c old. elim (cases_eq c new) [
        | inl e ↦ inr (ap (λ z. get_or (set r new root) z 0) e ∙ get_or-set_same r new root 0 l)
        | inr n ↦ (let k = kept r new root c (λ z. absurd (omega arith)) in elim (h.near c old) [ inl w ↦ inl (k ∙ w) | inr w ↦ inr (k ∙ w) ])
      ];
    }

pub deep_step : (roots depths : List ℕ) (new root old : ℕ) → AreDeep roots depths → get_or roots new 0 ≡ no_number → new < length roots → new < length depths → (root ≡ no_number → ⊥) →
    AreDeep (set roots new root) (set depths new (get_or depths old 0 + 1))
deep_step roots depths new root old h none l m is_root c =
    let one = one_fewer roots new root l none is_root in
    let len = length-set roots new root in
    let v = get_or depths old 0 + 1 in
    elim (cases_eq c new) [
      | inl e ↦ (let a : get_or (set depths new v) c 0 ≡ v = ap (λ z. get_or (set depths new v) z 0) e ∙ get_or-set_same depths new v 0 m in let b = h old in omega arith)
      | inr n ↦ (let a = kept depths new v c (λ z. absurd (omega arith)) in let b = h c in omega arith)
    ]

-- the way from the root to a clock that the tree reaches
pub record IsPath (needs : List Need) (root : ℕ) (tree : List ℕ) (c : ℕ) : Type 0 where
  pub walk : List ℕ
  pub num : ℕ
  pub den : ℕ
  pub along : IsNeedWalk needs walk root c num den
  pub in_tree : All (Contains tree) walk

pub path_on : (needs : List Need) (root : ℕ) (tree : List ℕ) (e c k a b : ℕ) → IsPath needs root tree e → k < length needs → Contains tree k → LeadsBetween (need_at needs k) e c a b → IsPath needs root tree c
path_on needs root tree e c k a b h l i leads = record {
  walk = h.walk ++ k ∷ [];
  num = h.num * a;
  den = h.den * b;
  along = walk_append needs h.walk (k ∷ []) root e c h.num h.den a b h.along (one_walk needs k e c a b l leads);
  in_tree = All-push (Contains tree) h.walk k h.in_tree i;
}

path_up : (needs : List Need) (root : ℕ) (tree parents depths : List ℕ) (c : ℕ) → ((k : ℕ) → Contains tree k → k < length needs) →
    ((e : ℕ) → get_or depths e 0 + 1 ≡ get_or depths c 0 → IsReachedByTree needs root tree e → IsPath needs root tree e) → IsUp needs tree parents depths c → IsPath needs root tree c
path_up needs root tree parents depths c within above up =
    let k = get_or parents c 0 in
    let s = first_of (need_at needs k) in
    let t = second_of (need_at needs k) in
    elim up.one_up [
      | inl w ↦ path_on needs root tree t.clock c k (under (need_at needs k)) (over (need_at needs k))
          (above t.clock w.1 (inr (k, up.in_tree, inr refl))) (within k up.in_tree) up.in_tree (inr (refl, w.0, refl, refl))
      | inr w ↦ path_on needs root tree s.clock c k (over (need_at needs k)) (under (need_at needs k))
          (above s.clock w.1 (inr (k, up.in_tree, inl refl))) (within k up.in_tree) up.in_tree (inl (refl, w.0, refl, refl))
    ]

pub path_to : (needs : List Need) (root : ℕ) (tree parents depths : List ℕ) (rates : List Fraction) → IsRated needs root tree parents depths rates → ((k : ℕ) → Contains tree k → k < length needs) →
    (n c : ℕ) → get_or depths c 0 < n → IsReachedByTree needs root tree c → IsPath needs root tree c
path_to needs root tree parents depths rates h within zero c l r = absurd (omega arith)
path_to needs root tree parents depths rates h within (suc n) c l r = elim (cases_eq c root) [
  | inl e ↦ subst (IsPath needs root tree) (sym e) (record { walk = []; num = 1; den = 1; along = (refl, refl, refl); in_tree = All-nil (Contains tree) })
  | inr e ↦ path_up needs root tree parents depths c within (λ x q s. path_to needs root tree parents depths rates h within n x (omega arith) s) (h.up c r (λ z. absurd (omega arith)))
]

-- the needs of the tree are level by its rates
pub level_tree : (needs : List Need) (root : ℕ) (tree parents depths : List ℕ) (rates : List Fraction) → IsRated needs root tree parents depths rates → (walk : List ℕ) → All (Contains tree) walk → All (IsLevel needs rates) walk
level_tree needs root tree parents depths rates h walk all = All-weaker (Contains tree) (IsLevel needs rates)
    (λ k i. record { even = h.even k i; first = (h.rate (first_of (need_at needs k)).clock (inr (k, i, inl refl))).den; second = (h.rate (second_of (need_at needs k)).clock (inr (k, i, inr refl))).den }) walk all
