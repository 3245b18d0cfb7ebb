-- How a tree grows.
use Rattle.std.proofs.Common.{◌≡◌, ℕ, ◌+◌, ◌-◌, ◌*◌, ◌<◌, ◌≤◌, ◌⊎◌, List, [], ◌∷◌, ◌++◌, length, get_or, set, min, take, cond, eqb, inl, inr, sym, ap, ◌∙◌, subst, refl, arith, length-append, replicate}
use Rattle.std.proofs.lemmas.Bool.{cases_lt, cases_eq}
use Rattle.std.proofs.lemmas.List.{length-replicate, get_or-replicate, get_or_append_left, get_or-append-add, take-append-le, take_all, get_or-set_same, get_or-set_other, length-set, get_or_default}
use Rattle.std.proofs.lemmas.List.Elements.{Contains-append_left, Contains-push, Contains-push_cases}
use Rattle.std.specs.List.{All, count_by}
use Rattle.std.proofs.lemmas.List.Sums.{sum_by-set}
use Rattle.std.proofs.lemmas.Bool.Decides.{eqb_tells}
use Rattle.lucy_need.specs.Meeting.{IsWithin}
use Rattle.lucy_need.specs.declared.need.Need.TheVariants.{Equal, Adapt}
use Rattle.lucy_need.specs.declared.need.Term.{Term}
use Rattle.lucy_need.specs.declared.need.Need.{Need}
use Rattle.lucy_rates.specs.Walks.{first_of, second_of, need_at, no_need}
use Rattle.lucy_rates.specs.Trees.{IsTree, IsReachedByTree, IsNamedBy, JoinsMore}
use Rattle.lucy_rates.specs.Growing.{no_number, IsJoiningStep, IsNear, IsGrowing, set_at, AreFirstNeeds, AreFirstSoFar}

-- reached before, or by the need that is added
pub reached_cases : (needs : List Need) (root : ℕ) (tree : List ℕ) (m x : ℕ) → IsReachedByTree needs root (tree ++ m ∷ []) x → IsReachedByTree needs root tree x ⊎ IsNamedBy x (need_at needs m)
reached_cases needs root tree m x (inl e) = inl (inl e)
reached_cases needs root tree m x (inr h) = elim (Contains-push_cases tree m h.0 h.1) [
  | inl old ↦ inl (inr (h.0, old, h.2))
  | inr same ↦ inr (subst (λ (k : ℕ). IsNamedBy x (need_at needs k)) (sym same) h.2)
]

pub reached_kept : (needs : List Need) (root : ℕ) (tree : List ℕ) (m x : ℕ) → IsReachedByTree needs root tree x → IsReachedByTree needs root (tree ++ m ∷ []) x
reached_kept needs root tree m x (inl e) = inl e
reached_kept needs root tree m x (inr h) = inr (h.0, Contains-append_left tree (m ∷ []) h.0 h.1, h.2)

pub reached_new : (needs : List Need) (root : ℕ) (tree : List ℕ) (m x : ℕ) → IsNamedBy x (need_at needs m) → IsReachedByTree needs root (tree ++ m ∷ []) x
reached_new needs root tree m x h = inr (m, Contains-push tree m, h)

-- no need below the place joins more, nor that at the place: the place moves on
pub growth_skip : (needs : List Need) (clocks root : ℕ) (tree : List ℕ) (at : ℕ) (roots : List ℕ) → IsGrowing needs clocks root tree at roots →
    (JoinsMore needs root tree (need_at needs at) → ⊥) → IsGrowing needs clocks root tree (at + 1) roots
growth_skip needs clocks root tree at roots h none = record {
  within = h.within;
  joins = h.joins;
  first = h.first;
  below = λ k l m. elim (cases_eq k at) [
    | inl e ↦ subst (λ (i : ℕ). JoinsMore needs root tree (need_at needs i) → ⊥) (sym e) none
    | inr n ↦ h.below k (omega arith) m
  ];
  reached = h.reached;
  apart = h.apart;
  apart_too = h.apart_too;
}

-- past the last need the tree is done
pub growth_done : (needs : List Need) (clocks root : ℕ) (tree : List ℕ) (at : ℕ) (roots : List ℕ) → IsGrowing needs clocks root tree at roots → length needs ≤ at → IsTree needs root tree
growth_done needs clocks root tree at roots h l = record { within = h.within; joins = h.joins; first = h.first; done = λ k m. h.below k (omega arith) m }

-- what joins the tree that is grown, and names not the clock that is new, joined before
joins_before : (needs : List Need) (root : ℕ) (tree : List ℕ) (m old new : ℕ) (need : Need) → ((x : ℕ) → IsNamedBy x (need_at needs m) → (x ≡ old) ⊎ (x ≡ new)) → IsReachedByTree needs root tree old → (IsNamedBy new need → ⊥) →
    JoinsMore needs root (tree ++ m ∷ []) need → JoinsMore needs root tree need
joins_before needs root tree m old new need names there apart h =
    let back : (x : ℕ) → (x ≡ new → ⊥) → IsReachedByTree needs root (tree ++ m ∷ []) x → IsReachedByTree needs root tree x = λ x n r. elim (reached_cases needs root tree m x r) [
      | inl a ↦ a
      | inr a ↦ elim (names x a) [ inl e ↦ subst (IsReachedByTree needs root tree) (sym e) there | inr e ↦ absurd (n e) ]
    ] in
    elim h [
      | inl w ↦ inl (back (first_of need).clock (λ e. apart (inl e)) w.0, λ r. w.1 (reached_kept needs root tree m (second_of need).clock r))
      | inr w ↦ inr (back (second_of need).clock (λ e. apart (inr e)) w.0, λ r. w.1 (reached_kept needs root tree m (first_of need).clock r))
    ]

-- the clocks of a step
pub record IsJoint (needs : List Need) (root : ℕ) (tree : List ℕ) (m old new : ℕ) : Type 0 where
  pub joins : JoinsMore needs root tree (need_at needs m)
  pub there : IsReachedByTree needs root tree old
  pub fresh : IsReachedByTree needs root tree new → ⊥
  pub is_named : IsNamedBy new (need_at needs m)
  pub names : (x : ℕ) → IsNamedBy x (need_at needs m) → (x ≡ old) ⊎ (x ≡ new)

at_end : (tree : List ℕ) (m : ℕ) → get_or (tree ++ m ∷ []) (length tree) 0 ≡ m
at_end tree m = ap (λ n. get_or (tree ++ m ∷ []) n 0) (let e : length tree ≡ length tree + 0 = omega arith in e) ∙ get_or-append-add tree (m ∷ []) 0 0

front_all : (tree : List ℕ) (m : ℕ) → take (length tree) (tree ++ m ∷ []) ≡ tree
front_all tree m = take-append-le (length tree) tree (m ∷ []) (omega arith) ∙ take_all (length tree) tree (omega arith)

-- the new clock had no root and has that of the tree
near_to : (roots : List ℕ) (new root x : ℕ) → new < length roots → IsNear roots root x → IsNear (set roots new root) root x
near_to roots new root x l h = elim (cases_eq x new) [
  | inl e ↦ inr (ap (λ z. get_or (set roots new root) z 0) e ∙ get_or-set_same roots new root 0 l)
  | inr n ↦ (let same : get_or (set roots new root) x 0 ≡ get_or roots x 0 = get_or-set_other roots new x root 0 (omega arith) in elim h [ inl w ↦ inl (same ∙ w) | inr w ↦ inr (same ∙ w) ])
]

near_from : (roots : List ℕ) (new root x : ℕ) → get_or roots new 0 ≡ no_number → IsNear (set roots new root) root x → IsNear roots root x
near_from roots new root x none h = elim (cases_eq x new) [
  | inl e ↦ inl (ap (λ z. get_or roots z 0) e ∙ none)
  | inr n ↦ (let same : get_or (set roots new root) x 0 ≡ get_or roots x 0 = get_or-set_other roots new x root 0 (omega arith) in elim h [ inl w ↦ inl (sym same ∙ w) | inr w ↦ inr (sym same ∙ w) ])
]

-- the need at the place joins more: it is added, and the place goes back to the first need that names the new clock
pub growth_step : (needs : List Need) (clocks root : ℕ) (tree : List ℕ) (m at old new : ℕ) (roots : List ℕ) → IsGrowing needs clocks root tree m roots →
    m < length needs → IsJoint needs root tree m old new → at ≤ m → ((k : ℕ) → k < at → IsNamedBy new (need_at needs k) → ⊥) → get_or roots new 0 ≡ no_number →
    new < length roots →
    IsGrowing needs clocks root (tree ++ m ∷ []) at (set roots new root)
growth_step needs clocks root tree m at old new roots h l joint before names fresh in_roots = record {
  within = λ i k. (let e = length-append tree (m ∷ []) in elim (cases_lt i (length tree)) [
    | inl low ↦ subst (λ (z : ℕ). z < length needs) (sym (get_or_append_left tree (m ∷ []) 0 i low)) (h.within i low)
    | inr high ↦ subst (λ (z : ℕ). get_or (tree ++ m ∷ []) z 0 < length needs) (let f : length tree ≡ i = omega arith in f) (subst (λ (z : ℕ). z < length needs) (sym (at_end tree m)) l)
  ]);
  joins = λ i k. (let e = length-append tree (m ∷ []) in elim (cases_lt i (length tree)) [
    | inl low ↦ subst (λ (z : List ℕ). JoinsMore needs root z (need_at needs (get_or (tree ++ m ∷ []) i 0))) (sym (take-append-le i tree (m ∷ []) (omega arith)))
        (subst (λ (z : ℕ). JoinsMore needs root (take i tree) (need_at needs z)) (sym (get_or_append_left tree (m ∷ []) 0 i low)) (h.joins i low))
    | inr high ↦ subst (λ (j : ℕ). JoinsMore needs root (take j (tree ++ m ∷ [])) (need_at needs (get_or (tree ++ m ∷ []) j 0))) (let f : length tree ≡ i = omega arith in f)
        (subst (λ (z : List ℕ). JoinsMore needs root z (need_at needs (get_or (tree ++ m ∷ []) (length tree) 0))) (sym (front_all tree m))
        (subst (λ (z : ℕ). JoinsMore needs root tree (need_at needs z)) (sym (at_end tree m)) joint.joins))
  ]);
  first = λ i k a b. (let e = length-append tree (m ∷ []) in elim (cases_lt i (length tree)) [
    | inl low ↦ subst (λ (z : List ℕ). JoinsMore needs root z (need_at needs k) → ⊥) (sym (take-append-le i tree (m ∷ []) (omega arith)))
        (h.first i k low (subst (λ (z : ℕ). k < z) (get_or_append_left tree (m ∷ []) 0 i low) b))
    | inr high ↦
        let f : i ≡ length tree = omega arith in
        let lower : k < m = subst (λ (z : ℕ). k < z) (ap (λ z. get_or (tree ++ m ∷ []) z 0) f ∙ at_end tree m) b in
        subst (λ (z : List ℕ). JoinsMore needs root z (need_at needs k) → ⊥) (sym (ap (λ z. take z (tree ++ m ∷ [])) f ∙ front_all tree m)) (h.below k lower (omega arith))
  ]);
  below = λ k a b j. h.below k (omega arith) b (joins_before needs root tree m old new (need_at needs k) joint.names joint.there (names k a) j);
  reached = λ x k. elim (cases_eq x new) [
    | inl e ↦ (
      λ r. subst (IsReachedByTree needs root (tree ++ m ∷ [])) (sym e) (reached_new needs root tree m new joint.is_named),
      λ r. ap (λ z. get_or (set roots new root) z 0) e ∙ get_or-set_same roots new root 0 in_roots,
    )
    | inr n ↦
        let kept : get_or (set roots new root) x 0 ≡ get_or roots x 0 = get_or-set_other roots new x root 0 (omega arith) in
        let was = h.reached x k in (
          λ r. reached_kept needs root tree m x (was.0 (sym kept ∙ r)),
          λ r. kept ∙ was.1 (elim (reached_cases needs root tree m x r) [ inl a ↦ a | inr a ↦ elim (joint.names x a) [ inl e ↦ subst (IsReachedByTree needs root tree) (sym e) joint.there | inr e ↦ absurd (n e) ] ]),
        )
  ];
  apart = λ k b n. near_to roots new root (second_of (need_at needs k)).clock in_roots (h.apart k b (near_from roots new root (first_of (need_at needs k)).clock fresh n));
  apart_too = λ k b n. near_to roots new root (first_of (need_at needs k)).clock in_roots (h.apart_too k b (near_from roots new root (second_of (need_at needs k)).clock fresh n));
}

-- a step is a joint
pub joint_at : (needs : List Need) (clocks root : ℕ) (tree : List ℕ) (m at : ℕ) (roots : List ℕ) (old new : ℕ) → IsGrowing needs clocks root tree at roots → m < length needs → (root ≡ no_number → ⊥) →
    old < clocks → new < clocks → (get_or roots old 0 ≡ no_number → ⊥) → get_or roots new 0 ≡ no_number →
    (((first_of (need_at needs m)).clock ≡ old) × ((second_of (need_at needs m)).clock ≡ new)) ⊎ (((second_of (need_at needs m)).clock ≡ old) × ((first_of (need_at needs m)).clock ≡ new)) →
    IsJoint needs root tree m old new
joint_at needs clocks root tree m at roots old new h l is_root in_old in_new some none (inl e) =
    let there : IsReachedByTree needs root tree old = elim (h.apart_too m l (inl (ap (λ z. get_or roots z 0) e.1 ∙ none))) [
      | inl w ↦ absurd (some (sym (ap (λ z. get_or roots z 0) e.0) ∙ w))
      | inr w ↦ (h.reached old in_old).0 (sym (ap (λ z. get_or roots z 0) e.0) ∙ w)
    ] in
    let fresh : IsReachedByTree needs root tree new → ⊥ = λ r. is_root (sym ((h.reached new in_new).1 r) ∙ none) in
    record {
      joins = inl (subst (IsReachedByTree needs root tree) (sym e.0) there, λ r. fresh (subst (IsReachedByTree needs root tree) e.1 r));
      there = there;
      fresh = fresh;
      is_named = inr e.1;
      names = λ x n. elim n [ inl w ↦ inl (sym w ∙ e.0) | inr w ↦ inr (sym w ∙ e.1) ];
    }
joint_at needs clocks root tree m at roots old new h l is_root in_old in_new some none (inr e) =
    let there : IsReachedByTree needs root tree old = elim (h.apart m l (inl (ap (λ z. get_or roots z 0) e.1 ∙ none))) [
      | inl w ↦ absurd (some (sym (ap (λ z. get_or roots z 0) e.0) ∙ w))
      | inr w ↦ (h.reached old in_old).0 (sym (ap (λ z. get_or roots z 0) e.0) ∙ w)
    ] in
    let fresh : IsReachedByTree needs root tree new → ⊥ = λ r. is_root (sym ((h.reached new in_new).1 r) ∙ none) in
    record {
      joins = inr (subst (IsReachedByTree needs root tree) (sym e.0) there, λ r. fresh (subst (IsReachedByTree needs root tree) e.1 r));
      there = there;
      fresh = fresh;
      is_named = inl e.1;
      names = λ x n. elim n [ inl w ↦ inr (sym w ∙ e.1) | inr w ↦ inl (sym w ∙ e.0) ];
    }

-- without a step nothing is joined
pub none_joins : (needs : List Need) (clocks root : ℕ) (tree : List ℕ) (at : ℕ) (roots : List ℕ) → IsGrowing needs clocks root tree at roots → at < length needs → (root ≡ no_number → ⊥) →
    (first_of (need_at needs at)).clock < clocks → (second_of (need_at needs at)).clock < clocks → ((s t : Term) → IsJoiningStep roots (need_at needs at) s t → ⊥) → JoinsMore needs root tree (need_at needs at) → ⊥
none_joins needs clocks root tree at roots h l is_root a b none (inl w) =
    let r = (h.reached (first_of (need_at needs at)).clock a).1 w.0 in
    elim (h.apart at l (inr r)) [
      | inl e ↦ none (first_of (need_at needs at)) (second_of (need_at needs at)) (inl (refl, refl), (λ z. is_root (sym r ∙ z)), e)
      | inr e ↦ w.1 ((h.reached (second_of (need_at needs at)).clock b).0 e)
    ]
none_joins needs clocks root tree at roots h l is_root a b none (inr w) =
    let r = (h.reached (second_of (need_at needs at)).clock b).1 w.0 in
    elim (h.apart_too at l (inr r)) [
      | inl e ↦ none (second_of (need_at needs at)) (first_of (need_at needs at)) (inr (refl, refl), (λ z. is_root (sym r ∙ z)), e)
      | inr e ↦ w.1 ((h.reached (first_of (need_at needs at)).clock a).0 e)
    ]

pub both_within : (n : ℕ) (need : Need) → IsWithin n need → ((first_of need).clock < n) × ((second_of need).clock < n)
both_within n (Equal s t) h = h
both_within n (Adapt s t) h = h

pub need_is : (needs : List Need) (at : ℕ) (need : Need) → at < length needs → need ≡ get_or needs at need → need ≡ need_at needs at
need_is needs at need l e = e ∙ get_or_default needs at need no_need l

pub skip_at : (needs : List Need) (clocks root : ℕ) (tree : List ℕ) (at : ℕ) (roots : List ℕ) (need : Need) → IsGrowing needs clocks root tree at roots → at < length needs → (root ≡ no_number → ⊥) →
    All (IsWithin clocks) needs → need ≡ get_or needs at need → ((s t : Term) → IsJoiningStep roots need s t → ⊥) → IsGrowing needs clocks root tree (at + 1) roots
skip_at needs clocks root tree at roots need h l is_root within e none =
    let w = both_within clocks (need_at needs at) (within at no_need l) in
    growth_skip needs clocks root tree at roots h (none_joins needs clocks root tree at roots h l is_root w.0 w.1
    (subst (λ (n : Need). (s t : Term) → IsJoiningStep roots n s t → ⊥) (need_is needs at need l e) none))

pub record IsAt (needs : List Need) (clocks root : ℕ) (tree : List ℕ) (at : ℕ) (roots : List ℕ) (s t : Term) : Type 0 where
  pub joint : IsJoint needs root tree at s.clock t.clock
  pub first : s.clock < clocks
  pub second : t.clock < clocks
  pub fresh : get_or roots t.clock 0 ≡ no_number
  pub terms : ((s ≡ first_of (need_at needs at)) × (t ≡ second_of (need_at needs at))) ⊎ ((s ≡ second_of (need_at needs at)) × (t ≡ first_of (need_at needs at)))

pub step_at : (needs : List Need) (clocks root : ℕ) (tree : List ℕ) (at : ℕ) (roots : List ℕ) (need : Need) (s t : Term) → IsGrowing needs clocks root tree at roots → at < length needs → (root ≡ no_number → ⊥) →
    All (IsWithin clocks) needs → need ≡ get_or needs at need → IsJoiningStep roots need s t → IsAt needs clocks root tree at roots s t
step_at needs clocks root tree at roots need s t h l is_root within e step =
    let w = both_within clocks (need_at needs at) (within at no_need l) in
    let is : IsJoiningStep roots (need_at needs at) s t = subst (λ (n : Need). IsJoiningStep roots n s t) (need_is needs at need l e) step in
    elim is.0 [
      | inl k ↦
          let a = ap (λ (z : Term). z.clock) k.0 in
          let b = ap (λ (z : Term). z.clock) k.1 in
          record {
            first = omega (arith, w.0, a);
            second = omega (arith, w.1, b);
            fresh = is.2;
            terms = inl k;
            joint = joint_at needs clocks root tree at at roots s.clock t.clock h l is_root (omega (arith, w.0, a)) (omega (arith, w.1, b)) is.1 is.2 (inl (sym a, sym b));
          }
      | inr k ↦
          let a = ap (λ (z : Term). z.clock) k.0 in
          let b = ap (λ (z : Term). z.clock) k.1 in
          record {
            first = omega (arith, w.1, a);
            second = omega (arith, w.0, b);
            fresh = is.2;
            terms = inr k;
            joint = joint_at needs clocks root tree at at roots s.clock t.clock h l is_root (omega (arith, w.1, a)) (omega (arith, w.0, b)) is.1 is.2 (inr (sym a, sym b));
          }
    ]

-- one clock less has no root
pub one_fewer : (roots : List ℕ) (c root : ℕ) → c < length roots → get_or roots c 0 ≡ no_number → (root ≡ no_number → ⊥) →
    count_by (λ r. eqb r no_number) (set roots c root) + 1 ≡ count_by (λ r. eqb r no_number) roots
one_fewer roots c root l none is_root =
    let f : ℕ → ℕ = λ r. cond (eqb r no_number) 1 0 in
    let e = sum_by-set f roots c root 0 l in
    let one : f (get_or roots c 0) ≡ 0 + 1 = ap f none in
    let no' : f root ≡ 0 + 0 = elim (eqb_tells root no_number) [ inl z ↦ absurd (is_root z.1) | inr z ↦ ap (λ x. cond x 1 0) z.0 ] in
    omega arith

-- fewer clocks are left
pub fewer : (roots : List ℕ) (c root n a b : ℕ) → c < length roots → get_or roots c 0 ≡ no_number → (root ≡ no_number → ⊥) →
    count_by (λ r. eqb r no_number) (set roots c root) * (n + 1) + (n - a) < count_by (λ r. eqb r no_number) roots * (n + 1) + (n - b)
fewer roots c root n a b l none is_root =
    let f : ℕ → ℕ = λ r. cond (eqb r no_number) 1 0 in
    let e = sum_by-set f roots c root 0 l in
    let one : f (get_or roots c 0) ≡ 0 + 1 = ap f none in
    let no' : f root ≡ 0 + 0 = elim (eqb_tells root no_number) [ inl z ↦ absurd (is_root z.1) | inr z ↦ ap (λ x. cond x 1 0) z.0 ] in
    let less : count_by (λ r. eqb r no_number) (set roots c root) + 1 ≡ count_by (λ r. eqb r no_number) roots = omega arith in
    let g : (count_by (λ r. eqb r no_number) (set roots c root) + 1) * (n + 1) ≡ count_by (λ r. eqb r no_number) roots * (n + 1) = ap (λ z. z * (n + 1)) less in
    omega arith

set_less : (list : List ℕ) (c k x : ℕ) → c < length list → get_or (set_at list c k) x 0 ≤ get_or list x 0
set_less list c k x l = elim (cases_eq x c) [
  | inl e ↦ (let a : get_or (set_at list c k) x 0 ≡ min (get_or list c 0) k = ap (λ z. get_or (set_at list c k) z 0) e ∙ get_or-set_same list c (min (get_or list c 0) k) 0 l in let b : get_or list x 0 ≡ get_or list c 0 = ap (λ z. get_or list z 0) e in omega arith)
  | inr n ↦ (let a : get_or (set_at list c k) x 0 ≡ get_or list x 0 = get_or-set_other list c x (min (get_or list c 0) k) 0 (omega arith) in omega arith)
]

set_most : (list : List ℕ) (c k : ℕ) → c < length list → get_or (set_at list c k) c 0 ≤ k
set_most list c k l = let a = get_or-set_same list c (min (get_or list c 0) k) 0 l in omega arith

set_cases : (list : List ℕ) (c k x : ℕ) → c < length list → (get_or (set_at list c k) x 0 ≡ get_or list x 0) ⊎ ((x ≡ c) × (get_or (set_at list c k) x 0 ≡ k))
set_cases list c k x l = elim (cases_eq x c) [
  | inr n ↦ inl (get_or-set_other list c x (min (get_or list c 0) k) 0 (omega arith))
  | inl e ↦
      let a : get_or (set_at list c k) x 0 ≡ min (get_or list c 0) k = ap (λ z. get_or (set_at list c k) z 0) e ∙ get_or-set_same list c (min (get_or list c 0) k) 0 l in
      let b : get_or list x 0 ≡ get_or list c 0 = ap (λ z. get_or list z 0) e in
      elim (cases_lt (get_or list c 0) k) [ inl m ↦ inl (omega arith) | inr m ↦ inr (e, omega arith) ]
]

pub named_more : (needs : List Need) (clocks k a b : ℕ) (list : List ℕ) → AreFirstSoFar needs clocks k list → a < clocks → b < clocks → (first_of (need_at needs k)).clock ≡ a → (second_of (need_at needs k)).clock ≡ b →
    AreFirstSoFar needs clocks (k + 1) (set_at (set_at list a k) b k)
named_more needs clocks k a b list h la lb e f =
    let one = set_at list a k in
    let size = h.size in
    let l1 = length-set list a (min (get_or list a 0) k) in
    let l2 = length-set one b (min (get_or one b 0) k) in
    let less : (x : ℕ) → get_or (set_at one b k) x 0 ≤ get_or list x 0 = λ x. (let p = set_less list a k x (omega arith) in let q = set_less one b k x (omega arith) in omega arith) in
    record {
      size = omega arith;
      before = λ c j m l low n. (let p = less c in elim (cases_lt j k) [
        | inl early ↦ h.before c j m early (omega arith) n
        | inr late ↦
            let j_is : j ≡ k = omega arith in
            elim (subst (λ (z : ℕ). IsNamedBy c (need_at needs z)) j_is n) [
              | inl w ↦ (let c_is : c ≡ a = sym w ∙ e in let q = set_less one b k a (omega arith) in let r = set_most list a k (omega arith) in let s : get_or (set_at one b k) c 0 ≡ get_or (set_at one b k) a 0 = ap (λ z. get_or (set_at one b k) z 0) c_is in absurd (omega arith))
              | inr w ↦ (let c_is : c ≡ b = sym w ∙ f in let r = set_most one b k (omega arith) in let s : get_or (set_at one b k) c 0 ≡ get_or (set_at one b k) b 0 = ap (λ z. get_or (set_at one b k) z 0) c_is in absurd (omega arith))
            ]
      ]);
      within = λ c m. (let p = less c in let q = h.within c m in omega arith);
      named = λ c m l. elim (set_cases one b k c (omega arith)) [
        | inl p ↦ elim (set_cases list a k c (omega arith)) [
          | inl q ↦ (let e' = p ∙ q in subst (λ (z : ℕ). IsNamedBy c (need_at needs z)) (sym e') (h.named c m (omega arith)))
          | inr q ↦ subst (λ (z : ℕ). IsNamedBy c (need_at needs z)) (sym (p ∙ q.1)) (inl (e ∙ sym q.0))
        ]
        | inr p ↦ subst (λ (z : ℕ). IsNamedBy c (need_at needs z)) (sym p.1) (inr (f ∙ sym p.0))
      ];
    }

pub named_step : (needs : List Need) (clocks k : ℕ) (list mid last : List ℕ) (need : Need) (s t : Term) → AreFirstSoFar needs clocks k list → All (IsWithin clocks) needs → k < length needs → need ≡ get_or needs k need → s ≡ first_of need → t ≡ second_of need →
    mid ≡ set_at list s.clock k → last ≡ set_at mid t.clock k → AreFirstSoFar needs clocks (k + 1) last
named_step needs clocks k list mid last need s t h within l e f g m n =
    let is = need_is needs k need l e in
    let w = both_within clocks (need_at needs k) (within k no_need l) in
    let a : (first_of (need_at needs k)).clock ≡ s.clock = ap (λ (z : Need). (first_of z).clock) (sym is) ∙ ap (λ (z : Term). z.clock) (sym f) in
    let b : (second_of (need_at needs k)).clock ≡ t.clock = ap (λ (z : Need). (second_of z).clock) (sym is) ∙ ap (λ (z : Term). z.clock) (sym g) in
    subst (AreFirstSoFar needs clocks (k + 1)) (sym (n ∙ ap (λ z. set_at z t.clock k) m)) (named_more needs clocks k s.clock t.clock list h (omega (arith, w.0, a)) (omega (arith, w.1, b)) a b)

-- before any need the number of needs stands for each clock
pub named_none : (needs : List Need) (n m : ℕ) (list : List ℕ) → list ≡ replicate n m → m ≡ length needs → AreFirstSoFar needs (length list) 0 list
named_none needs n m list e f =
    let size : length list ≡ n = ap length e ∙ length-replicate n m in
    let is : (c : ℕ) → c < length list → get_or list c 0 ≡ length needs = λ c l. ap (λ (x : List ℕ). get_or x c 0) e ∙ get_or-replicate n c m 0 (omega arith) ∙ f in
    record {
      size = refl;
      before = λ c k l upto. absurd (omega arith);
      within = λ c l. (let a = is c l in omega arith);
      named = λ c l m. (let a = is c l in absurd (omega arith));
    }

-- after all of them the first ones stand
pub named_all : (needs : List Need) (n clocks : ℕ) (firsts : List ℕ) → n ≡ clocks → AreFirstSoFar needs n (length needs) firsts → AreFirstNeeds needs clocks firsts
named_all needs n clocks firsts e h = record {
  size = h.size ∙ e;
  before = λ c k l below. (let w = h.within c (omega arith) in h.before c k (omega arith) (omega arith) below);
  within = λ c l. h.within c (omega arith);
  named = λ c l below. h.named c (omega arith) below;
}
