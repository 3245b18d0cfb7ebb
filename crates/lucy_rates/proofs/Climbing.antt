-- The way from one clock to another along their tree.
use Rattle.std.proofs.Common.{◌≡◌, ℕ, ◌+◌, ◌-◌, ◌*◌, ◌<◌, ◌≤◌, ◌⊎◌, List, [], ◌∷◌, ◌++◌, length, get_or, inl, inr, sym, ap, ◌∙◌, subst, refl, arith, length-append}
use Rattle.std.specs.Prelude.{reverse}
use Rattle.std.specs.List.{All, Contains}
use Rattle.std.proofs.lemmas.Bool.{cases_lt}
use Rattle.std.proofs.lemmas.List.{get_or_append_left, get_or-append_right, get_or-append-add, get_or-reverse, length-reverse, get_or_default}
use Rattle.std.proofs.lemmas.List.Elements.{All-nil, All-push, All-append, All-weaker, Contains-get_or, Contains-push_cases}
use Rattle.lucy_need.specs.Meeting.{IsWithin}
use Rattle.lucy_need.specs.declared.need.Need.{Need}
use Rattle.lucy_rates.specs.declared.fraction.Fraction.{Fraction}
use Rattle.lucy_rates.specs.Walks.{first_of, second_of, need_at, no_need, over, under, LeadsBetween, IsNeedWalk}
use Rattle.lucy_rates.specs.Trees.{IsReachedByTree}
use Rattle.lucy_rates.specs.Growing.{IsUp, IsEvenBy, ArePlanted, IsSimple, IsOther, IsWayBack, AreClimbing}
use Rattle.lucy_rates.proofs.Growing.{both_within}
use Rattle.lucy_rates.proofs.Walking.{walk_append, walk_back, one_walk}
use Rattle.lucy_rates.proofs.Completing.{contained}

-- one more number that wasn't there
pub simple_push : (xs : List ℕ) (x : ℕ) → IsSimple xs → (Contains xs x → ⊥) → IsSimple (xs ++ x ∷ [])
simple_push xs x h none i j l m e =
    let len = length-append xs (x ∷ []) in
    let low : get_or (xs ++ x ∷ []) i 0 ≡ get_or xs i 0 = get_or_append_left xs (x ∷ []) 0 i (omega arith) in
    elim (cases_lt j (length xs)) [
      | inl k ↦ h i j l k (sym low ∙ e ∙ get_or_append_left xs (x ∷ []) 0 j k)
      | inr k ↦
          let at : get_or (xs ++ x ∷ []) j 0 ≡ x = ap (λ n. get_or (xs ++ x ∷ []) n 0) (let z : j ≡ length xs + 0 = omega arith in z) ∙ get_or-append-add xs (x ∷ []) 0 0 in
          none (subst (Contains xs) (sym low ∙ e ∙ at) (Contains-get_or xs i 0 (omega arith)))
    ]

contains_reverse : (xs : List ℕ) (x : ℕ) → Contains (reverse xs) x → Contains xs x
contains_reverse xs x h =
    let len = length-reverse xs in
    let l = h.1 in
    let e : get_or xs (length xs - 1 - h.0) x ≡ x = sym (get_or-reverse xs h.0 x (omega arith)) ∙ h.2 in
    (length xs - 1 - h.0, (omega arith), e)

simple_reverse : (xs : List ℕ) → IsSimple xs → IsSimple (reverse xs)
simple_reverse xs h i j l m e =
    let len = length-reverse xs in
    h (length xs - 1 - j) (length xs - 1 - i) (omega arith) (omega arith) (sym (get_or-reverse xs j 0 (omega arith)) ∙ sym e ∙ get_or-reverse xs i 0 (omega arith))

simple_append : (xs ys : List ℕ) → IsSimple xs → IsSimple ys → ((k : ℕ) → Contains xs k → Contains ys k → ⊥) → IsSimple (xs ++ ys)
simple_append xs ys h k apart i j l m e =
    let len = length-append xs ys in
    elim (cases_lt j (length xs)) [
      | inl low ↦ h i j l low (sym (get_or_append_left xs ys 0 i (omega arith)) ∙ e ∙ get_or_append_left xs ys 0 j low)
      | inr high ↦
          let at_j : get_or (xs ++ ys) j 0 ≡ get_or ys (j - length xs) 0 = get_or-append_right xs ys (length xs) j 0 refl high in
          elim (cases_lt i (length xs)) [
            | inl low ↦ apart (get_or xs i 0) (Contains-get_or xs i 0 low)
                (subst (Contains ys) (sym at_j ∙ sym e ∙ get_or_append_left xs ys 0 i low) (Contains-get_or ys (j - length xs) 0 (omega arith)))
            | inr up ↦ k (i - length xs) (j - length xs) (omega arith) (omega arith) (sym (get_or-append_right xs ys (length xs) i 0 refl up) ∙ e ∙ at_j)
          ]
    ]

-- a need leads up from one clock alone
one_up_from : (needs : List Need) (tree parents depths : List ℕ) (z a : ℕ) → IsUp needs tree parents depths z → IsUp needs tree parents depths a → get_or parents z 0 ≡ get_or parents a 0 → z ≡ a
one_up_from needs tree parents depths z a h k e =
    let P : ℕ → Type 0 = λ m. (((first_of (need_at needs m)).clock ≡ z) × (get_or depths (second_of (need_at needs m)).clock 0 + 1 ≡ get_or depths z 0))
    ⊎ (((second_of (need_at needs m)).clock ≡ z) × (get_or depths (first_of (need_at needs m)).clock 0 + 1 ≡ get_or depths z 0)) in
    let same = subst P e h.one_up in
    let m = get_or parents a 0 in
    let d : ℕ → ℕ = λ x. get_or depths x 0 in
    elim same [
      | inl u ↦ elim k.one_up [
        | inl v ↦ sym u.0 ∙ v.0
        | inr v ↦ (let p : d (second_of (need_at needs m)).clock ≡ d a = ap d v.0 in let q : d (first_of (need_at needs m)).clock ≡ d z = ap d u.0 in let r = u.1 in let s = v.1 in absurd (omega arith))
      ]
      | inr u ↦ elim k.one_up [
        | inl v ↦ (let p : d (first_of (need_at needs m)).clock ≡ d a = ap d v.0 in let q : d (second_of (need_at needs m)).clock ≡ d z = ap d u.0 in let r = u.1 in let s = v.1 in absurd (omega arith))
        | inr v ↦ sym u.0 ∙ v.0
      ]
    ]

pub climb_swap : (needs : List Need) (clocks root : ℕ) (tree roots parents depths : List ℕ) (from to : ℕ) (up down : List ℕ) (a b : ℕ) → AreClimbing needs clocks root tree roots parents depths from to up down a b →
    AreClimbing needs clocks root tree roots parents depths to from down up b a
climb_swap needs clocks root tree roots parents depths from to up down a b h = record {
  a_within = h.b_within;
  b_within = h.a_within;
  a_root = h.b_root;
  b_root = h.a_root;
  up_num = h.down_num;
  up_den = h.down_den;
  up_walk = h.down_walk;
  up_in = h.down_in;
  up_simple = h.down_simple;
  down_num = h.up_num;
  down_den = h.up_den;
  down_walk = h.up_walk;
  down_in = h.up_in;
  down_simple = h.up_simple;
  disjoint = λ k p q. h.disjoint k q p;
  passed = λ z u c. (let r = h.passed z u (elim c [ inl x ↦ inr x | inr x ↦ inl x ]) in (r.1, r.0, r.3, r.2));
}

pub climb_start : (needs : List Need) (clocks root : ℕ) (tree roots parents depths : List ℕ) (from to : ℕ) → from < clocks → to < clocks → get_or roots from 0 ≡ root → get_or roots to 0 ≡ root →
    AreClimbing needs clocks root tree roots parents depths from to [] [] from to
climb_start needs clocks root tree roots parents depths from to l m e f =
    let none : (k : ℕ) → Contains [] k → ⊥ = λ k i. (let z = i.1 in absurd (omega arith)) in
    record {
      a_within = l;
      b_within = m;
      a_root = e;
      b_root = f;
      up_num = 1;
      up_den = 1;
      up_walk = (refl, refl, refl);
      up_in = All-nil (Contains tree);
      up_simple = λ i j p q s. absurd (omega arith);
      down_num = 1;
      down_den = 1;
      down_walk = (refl, refl, refl);
      down_in = All-nil (Contains tree);
      down_simple = λ i j p q s. absurd (omega arith);
      disjoint = λ k p q. none k p;
      passed = λ z u c. elim c [ inl x ↦ absurd (none _ x) | inr x ↦ absurd (none _ x) ];
    }

-- the trees, and the root of the two clocks
pub record IsRooted (needs : List Need) (clocks : ℕ) (trees : ℕ → List ℕ) (roots parents depths : List ℕ) (rates : List Fraction) (root : ℕ) : Type 0 where
  pub planted : ArePlanted needs clocks clocks trees roots parents depths rates
  pub within : All (IsWithin clocks) needs
  pub inside : root < clocks
  pub own : get_or roots root 0 ≡ root

up_from : (needs : List Need) (clocks : ℕ) (trees : ℕ → List ℕ) (roots parents depths : List ℕ) (rates : List Fraction) (root : ℕ) → IsRooted needs clocks trees roots parents depths rates root →
    (c : ℕ) → c < clocks → get_or roots c 0 ≡ root → (c ≡ root → ⊥) → IsUp needs (trees root) parents depths c
up_from needs clocks trees roots parents depths rates root h c l e n =
    (h.planted.rated root h.inside h.own).up c (subst (λ (r : ℕ). IsReachedByTree needs r (trees r) c) e (h.planted.reached c l (h.planted.done c l))) n

-- the deeper of two clocks of a tree isn't its root
pub deeper_up : (needs : List Need) (clocks : ℕ) (trees : ℕ → List ℕ) (roots parents depths : List ℕ) (rates : List Fraction) (root : ℕ) → IsRooted needs clocks trees roots parents depths rates root →
    (a b : ℕ) → a < clocks → b < clocks → get_or roots a 0 ≡ root → get_or roots b 0 ≡ root → (a ≡ b → ⊥) → get_or depths b 0 ≤ get_or depths a 0 → IsUp needs (trees root) parents depths a
deeper_up needs clocks trees roots parents depths rates root h a b l m e f n deep =
    up_from needs clocks trees roots parents depths rates root h a l e (λ is.
    (let top : get_or depths a 0 ≡ 0 = ap (λ z. get_or depths z 0) is ∙ (h.planted.rated root h.inside h.own).top in
    let up = up_from needs clocks trees roots parents depths rates root h b m f (λ z. n (is ∙ sym z)) in
    elim up.one_up [ inl w ↦ (let x = w.1 in absurd (omega arith)) | inr w ↦ (let x = w.1 in absurd (omega arith)) ]))

-- where the need that leads up leads to
record IsOneUp (needs : List Need) (clocks root : ℕ) (roots depths : List ℕ) (k a e : ℕ) : Type 0 where
  pub num : ℕ
  pub den : ℕ
  pub leads : LeadsBetween (need_at needs k) a e num den
  pub depth : get_or depths e 0 + 1 ≡ get_or depths a 0
  pub within : e < clocks
  pub root_same : get_or roots e 0 ≡ root

goes_up : (needs : List Need) (clocks root : ℕ) (tree roots parents depths : List ℕ) (a e : ℕ) → All (IsWithin clocks) needs → get_or parents a 0 < length needs →
    get_or roots (first_of (need_at needs (get_or parents a 0))).clock 0 ≡ get_or roots (second_of (need_at needs (get_or parents a 0))).clock 0 → get_or roots a 0 ≡ root →
    IsUp needs tree parents depths a → IsOther needs (get_or parents a 0) a e → IsOneUp needs clocks root roots depths (get_or parents a 0) a e
goes_up needs clocks root tree roots parents depths a e within l apart is_root up other =
    let need = need_at needs (get_or parents a 0) in
    let s = (first_of need).clock in
    let t = (second_of need).clock in
    let ends = both_within clocks need (within _ no_need l) in
    let d : ℕ → ℕ = λ x. get_or depths x 0 in
    let r : ℕ → ℕ = λ x. get_or roots x 0 in
    elim up.one_up [
      | inl w ↦
          let is : e ≡ t = other.first w.0 in
          record {
            num = over need;
            den = under need;
            leads = inl (w.0, sym is, refl, refl);
            depth = ap (λ x. x + 1) (ap d is) ∙ w.1;
            within = (let m = ends.1 in omega arith);
            root_same = ap r is ∙ sym apart ∙ ap r w.0 ∙ is_root;
          }
      | inr w ↦
          let is : e ≡ s = other.second (λ z. (let x : d s ≡ d a = ap d z in let y = w.1 in absurd (omega arith))) in
          record {
            num = under need;
            den = over need;
            leads = inr (w.0, sym is, refl, refl);
            depth = ap (λ x. x + 1) (ap d is) ∙ w.1;
            within = (let m = ends.0 in omega arith);
            root_same = ap r is ∙ apart ∙ ap r w.0 ∙ is_root;
          }
    ]

-- one more need from the deeper clock up
pub record IsClimbed (needs : List Need) (clocks root : ℕ) (tree roots parents depths : List ℕ) (from to : ℕ) (up down : List ℕ) (a b e : ℕ) : Type 0 where
  pub climbing : AreClimbing needs clocks root tree roots parents depths from to (up ++ get_or parents a 0 ∷ []) down e b
  pub lower : get_or depths e 0 < get_or depths a 0

pub parent_within : (needs : List Need) (clocks : ℕ) (trees : ℕ → List ℕ) (roots parents depths : List ℕ) (rates : List Fraction) (root : ℕ) → IsRooted needs clocks trees roots parents depths rates root →
    (a : ℕ) → IsUp needs (trees root) parents depths a → get_or parents a 0 < length needs
parent_within needs clocks trees roots parents depths rates root h a up = contained needs (trees root) (h.planted.is_tree root h.inside h.own).within (get_or parents a 0) up.in_tree

pub climb_step : (needs : List Need) (clocks : ℕ) (trees : ℕ → List ℕ) (roots parents depths : List ℕ) (rates : List Fraction) (root : ℕ) → IsRooted needs clocks trees roots parents depths rates root →
    (from to : ℕ) (up down : List ℕ) (a b e : ℕ) → AreClimbing needs clocks root (trees root) roots parents depths from to up down a b → (a ≡ b → ⊥) → get_or depths b 0 ≤ get_or depths a 0 → IsOther needs (get_or parents a 0) a e →
    IsClimbed needs clocks root (trees root) roots parents depths from to up down a b e
climb_step needs clocks trees roots parents depths rates root h from to up down a b e c n deep other =
    let is_up = deeper_up needs clocks trees roots parents depths rates root h a b c.a_within c.b_within c.a_root c.b_root n deep in
    let k = get_or parents a 0 in
    let l = parent_within needs clocks trees roots parents depths rates root h a is_up in
    let one = goes_up needs clocks root (trees root) roots parents depths a e h.within l (h.planted.apart k l) c.a_root is_up other in
    let depth = one.depth in
    let fresh_up : Contains up k → ⊥ = λ i. (c.passed a is_up (inl i)).2 refl in
    let fresh_down : Contains down k → ⊥ = λ i. (c.passed a is_up (inr i)).2 refl in
    record {
      lower = omega arith;
      climbing = record {
        a_within = one.within;
        b_within = c.b_within;
        a_root = one.root_same;
        b_root = c.b_root;
        up_num = c.up_num * one.num;
        up_den = c.up_den * one.den;
        up_walk = walk_append needs up (k ∷ []) from a e c.up_num c.up_den one.num one.den c.up_walk (one_walk needs k a e one.num one.den l one.leads);
        up_in = All-push (Contains (trees root)) up k c.up_in is_up.in_tree;
        up_simple = simple_push up k c.up_simple fresh_up;
        down_num = c.down_num;
        down_den = c.down_den;
        down_walk = c.down_walk;
        down_in = c.down_in;
        down_simple = c.down_simple;
        disjoint = λ m p q. elim (Contains-push_cases up k m p) [ inl i ↦ c.disjoint m i q | inr i ↦ fresh_down (subst (Contains down) (sym i) q) ];
        passed = λ z u w.
            (let old : (Contains up (get_or parents z 0) ⊎ Contains down (get_or parents z 0)) → (get_or depths e 0 ≤ get_or depths z 0) × (get_or depths b 0 ≤ get_or depths z 0) × (z ≡ e → ⊥) × (z ≡ b → ⊥) = λ i.
            (let r = c.passed z u i in let low = r.0 in (omega arith, r.1, (λ x. (let y : get_or depths z 0 ≡ get_or depths e 0 = ap (λ m. get_or depths m 0) x in absurd (omega arith))), r.3)) in
            elim w [
              | inr i ↦ old (inr i)
              | inl i ↦ elim (Contains-push_cases up k (get_or parents z 0) i) [
                | inl j ↦ old (inl j)
                | inr same ↦
                    let is : z ≡ a = one_up_from needs (trees root) parents depths z a u is_up (sym same) in
                    let d : get_or depths z 0 ≡ get_or depths a 0 = ap (λ m. get_or depths m 0) is in
                    (omega arith, omega arith, (λ x. (let y : get_or depths z 0 ≡ get_or depths e 0 = ap (λ m. get_or depths m 0) x in absurd (omega arith))), λ x. n (sym is ∙ x))
              ]
            ]);
      };
    }

-- the two ways meet
pub way_back : (needs : List Need) (clocks : ℕ) (trees : ℕ → List ℕ) (roots parents depths : List ℕ) (rates : List Fraction) (root : ℕ) → IsRooted needs clocks trees roots parents depths rates root →
    (from to : ℕ) (up down : List ℕ) (a b : ℕ) → AreClimbing needs clocks root (trees root) roots parents depths from to up down a b → a ≡ b → root ≡ get_or roots to 0 → IsWayBack needs roots rates from to (up ++ reverse down)
way_back needs clocks trees roots parents depths rates root h from to up down a b c e at =
    let back : All (Contains (trees root)) (reverse down) = λ i d l.
    (let m = contains_reverse down (get_or (reverse down) i d) (Contains-get_or (reverse down) i d l) in
    subst (Contains (trees root)) m.2 (subst (Contains (trees root)) (get_or_default down m.0 d (get_or (reverse down) i d) m.1) (c.down_in m.0 d m.1))) in
    let in_tree = All-append (Contains (trees root)) up (reverse down) c.up_in back in
    record {
      root = root;
      is_root = at;
      tree = trees root;
      is_tree = h.planted.is_tree root h.inside h.own;
      in_tree = in_tree;
      even = All-weaker (Contains (trees root)) (IsEvenBy needs rates) (h.planted.rated root h.inside h.own).even (up ++ reverse down) in_tree;
      num = c.up_num * c.down_den;
      den = c.up_den * c.down_num;
      returns = walk_append needs up (reverse down) from a to c.up_num c.up_den c.down_den c.down_num c.up_walk
          (subst (λ (z : ℕ). IsNeedWalk needs (reverse down) z to c.down_den c.down_num) (sym e) (walk_back needs down to b c.down_num c.down_den c.down_walk));
      simple = simple_append up (reverse down) c.up_simple (simple_reverse down c.down_simple) (λ k i j. c.disjoint k i (contains_reverse down k j));
    }
