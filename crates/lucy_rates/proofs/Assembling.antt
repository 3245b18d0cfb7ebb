-- The trees of all clocks are a forest.
use Rattle.std.proofs.Common.{◌≡◌, ℕ, ◌+◌, ◌*◌, ◌<◌, ◌≤◌, List, [], ◌∷◌, length, get_or, inl, inr, sym, ap, ◌∙◌, subst, arith}
use Prim.Native.Nat.{◌∣◌}
use Rattle.std.specs.Int.{IsGcd}
use Rattle.std.specs.List.{All, Contains}
use Rattle.std.proofs.lemmas.Bool.{cases_lt}
use Rattle.std.proofs.Math.Nat.{eq_of_mul-eq-mul_right, le_of_dvd, dvd-mul_left}
use Rattle.lucy_need.specs.Meeting.{IsWithin}
use Rattle.lucy_need.specs.Stored.{HasWords}
use Rattle.lucy_need.specs.declared.need.Need.{Need}
use Rattle.lucy_need.specs.declared.need.Need.TheVariants.{Equal, Adapt}
use Rattle.lucy_rates.specs.declared.fraction.Fraction.{Fraction}
use Rattle.lucy_rates.specs.Walks.{need_at, no_need, over, under, IsNeedWalk, AreJoinedClocks, IsRoot}
use Rattle.lucy_rates.specs.Trees.{IsTree, IsTreeRate}
use Rattle.lucy_rates.specs.Forests.{rate_at, IsForest}
use Rattle.lucy_rates.specs.Growing.{no_number, ArePlanted}
use Rattle.lucy_rates.proofs.Gauss.{lowest_one}
use Rattle.lucy_rates.proofs.Growing.{both_within}
use Rattle.lucy_rates.proofs.Walking.{level_walk}
use Rattle.lucy_rates.proofs.OneTree.{one_tree}
use Rattle.lucy_rates.proofs.RatedTree.{IsPath, path_to, level_tree}
use Rattle.lucy_rates.proofs.Completing.{contained}
use Rattle.lucy_rates.proofs.Planting.{same_along, joined_back}
use Rattle.lucy_rates.proofs.Carrying.{joined_on}
use Rattle.lucy_rates.proofs.Factoring.{product_some}

-- the numbers of a need's factor are above 0
pub some_factor : (need : Need) → HasWords need → (0 < over need) × (0 < under need)
some_factor (Equal s t) h = (product_some _ _ h.0.word.has_one h.1.nonempty, product_some _ _ h.0.nonempty h.1.word.has_one)
some_factor (Adapt s t) h = (product_some _ _ h.0.word.has_one h.1.nonempty, product_some _ _ h.0.nonempty h.1.word.has_one)

pub some_walk : (needs : List Need) → All HasWords needs → (walk : List ℕ) (c d num den : ℕ) → IsNeedWalk needs walk c d num den → (0 < num) × (0 < den)
some_walk needs words [] c d num den h = (let a = h.1 in omega arith, let b = h.2 in omega arith)
some_walk needs words (m ∷ walk) c d num den h =
    let r = h.1 in
    let f = some_factor (need_at needs m) (words m no_need h.0) in
    let rest = some_walk needs words walk r.0 d r.3 r.4 r.6 in
    let one : (0 < r.1) × (0 < r.2) = elim r.5 [
      | inl w ↦ (let p = w.2 in let q = f.0 in omega arith, let p = w.3 in let q = f.1 in omega arith)
      | inr w ↦ (let p = w.2 in let q = f.1 in omega arith, let p = w.3 in let q = f.0 in omega arith)
    ] in
    let x = product_some r.1 r.3 one.0 rest.0 in
    let y = product_some r.2 r.4 one.1 rest.1 in
    (let e = r.7 in omega arith, let e = r.8 in omega arith)

-- what a walk joins lies below the number of clocks
pub joined_within : (needs : List Need) (clocks : ℕ) → All (IsWithin clocks) needs → (walk : List ℕ) (c d num den : ℕ) → d < clocks → IsNeedWalk needs walk c d num den → c < clocks
joined_within needs clocks within [] c d num den l h = (let e = h.0 in omega arith)
joined_within needs clocks within (m ∷ walk) c d num den l h =
    let ends = both_within clocks (need_at needs m) (within m no_need h.0) in
    elim h.1.5 [ inl w ↦ (let e = w.0 in let a = ends.0 in omega arith) | inr w ↦ (let e = w.0 in let a = ends.1 in omega arith) ]

not_both_zero : (num den : ℕ) → IsGcd num den 1 → num ≡ 0 → den ≡ 0 → ⊥
not_both_zero num den h a b =
    let P : ℕ → Type 0 = λ z. 2 ∣ z in
    let two : 2 ∣ 0 = dvd-mul_left 2 0 in
    let l : 2 ≤ 1 = le_of_dvd (omega arith) (h.2 2 (subst P (sym a) two) (subst P (sym b) two)) in
    omega arith

pub some_den : (num den a b : ℕ) → IsGcd num den 1 → 0 < b → num * b ≡ a * den → 0 < den
some_den num den a b h some e = elim (cases_lt 0 den) [
  | inl l ↦ l
  | inr l ↦
      let z : den ≡ 0 = omega arith in
      let f : num * b ≡ 0 * b = e ∙ ap (λ x. a * x) z ∙ omega arith in
      absurd (not_both_zero num den h (eq_of_mul-eq-mul_right b some num 0 f) z)
]

-- two fractions that a walk gives are one
pub same_rate : (num den a b n d : ℕ) → IsGcd num den 1 → IsGcd n d 1 → 0 < b → 0 < d → num * b ≡ a * den → n * b ≡ d * a → (num ≡ n) × (den ≡ d)
same_rate num den a b n d h k some_b some_d e f =
    let some = some_den num den a b h some_b e in
    let p : num * b * d ≡ a * den * d = ap (λ x. x * d) e in
    let q : n * b * den ≡ d * a * den = ap (λ x. x * den) f in
    let r : num * d * b ≡ n * den * b = omega arith in
    lowest_one num den n d some some_d h k (eq_of_mul-eq-mul_right b some_b (num * d) (n * den) r)

-- along a walk from the root
pub from_root : (rates : List Fraction) (r c a b : ℕ) → (rate_at rates r).num ≡ 1 → (rate_at rates r).den ≡ 1 → (rate_at rates c).num * (rate_at rates r).den * b ≡ (rate_at rates r).num * (rate_at rates c).den * a → (rate_at rates c).num * b ≡ (rate_at rates c).den * a
from_root rates r c a b num den h =
    let p : (rate_at rates c).num * (rate_at rates r).den * b ≡ (rate_at rates c).num * 1 * b = ap (λ z. (rate_at rates c).num * z * b) den in
    let q : (rate_at rates r).num * (rate_at rates c).den * a ≡ 1 * (rate_at rates c).den * a = ap (λ z. z * (rate_at rates c).den * a) num in
    omega arith

-- the trees of all clocks
pub record IsWood (needs : List Need) (clocks : ℕ) (tree : ℕ → List ℕ) (roots parents depths : List ℕ) (rates : List Fraction) : Type 0 where
  pub planted : ArePlanted needs clocks clocks tree roots parents depths rates
  pub within : All (IsWithin clocks) needs
  pub words : All HasWords needs
  pub few : clocks ≤ no_number

rooted : (needs : List Need) (clocks : ℕ) (tree : ℕ → List ℕ) (roots parents depths : List ℕ) (rates : List Fraction) → IsWood needs clocks tree roots parents depths rates → (c : ℕ) → c < clocks → get_or roots c 0 < clocks
rooted needs clocks tree roots parents depths rates h c l = h.planted.below c l (h.planted.done c l)

pub path_of : (needs : List Need) (clocks : ℕ) (tree : ℕ → List ℕ) (roots parents depths : List ℕ) (rates : List Fraction) → IsWood needs clocks tree roots parents depths rates → (c : ℕ) → c < clocks →
    IsPath needs (get_or roots c 0) (tree (get_or roots c 0)) c
path_of needs clocks tree roots parents depths rates h c l =
    let r = get_or roots c 0 in
    let in_r = rooted needs clocks tree roots parents depths rates h c l in
    let own = h.planted.own c l (h.planted.done c l) in
    path_to needs r (tree r) parents depths rates (h.planted.rated r in_r own) (contained needs (tree r) (h.planted.is_tree r in_r own).within) (get_or depths c 0 + 1) c (omega arith) (h.planted.reached c l (h.planted.done c l))

pub one_root : (needs : List Need) (clocks : ℕ) (tree : ℕ → List ℕ) (roots parents depths : List ℕ) (rates : List Fraction) → IsWood needs clocks tree roots parents depths rates → (c d : ℕ) → AreJoinedClocks needs c d → get_or roots c 0 ≡ get_or roots d 0
one_root needs clocks tree roots parents depths rates h c d j = same_along needs (λ x. get_or roots x 0) h.planted.apart j.0 c d j.1 j.2 j.3

root_of : (needs : List Need) (clocks : ℕ) (tree : ℕ → List ℕ) (roots parents depths : List ℕ) (rates : List Fraction) → IsWood needs clocks tree roots parents depths rates → (c : ℕ) → c < clocks → IsRoot needs (get_or roots c 0) c
root_of needs clocks tree roots parents depths rates h c l =
    let path = path_of needs clocks tree roots parents depths rates h c l in
    record {
      joined = (path.walk, path.num, path.den, path.along);
      least = λ d j.
          (let in_d : d < clocks = joined_within needs clocks h.within j.0 d c j.1 j.2 l j.3 in
          let e = one_root needs clocks tree roots parents depths rates h d c j in
          let m = h.planted.least d in_d (h.planted.done d in_d) in
          omega arith);
    }

tree_rate_of : (needs : List Need) (clocks : ℕ) (tree : ℕ → List ℕ) (roots parents depths : List ℕ) (rates : List Fraction) → IsWood needs clocks tree roots parents depths rates → (c : ℕ) → c < clocks →
    IsTreeRate needs c (rate_at rates c).num (rate_at rates c).den
tree_rate_of needs clocks tree roots parents depths rates h c l =
    let r = get_or roots c 0 in
    let in_r = rooted needs clocks tree roots parents depths rates h c l in
    let own = h.planted.own c l (h.planted.done c l) in
    let rated = h.planted.rated r in_r own in
    let path = path_of needs clocks tree roots parents depths rates h c l in
    let level = level_walk needs rates path.walk r c path.num path.den (level_tree needs r (tree r) parents depths rates rated path.walk path.in_tree) path.along in
    let e = from_root rates r c path.num path.den rated.num rated.den level in
    record {
      root = r;
      tree = tree r;
      is_root = root_of needs clocks tree roots parents depths rates h c l;
      is_tree = h.planted.is_tree r in_r own;
      walk = path.walk;
      a = path.num;
      b = path.den;
      along = path.along;
      in_tree = path.in_tree;
      same = omega arith;
      lowest = (rated.rate c (h.planted.reached c l (h.planted.done c l))).lowest;
    }

one_root_of : (needs : List Need) (c r s : ℕ) → IsRoot needs r c → IsRoot needs s c → r ≡ s
one_root_of needs c r s h k = (let a = h.least s k.joined in let b = k.least r h.joined in omega arith)

only_rate : (needs : List Need) (clocks : ℕ) (tree : ℕ → List ℕ) (roots parents depths : List ℕ) (rates : List Fraction) → IsWood needs clocks tree roots parents depths rates → (c num den : ℕ) → c < clocks → IsTreeRate needs c num den →
    (num ≡ (rate_at rates c).num) × (den ≡ (rate_at rates c).den)
only_rate needs clocks tree roots parents depths rates h c num den l k =
    let r = get_or roots c 0 in
    let in_r = rooted needs clocks tree roots parents depths rates h c l in
    let own = h.planted.own c l (h.planted.done c l) in
    let rated = h.planted.rated r in_r own in
    let good = rated.rate c (h.planted.reached c l (h.planted.done c l)) in
    let root_same : k.root ≡ r = one_root_of needs c k.root r k.is_root (root_of needs clocks tree roots parents depths rates h c l) in
    let tree_same : k.tree ≡ tree r = one_tree needs r k.tree (tree r) (subst (λ (z : ℕ). IsTree needs z k.tree) root_same k.is_tree) (h.planted.is_tree r in_r own) in
    let in_tree : All (Contains (tree r)) k.walk = subst (λ (z : List ℕ). All (Contains z) k.walk) tree_same k.in_tree in
    let along : IsNeedWalk needs k.walk r c k.a k.b = subst (λ (z : ℕ). IsNeedWalk needs k.walk z c k.a k.b) root_same k.along in
    let level = level_walk needs rates k.walk r c k.a k.b (level_tree needs r (tree r) parents depths rates rated k.walk in_tree) along in
    let e = from_root rates r c k.a k.b rated.num rated.den level in
    same_rate num den k.a k.b (rate_at rates c).num (rate_at rates c).den k.lowest good.lowest (some_walk needs h.words k.walk r c k.a k.b along).1 good.den k.same e

pub forest_of : (needs : List Need) (clocks : ℕ) (tree : ℕ → List ℕ) (roots parents depths : List ℕ) (rates : List Fraction) → IsWood needs clocks tree roots parents depths rates →
    length roots ≡ clocks → length parents ≡ clocks → length rates ≡ clocks → IsForest needs clocks roots parents rates
forest_of needs clocks tree roots parents depths rates h a b d = record {
  roots_size = a;
  parents_size = b;
  rates_size = d;
  root = λ c l. root_of needs clocks tree roots parents depths rates h c l;
  one = λ c e l m j. one_root needs clocks tree roots parents depths rates h c e j;
  joined = λ c e l m same. joined_on needs c (get_or roots c 0) e (joined_back needs (get_or roots c 0) c (root_of needs clocks tree roots parents depths rates h c l).joined)
      (subst (λ (z : ℕ). AreJoinedClocks needs z e) (sym same) (root_of needs clocks tree roots parents depths rates h e m).joined);
  rate = λ c l. (h.planted.rated (get_or roots c 0) (rooted needs clocks tree roots parents depths rates h c l) (h.planted.own c l (h.planted.done c l))).rate c (h.planted.reached c l (h.planted.done c l));
  tree_rate = λ c l. tree_rate_of needs clocks tree roots parents depths rates h c l;
  only = λ c num den l k. only_rate needs clocks tree roots parents depths rates h c num den l k;
}
