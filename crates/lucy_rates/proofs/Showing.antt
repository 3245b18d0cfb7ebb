-- A need that isn't balanced, and the way back, are an unequal walk.
use Rattle.std.proofs.Common.{◌≡◌, ℕ, ◌*◌, ◌<◌, List, [], ◌∷◌, length, get_or, inl, inr, sym, ap, subst, refl, arith}
use Rattle.std.specs.List.{All}
use Rattle.std.proofs.lemmas.List.Elements.{All-nil, All-cons, All-head, All-tail}
use Rattle.std.proofs.Math.Nat.{eq_of_mul-eq-mul_right}
use Rattle.lucy_need.specs.Meeting.{IsWithin}
use Rattle.lucy_need.specs.Stored.{HasWords}
use Rattle.lucy_need.specs.declared.need.Need.{Need}
use Rattle.lucy_rates.specs.declared.fraction.Fraction.{Fraction}
use Rattle.lucy_rates.specs.Walks.{first_of, second_of, need_at, no_need, over, under, IsNeedWalk, IsUnequalWalk, AreJoinedClocks, IsRoot}
use Rattle.lucy_rates.specs.Trees.{IsBalanced, AreEven, IsFirstUnequal}
use Rattle.lucy_rates.specs.Forests.{rate_at, IsForest}
use Rattle.lucy_rates.specs.Growing.{IsEvenBy, IsWayBack}
use Rattle.lucy_rates.proofs.Growing.{both_within, need_is}
use Rattle.lucy_rates.proofs.Walking.{IsLevel, level_walk}
use Rattle.lucy_rates.proofs.Assembling.{some_walk}
use Rattle.lucy_rates.proofs.Balancing.{balanced_of}

-- the need is even by the rates
abbrev pub IsEvenIn : Need → List Fraction → Type 0
IsEvenIn need rates = AreEven need (rate_at rates (first_of need).clock).num (rate_at rates (first_of need).clock).den (rate_at rates (second_of need).clock).num (rate_at rates (second_of need).clock).den

pub even_to : (needs : List Need) (k : ℕ) (need : Need) (list rates : List Fraction) → k < length needs → need ≡ get_or needs k need → list ≡ rates → IsEvenIn need list → IsEvenBy needs rates k
even_to needs k need list rates l e f h = subst (λ (n : Need). IsEvenIn n rates) (need_is needs k need l e) (subst (IsEvenIn need) f h)

pub even_from : (needs : List Need) (k : ℕ) (need : Need) (list rates : List Fraction) → k < length needs → need ≡ get_or needs k need → list ≡ rates → IsEvenBy needs rates k → IsEvenIn need list
even_from needs k need list rates l e f h = subst (IsEvenIn need) (sym f) (subst (λ (n : Need). IsEvenIn n rates) (sym (need_is needs k need l e)) h)

level_way : (needs : List Need) (clocks : ℕ) (roots parents : List ℕ) (rates : List Fraction) → All (IsWithin clocks) needs → IsForest needs clocks roots parents rates →
    (walk : List ℕ) (c d num den : ℕ) → IsNeedWalk needs walk c d num den → All (IsEvenBy needs rates) walk → All (IsLevel needs rates) walk
level_way needs clocks roots parents rates within h [] c d num den w all = All-nil (IsLevel needs rates)
level_way needs clocks roots parents rates within h (m ∷ walk) c d num den w all =
    let ends = both_within clocks (need_at needs m) (within m no_need w.0) in
    let one : IsLevel needs rates m = record { even = All-head (IsEvenBy needs rates) m walk all; first = (h.rate _ ends.0).den; second = (h.rate _ ends.1).den } in
    All-cons (IsLevel needs rates) m walk one (level_way needs clocks roots parents rates within h walk w.1.0 d w.1.3 w.1.4 w.1.6 (All-tail (IsEvenBy needs rates) m walk all))

-- if the products were equal, the need would be even
equal_even : (n1 d1 n2 d2 o u num den : ℕ) → 0 < num → n1 * d2 * den ≡ n2 * d1 * num → o * num ≡ u * den → n1 * d2 * o ≡ n2 * d1 * u
equal_even n1 d1 n2 d2 o u num den some h e =
    let p : n1 * d2 * den * u ≡ n2 * d1 * num * u = ap (λ z. z * u) h in
    let q : o * num * (n1 * d2) ≡ u * den * (n1 * d2) = ap (λ z. z * (n1 * d2)) e in
    let r : n1 * d2 * o * num ≡ n2 * d1 * u * num = omega arith in
    eq_of_mul-eq-mul_right num some (n1 * d2 * o) (n2 * d1 * u) r

pub unequal_of : (needs : List Need) (clocks : ℕ) (roots parents : List ℕ) (rates : List Fraction) (k : ℕ) (back : List ℕ) → All (IsWithin clocks) needs → All HasWords needs → IsForest needs clocks roots parents rates → k < length needs →
    (IsBalanced needs (need_at needs k) → ⊥) → IsWayBack needs roots rates (second_of (need_at needs k)).clock (first_of (need_at needs k)).clock back → IsUnequalWalk needs (k ∷ back)
unequal_of needs clocks roots parents rates k back within words h l uneven way =
    let need = need_at needs k in
    let s = (first_of need).clock in
    let t = (second_of need).clock in
    let level = level_walk needs rates back t s way.num way.den (level_way needs clocks roots parents rates within h back t s way.num way.den way.returns way.even) way.returns in
    let some = some_walk needs words back t s way.num way.den way.returns in
    record {
      some = omega arith;
      clock = s;
      num = over need * way.num;
      den = under need * way.den;
      round = (l, (t, over need, under need, way.num, way.den, inl (refl, refl, refl, refl), way.returns, refl, refl));
      unequal = λ e. uneven (balanced_of needs clocks roots parents rates k within h l
          (equal_even (rate_at rates s).num (rate_at rates s).den (rate_at rates t).num (rate_at rates t).den (over need) (under need) way.num way.den some.0 level e));
    }

pub first_of_all : (needs : List Need) (clocks : ℕ) (roots parents : List ℕ) (rates : List Fraction) (k : ℕ) (back : List ℕ) → All (IsWithin clocks) needs → IsForest needs clocks roots parents rates → k < length needs → (IsBalanced needs (need_at needs k) → ⊥) → ((j : ℕ) → j < k → IsBalanced needs (need_at needs j)) →
    IsWayBack needs roots rates (second_of (need_at needs k)).clock (first_of (need_at needs k)).clock back → IsFirstUnequal needs (k ∷ back)
first_of_all needs clocks roots parents rates k back within h l uneven before way = record {
  need = k;
  back = back;
  is = refl;
  within = l;
  uneven = uneven;
  before = before;
  root = way.root;
  is_root = subst (λ (r : ℕ). IsRoot needs r (first_of (need_at needs k)).clock) (sym way.is_root) (h.root (first_of (need_at needs k)).clock (both_within clocks (need_at needs k) (within k no_need l)).0);
  tree = way.tree;
  is_tree = way.is_tree;
  in_tree = way.in_tree;
  num = way.num;
  den = way.den;
  returns = way.returns;
  simple = way.simple;
}

-- the clocks of a need have one root
pub one_root_at : (needs : List Need) (clocks : ℕ) (roots parents : List ℕ) (rates : List Fraction) (k : ℕ) → All (IsWithin clocks) needs → IsForest needs clocks roots parents rates → k < length needs →
    get_or roots (second_of (need_at needs k)).clock 0 ≡ get_or roots (first_of (need_at needs k)).clock 0
one_root_at needs clocks roots parents rates k within h l =
    let need = need_at needs k in
    let ends = both_within clocks need (within k no_need l) in
    let joined : AreJoinedClocks needs (second_of need).clock (first_of need).clock =
    (k ∷ [], under need * 1, over need * 1, (l, ((first_of need).clock, under need, over need, 1, 1, inr (refl, refl, refl, refl), (refl, refl, refl), refl, refl))) in
    h.one (second_of need).clock (first_of need).clock ends.1 ends.0 joined
