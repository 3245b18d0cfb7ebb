-- Balanced needs, and the rates of the clocks that walks join.
use Rattle.std.proofs.Common.{ℕ, ◌<◌, List, [], ◌∷◌, length, sym, subst}
use Rattle.std.specs.List.{All}
use Rattle.std.proofs.lemmas.List.Elements.{All-nil, All-cons}
use Rattle.lucy_need.specs.Meeting.{IsWithin}
use Rattle.lucy_need.specs.declared.need.Need.{Need}
use Rattle.lucy_rates.specs.declared.fraction.Fraction.{Fraction}
use Rattle.lucy_rates.specs.Walks.{first_of, second_of, need_at, no_need, IsNeedWalk}
use Rattle.lucy_rates.specs.Trees.{IsBalanced, AreEven}
use Rattle.lucy_rates.specs.Forests.{rate_at, IsForest, BalanceLaw}
use Rattle.lucy_rates.specs.Growing.{IsEvenBy}
use Rattle.lucy_rates.proofs.Growing.{both_within}
use Rattle.lucy_rates.proofs.Walking.{IsLevel, level_walk}

-- a need is balanced exactly where it is even by the rates of the forest
pub even_of : (needs : List Need) (clocks : ℕ) (roots parents : List ℕ) (rates : List Fraction) (k : ℕ) → All (IsWithin clocks) needs → IsForest needs clocks roots parents rates → k < length needs → IsBalanced needs (need_at needs k) → IsEvenBy needs rates k
even_of needs clocks roots parents rates k within h l balanced =
    let ends = both_within clocks (need_at needs k) (within k no_need l) in
    let s = (first_of (need_at needs k)).clock in
    let t = (second_of (need_at needs k)).clock in
    balanced (rate_at rates s).num (rate_at rates s).den (rate_at rates t).num (rate_at rates t).den (h.tree_rate s ends.0) (h.tree_rate t ends.1)

pub balanced_of : (needs : List Need) (clocks : ℕ) (roots parents : List ℕ) (rates : List Fraction) (k : ℕ) → All (IsWithin clocks) needs → IsForest needs clocks roots parents rates → k < length needs → IsEvenBy needs rates k → IsBalanced needs (need_at needs k)
balanced_of needs clocks roots parents rates k within h l even n1 d1 n2 d2 first second =
    let need = need_at needs k in
    let ends = both_within clocks need (within k no_need l) in
    let a = h.only (first_of need).clock n1 d1 ends.0 first in
    let b = h.only (second_of need).clock n2 d2 ends.1 second in
    let P : ℕ → ℕ → ℕ → ℕ → Type 0 = λ x y z w. AreEven need x y z w in
    subst (λ (x : ℕ). P x d1 n2 d2) (sym a.0) (subst (λ (y : ℕ). P (rate_at rates (first_of need).clock).num y n2 d2) (sym a.1)
    (subst (λ (z : ℕ). P (rate_at rates (first_of need).clock).num (rate_at rates (first_of need).clock).den z d2) (sym b.0)
    (subst (λ (w : ℕ). P (rate_at rates (first_of need).clock).num (rate_at rates (first_of need).clock).den (rate_at rates (second_of need).clock).num w) (sym b.1) even)))

all_level : (needs : List Need) (clocks : ℕ) (roots parents : List ℕ) (rates : List Fraction) → All (IsWithin clocks) needs → IsForest needs clocks roots parents rates → ((k : ℕ) → k < length needs → IsBalanced needs (need_at needs k)) →
    (walk : List ℕ) (c d num den : ℕ) → IsNeedWalk needs walk c d num den → All (IsLevel needs rates) walk
all_level needs clocks roots parents rates within h balanced [] c d num den w = All-nil (IsLevel needs rates)
all_level needs clocks roots parents rates within h balanced (m ∷ walk) c d num den w =
    let ends = both_within clocks (need_at needs m) (within m no_need w.0) in
    let one : IsLevel needs rates m = record { even = even_of needs clocks roots parents rates m within h w.0 (balanced m w.0); first = (h.rate _ ends.0).den; second = (h.rate _ ends.1).den } in
    All-cons (IsLevel needs rates) m walk one (all_level needs clocks roots parents rates within h balanced walk w.1.0 d w.1.3 w.1.4 w.1.6)

pub walks_balance : BalanceLaw
walks_balance needs clocks roots parents rates within h balanced walk c d num den l w =
    level_walk needs rates walk c d num den (all_level needs clocks roots parents rates within h balanced walk c d num den w) w
