-- Marked variables are at most as many as the inequalities that end at them.
use Rattle.std.proofs.Common.{inl, inr, ◌≡◌, ℕ, ◌+◌, ◌<◌, ◌≤◌, List, [], ◌∷◌, length, take, get_or, zero, suc, cond, eqb, ltb, ap, subst, refl, arith}
use Rattle.std.specs.Prelude.{count_by}
use Rattle.std.proofs.lemmas.Bool.{cases_lt}
use Rattle.std.proofs.lemmas.Bool.Decides.{nat_tests}
use Rattle.std.proofs.lemmas.List.{take_all}
use Rattle.std.proofs.lemmas.List.Sums.{sum_by-cons, get_or-le-sum_by, count_by-le-length, count_by_more_yes, count_by_more_no}
use Rattle.lucy_solve.specs.declared.diffs.Diff.{Diff}
use Rattle.lucy_solve.specs.System.{diff_at, no_diff}
use Rattle.lucy_solve.specs.Climb.{is_marked}

three_way : (r k : ℕ) → cond (ltb r k) 1 0 + cond (eqb r k) 1 0 ≡ cond (ltb r (k + 1)) 1 0
three_way r k = grind (arith, nat_tests)

split_count : (k : ℕ) (ds : List Diff) → count_by (λ d. ltb d.right k) ds + count_by (λ d. eqb d.right k) ds ≡ count_by (λ d. ltb d.right (k + 1)) ds
split_count k [] = refl
split_count k (d ∷ ds) =
    let a = split_count k ds in
    let b = three_way d.right k in
    let e = sum_by-cons (λ (d : Diff). cond (ltb d.right k) 1 0) d ds in
    let f = sum_by-cons (λ (d : Diff). cond (eqb d.right k) 1 0) d ds in
    let g = sum_by-cons (λ (d : Diff). cond (ltb d.right (k + 1)) 1 0) d ds in
    omega arith

one_if_same : (r k one : ℕ) → one ≡ 1 → r ≡ k → cond (eqb r k) one 0 ≡ one
one_if_same r k one f e = grind (arith, nat_tests)

one_more : (k : ℕ) (ds : List Diff) (i : ℕ) → i < length ds → (diff_at ds i).right ≡ k → count_by (λ d. ltb d.right k) ds + 1 ≤ count_by (λ d. ltb d.right (k + 1)) ds
one_more k ds i l e =
    let a = split_count k ds in
    let b = get_or-le-sum_by (λ (d : Diff). cond (eqb d.right k) 1 0) ds i no_diff l in
    let c = one_if_same (diff_at ds i).right k 1 refl e in
    omega arith

marks_to : (ds : List Diff) (marks : List ℕ) → ((v : ℕ) → v < length marks → 0 < get_or marks v 0 → (i : ℕ) × (i < length ds) × ((diff_at ds i).right ≡ v)) →
    (k : ℕ) → k ≤ length marks → count_by is_marked (take k marks) ≤ count_by (λ d. ltb d.right k) ds
marks_to ds marks each zero l = omega arith
marks_to ds marks each (suc k) l =
    let a = marks_to ds marks each k (omega arith) in
    let same : k + 1 ≡ suc k = omega arith in
    let P : ℕ → Type 0 = λ n. count_by is_marked (take n marks) ≤ count_by (λ d. ltb d.right n) ds in
    subst P same (elim (cases_lt 0 (get_or marks k 0)) [
      | inl m ↦ let b = count_by_more_yes is_marked marks k 0 (omega arith) (grind (arith, nat_tests)) in
          let i = each k (omega arith) m in
          let c = one_more k ds i.0 i.1 i.2 in
          omega arith
      | inr m ↦ let b = count_by_more_no is_marked marks k 0 (omega arith) (grind (arith, nat_tests)) in
          let c = split_count k ds in
          omega arith
    ])

pub marked_few : (ds : List Diff) (marks : List ℕ) → ((v : ℕ) → v < length marks → 0 < get_or marks v 0 → (i : ℕ) × (i < length ds) × ((diff_at ds i).right ≡ v)) → count_by is_marked marks ≤ length ds
marked_few ds marks each =
    let a = marks_to ds marks each (length marks) (omega arith) in
    let b = count_by-le-length (λ (d : Diff). ltb d.right (length marks)) ds in
    let c : count_by is_marked (take (length marks) marks) ≡ count_by is_marked marks = ap (count_by is_marked) (take_all (length marks) marks (omega arith)) in
    omega arith
