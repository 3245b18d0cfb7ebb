-- One pass, step by step, and why the passes end.
use Rattle.std.proofs.Common.{inl, inr, ◌-◌, ◌≡◌, ℕ, ◌+◌, ◌*◌, ◌<◌, ◌≤◌, List, length, get_or, zero, suc, Bool, true, false, sum, sym, ap, subst, refl, arith}
use Rattle.std.proofs.lemmas.Bool.{cases_lt}
use Rattle.std.proofs.lemmas.List.Sums.{sum_by-le}
use Rattle.std.proofs.lemmas.List.Elements.{All-from_get_or}
use borrow.Author.Count.{below_more}
use Rattle.lucy_solve.specs.declared.diffs.Diff.{Diff}
use Rattle.lucy_solve.specs.System.{DifferenceSystem, diff_at, IsSystem, most_constant}
use Rattle.lucy_solve.specs.Search.{position_at, MeetsInequality, IsReached, AreWithin, IsRaised, IsPassed}
use Rattle.lucy_solve.specs.Parents.{IsForest}
use Rattle.lucy_solve.proofs.Lifts.{proper}
use Rattle.lucy_solve.proofs.Raises.{raised_within}

-- along a forest the values stay small
deep : (s : DifferenceSystem) (x parents : List ℕ) (h : IsReached s x parents) (f : IsForest s parents) → IsSystem s → (n v : ℕ) → v < s.count → f.depth v ≤ n → get_or x v 0 ≤ most_constant * n
deep s x parents h f p zero v k m = elim (cases_lt (get_or parents v 0) (length s.list)) [
  | inl l ↦ let a = f.up v k l in absurd (omega arith)
  | inr l ↦ let a = h.root v k l in omega arith
]
deep s x parents h f p (suc n) v k m = elim (cases_lt (get_or parents v 0) (length s.list)) [
  | inl l ↦ let a = f.up v k l in
      let b = deep s x parents h f p n (diff_at s.list (get_or parents v 0)).left (proper s p (get_or parents v 0) l).left (omega arith) in
      let c = (h.lifted v k l).most in
      omega arith
  | inr l ↦ let a = h.root v k l in omega arith
]

pub within_forest : (s : DifferenceSystem) (x parents : List ℕ) → IsReached s x parents → IsForest s parents → IsSystem s → AreWithin x (length s.list)
within_forest s x parents h f p v k = let a = h.value_count in deep s x parents h f p (length s.list) v (omega arith) (f.shallow v)

-- one pass, step by step
pub passed_none : (list : List Diff) (backwards : Bool) (x : List ℕ) → AreWithin x (length list) → IsPassed list backwards x x 0 false
passed_none list backwards x h = record {
  within = λ v k. let a = h v k in omega arith;
  grown = omega arith;
  still = λ e. (refl, λ k l. absurd (omega arith));
  risen = λ e. (cc);
}

pub passed_keep : (list : List Diff) (backwards : Bool) (before x : List ℕ) (i : ℕ) (moved : Bool) → IsPassed list backwards before x i moved → MeetsInequality list x (position_at (length list) backwards i) → IsPassed list backwards before x (i + 1) moved
passed_keep list backwards before x i moved h here = record {
  within = λ v k. let a = h.within v k in omega arith;
  grown = h.grown;
  still = λ e. ((h.still e).0, below_more _ _ (h.still e).1 here);
  risen = h.risen;
}

-- the step of a pass
pub passed_step : (list : List Diff) (backwards : Bool) (before x x' : List ℕ) (n i : ℕ) (moved raised moved' : Bool) → IsPassed list backwards before x n moved → IsRaised list x x' i raised →
    i ≡ position_at (length list) backwards n → (raised ≡ true → moved' ≡ true) → (raised ≡ false → moved' ≡ moved) → IsPassed list backwards before x' (n + 1) moved'
passed_step list backwards before x x' n i moved true moved' h r e f g =
    let a = r.risen refl in
    let b = h.grown in
    record {
      within = λ v k. let c = raised_within list x x' i (length list + n) true r h.within v k in omega arith;
      grown = omega arith;
      still = λ e. let m = f refl in (cc);
      risen = λ e. omega arith;
    }
passed_step list backwards before x x' n i moved false moved' h r e f g =
    let a = r.still refl in
    let here : MeetsInequality list x (position_at (length list) backwards n) = subst (λ (x : List ℕ). MeetsInequality list x (position_at (length list) backwards n)) a.0 (subst (λ (i : ℕ). MeetsInequality list x' i) e a.1) in
    subst (λ (x : List ℕ). IsPassed list backwards before x (n + 1) moved') (sym a.0)
    (subst (λ (m : Bool). IsPassed list backwards before x (n + 1) m) (sym (g refl)) (passed_keep list backwards before x n moved h here))

-- the passes end: the sum of the values rises, and is bounded
pub sum_bounded : (xs : List ℕ) (n : ℕ) → AreWithin xs n → sum xs ≤ length xs * (most_constant * n)
sum_bounded xs n h = sum_by-le (λ x. x) (most_constant * n) xs (All-from_get_or (λ x. x ≤ most_constant * n) xs 0 h)

pub room_falls : (s : DifferenceSystem) (x x' parents' : List ℕ) → IsReached s x' parents' → IsForest s parents' → IsSystem s → sum x < sum x' →
    s.count * (most_constant * length s.list) - sum x' < s.count * (most_constant * length s.list) - sum x
room_falls s x x' parents' h f p l =
    let a = sum_bounded x' (length s.list) (within_forest s x' parents' h f p) in
    let b : length x' * (most_constant * length s.list) ≡ s.count * (most_constant * length s.list) = ap (λ n. n * (most_constant * length s.list)) h.value_count in
    omega arith
