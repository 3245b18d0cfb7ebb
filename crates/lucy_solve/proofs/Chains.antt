-- Chains of inequalities: what a walk along the first positions of a list knows, and why a negative cycle has no solution.
use Rattle.std.proofs.Common.{neg_ℤ, inl, inr, ◌-◌, ◌≡◌, ℕ, ◌+◌, ◌*◌, ◌<◌, ◌≤◌, ℤ, pos, ◌+ℤ◌, ◌≤ℤ◌, ◌<ℤ◌, List, length, take, get_or, zero, suc, sym, ap, ◌∙◌, subst, refl, arith}
use Rattle.std.proofs.lemmas.Int.{ints}
use Rattle.std.proofs.lemmas.Bool.{cases_lt}
use Rattle.std.proofs.lemmas.List.{take_all}
use Rattle.std.proofs.lemmas.List.Sums.{fold_more}
use borrow.Author.Count.{below_more}
use Rattle.lucy_solve.specs.declared.diffs.Diff.{Diff}
use Rattle.lucy_solve.specs.System.{DifferenceSystem, diff_at, IsProper, Solves, HasNoSolution, value, constants, IsNegativeCycle, most_constant, most_inequalities}

-- the constants of one difference more
pub constants_more : (list : List Diff) (cycle : List ℕ) (k : ℕ) → k < length cycle → constants list (take (k + 1) cycle) ≡ constants list (take k cycle) +ℤ (diff_at list (get_or cycle k 0)).most
constants_more list cycle k h = fold_more (λ s i. s +ℤ (diff_at list i).most) (pos 0) cycle k 0 h

pub record Walked (list : List Diff) (cycle : List ℕ) (k at : ℕ) (sum : ℤ) : Type 0 where
  pub within : (j : ℕ) → j < k → get_or cycle j 0 < length list
  pub joined : (j : ℕ) → j + 1 < k → (diff_at list (get_or cycle j 0)).right ≡ (diff_at list (get_or cycle (j + 1) 0)).left
  pub last : (j : ℕ) → j + 1 ≡ k → (diff_at list (get_or cycle j 0)).right ≡ at
  pub start : k ≡ 0 → at ≡ (diff_at list (get_or cycle 0 0)).left
  pub is : sum ≡ constants list (take k cycle)
  pub low : neg_ℤ (pos (most_constant * k)) ≤ℤ sum
  pub high : sum ≤ℤ pos (most_constant * k)

pub walked_none : (list : List Diff) (cycle : List ℕ) (at : ℕ) → at ≡ (diff_at list (get_or cycle 0 0)).left → Walked list cycle 0 at (pos 0)
walked_none list cycle at e = record {
  within = λ j h. absurd (omega arith);
  joined = λ j h. absurd (omega arith);
  last = λ j h. absurd (omega arith);
  start = λ h. e;
  is = refl;
  low = omega (arith, ints);
  high = omega (arith, ints);
}

-- what follows is joined to what was walked
pub follows : (list : List Diff) (cycle : List ℕ) (k at : ℕ) (sum : ℤ) → Walked list cycle k at sum → IsNegativeCycle list cycle → k < length cycle → (diff_at list (get_or cycle k 0)).left ≡ at
follows list cycle zero at sum w n h = sym (w.start refl)
follows list cycle (suc k) at sum w n h =
    let e : k + 1 ≡ suc k = omega arith in
    let P : ℕ → Type 0 = λ m. (diff_at list (get_or cycle m 0)).left ≡ at in
    subst P e (sym (n.joined k (omega arith)) ∙ w.last k e)

pub walked_more : (list : List Diff) (cycle : List ℕ) (k at to : ℕ) (sum sum' : ℤ) (count : ℕ) → Walked list cycle k at sum → k < length cycle → get_or cycle k 0 < length list →
    IsProper count (diff_at list (get_or cycle k 0)) → (diff_at list (get_or cycle k 0)).left ≡ at → to ≡ (diff_at list (get_or cycle k 0)).right → sum' ≡ sum +ℤ (diff_at list (get_or cycle k 0)).most → Walked list cycle (k + 1) to sum'
walked_more list cycle k at to sum sum' count w h i p e f g = record {
  within = below_more _ _ w.within i;
  joined = λ j l. elim (cases_lt (j + 1) k) [
    | inl m ↦ w.joined j m
    | inr m ↦ let same : j + 1 ≡ k = omega arith in
        let P : ℕ → Type 0 = λ m. (diff_at list (get_or cycle j 0)).right ≡ (diff_at list (get_or cycle m 0)).left in
        subst P (sym same) (w.last j same ∙ sym e)
  ];
  last = λ j l. let same : k ≡ j = omega arith in
      let P : ℕ → Type 0 = λ m. (diff_at list (get_or cycle m 0)).right ≡ to in
      subst P same (sym f);
  start = λ l. absurd (omega arith);
  is = g ∙ ap (λ s. s +ℤ (diff_at list (get_or cycle k 0)).most) w.is ∙ sym (constants_more list cycle k h);
  low = let a = w.low in let b = p.low in omega (arith, ints);
  high = let a = w.high in let b = p.high in omega (arith, ints);
}

-- along a chain a solution does not rise by more than the constants
pub telescoped : (s : DifferenceSystem) (ys : List ℤ) (cycle : List ℕ) → Solves s ys → IsNegativeCycle s.list cycle → (j : ℕ) → j < length cycle →
    value ys (diff_at s.list (get_or cycle 0 0)).left ≤ℤ (value ys (diff_at s.list (get_or cycle j 0)).right +ℤ constants s.list (take (j + 1) cycle))
telescoped s ys cycle h n zero l =
    let a = h.each (get_or cycle 0 0) (n.within 0 l) in
    let b = constants_more s.list cycle 0 l in
    let c : constants s.list (take 0 cycle) ≡ pos 0 = refl in
    omega (arith, ints)
telescoped s ys cycle h n (suc j) l =
    let m : j + 1 ≡ suc j = omega arith in
    let a = telescoped s ys cycle h n j (omega arith) in
    let P : ℕ → Type 0 = λ m. value ys (diff_at s.list (get_or cycle 0 0)).left ≤ℤ (value ys (diff_at s.list (get_or cycle j 0)).right +ℤ constants s.list (take m cycle)) in
    let a' = subst P m a in
    let b = h.each (get_or cycle (suc j) 0) (n.within (suc j) l) in
    let c = constants_more s.list cycle (suc j) l in
    let d : (diff_at s.list (get_or cycle j 0)).right ≡ (diff_at s.list (get_or cycle (suc j) 0)).left =
    n.joined j (omega arith) ∙ ap (λ m. (diff_at s.list (get_or cycle m 0)).left) m in
    let e : value ys (diff_at s.list (get_or cycle j 0)).right ≡ value ys (diff_at s.list (get_or cycle (suc j) 0)).left = ap (value ys) d in
    omega (arith, ints)

pub refuted : (s : DifferenceSystem) (cycle : List ℕ) → IsNegativeCycle s.list cycle → HasNoSolution s
refuted s cycle n ys h =
    let k = length cycle - 1 in
    let some : 0 < length cycle = n.some in
    let e : k + 1 ≡ length cycle = omega arith in
    let a = telescoped s ys cycle h n k (omega arith) in
    let b : value ys (diff_at s.list (get_or cycle k 0)).right ≡ value ys (diff_at s.list (get_or cycle 0 0)).left = ap (value ys) (n.closed k e) in
    let c : take (k + 1) cycle ≡ cycle = take_all (k + 1) cycle (omega arith) in
    let d : constants s.list (take (k + 1) cycle) ≡ constants s.list cycle = ap (constants s.list) c in
    let f : constants s.list cycle <ℤ pos 0 = n.negative in
    absurd (omega (arith, ints))

-- the whole walk, closed, is a cycle exactly as the checker says
pub is_cycle : (list : List Diff) (cycle : List ℕ) (at : ℕ) (sum : ℤ) → Walked list cycle (length cycle) at sum → 0 < length cycle → length cycle ≤ most_inequalities →
    at ≡ (diff_at list (get_or cycle 0 0)).left → sum <ℤ pos 0 → IsNegativeCycle list cycle
is_cycle list cycle at sum w some few e h = record {
  some = some;
  few = few;
  within = w.within;
  joined = w.joined;
  closed = λ k l. w.last k l ∙ e;
  negative = let a : sum ≡ constants list cycle = w.is ∙ ap (constants list) (take_all (length cycle) cycle (omega arith)) in subst (λ (z : ℤ). z <ℤ pos 0) a h;
}

pub of_cycle : (list : List Diff) (cycle : List ℕ) (at : ℕ) (sum : ℤ) → Walked list cycle (length cycle) at sum → IsNegativeCycle list cycle →
    (at ≡ (diff_at list (get_or cycle 0 0)).left) × (sum <ℤ pos 0)
of_cycle list cycle at sum w n =
    let k = length cycle - 1 in
    let some : 0 < length cycle = n.some in
    let e : k + 1 ≡ length cycle = omega arith in
    let a : sum ≡ constants list cycle = w.is ∙ ap (constants list) (take_all (length cycle) cycle (omega arith)) in
    (sym (w.last k e) ∙ n.closed k e, subst (λ (z : ℤ). z <ℤ pos 0) (sym a) n.negative)
