-- A climb along parents, step by step.
use Rattle.std.proofs.Common.{inl, inr, ◌-◌, ◌≡◌, ℕ, ◌+◌, ◌<◌, ◌≤◌, ◌⊎◌, List, [], ◌∷◌, ◌++◌, length, get_or, set, replicate, cond, sym, ap, ◌∙◌, subst, refl, arith}
use Rattle.std.proofs.lemmas.Bool.{cases_lt}
use Rattle.std.proofs.lemmas.Bool.Decides.{nat_tests}
use Rattle.std.proofs.lemmas.List.{get_or-set_same, get_or-set_other, length-set, length-replicate, length_push, get_or_append_left, get_or_push, get_or_past}
use Rattle.std.proofs.lemmas.List.Sums.{sum_by-set}
use Rattle.std.proofs.lemmas.List.Folds.{sum_by-replicate}
use Rattle.lucy_solve.specs.declared.diffs.Diff.{Diff}
use Rattle.lucy_solve.specs.System.{DifferenceSystem, diff_at, IsSystem}
use Rattle.lucy_solve.specs.Climb.{is_marked, IsClimb}
use Rattle.lucy_solve.specs.Parents.{HasTargets}
use Rattle.lucy_solve.proofs.Places.{at_set, first_at}
use Rattle.lucy_solve.proofs.Lifts.{proper}
use Rattle.lucy_solve.proofs.Counting.{marked_few}

pub climb_few : (s : DifferenceSystem) (parents marks path : List ℕ) (before start at : ℕ) → IsClimb s parents marks path before start at → HasTargets s parents → before + length path ≤ length s.list
climb_few s parents marks path before start at h t =
    let size = h.size in
    let total = h.total in
    let a = marked_few s.list marks (λ v k m. elim (cases_lt before (get_or marks v 0)) [
      | inl l ↦ let top = h.top v in (get_or path (get_or marks v 0 - before - 1) 0, h.within _ (omega arith), h.found v l)
      | inr l ↦ let i = h.tree v (omega arith) m l in (get_or parents v 0, i, t v (omega arith) i)
    ]) in
    omega arith

none_at : (n v : ℕ) → get_or (replicate {A = ℕ} n 0) v 0 ≤ 0
none_at n v = elim (cases_lt v n) [
  | inl l ↦ let a = first_at n v 0 l in omega arith
  | inr l ↦ let a : get_or (replicate {A = ℕ} n 0) v 0 ≡ 0 = get_or_past (replicate n 0) v 0 (let b = length-replicate {A = ℕ} n 0 in omega arith) in omega arith
]

pub climb_none : (s : DifferenceSystem) (parents : List ℕ) → IsClimb s parents (replicate s.count 0) [] 0 0 0
climb_none s parents = record {
  size = length-replicate s.count 0;
  begun = λ k e. refl;
  inside = λ k. k;
  done = λ v k l. absurd (omega arith);
  total = sum_by-replicate (λ n. cond (is_marked n) 1 0) s.count 0 ∙ omega arith;
  top = λ v. none_at s.count v;
  kept = λ j l. absurd (omega arith);
  within = λ j l. absurd (omega arith);
  marked = λ j l. absurd (omega arith);
  found = λ v l. let a = none_at s.count v in absurd (omega arith);
  joined = λ j l. absurd (omega arith);
  last = λ j l. absurd (omega arith);
  depth = λ v. 0;
  shallow = λ v. omega arith;
  tree = λ v k l m. absurd (omega arith);
  up = λ v k l m. absurd (omega arith);
  closed = λ v k l m. absurd (omega arith);
}

one_mark : (m : ℕ) → 0 < m → cond (is_marked m) 1 0 ≡ 0 + 1
one_mark m h = grind (arith, nat_tests)

-- a path with one more step, at an index
pushed : (path : List ℕ) (i j : ℕ) → j < length (path ++ i ∷ []) → ((j < length path) × (get_or (path ++ i ∷ []) j 0 ≡ get_or path j 0)) ⊎ ((j ≡ length path) × (get_or (path ++ i ∷ []) j 0 ≡ i))
pushed path i j l = elim (cases_lt j (length path)) [
  | inl m ↦ inl (m, get_or_append_left path (i ∷ []) 0 j m)
  | inr m ↦ let a = length_push path i in inr (omega arith, get_or_push path i 0 j (omega arith))
]

-- the path goes on from `at` by its parent i
pub climb_mark : (s : DifferenceSystem) (parents marks path : List ℕ) (before start at i mark : ℕ) → IsClimb s parents marks path before start at → HasTargets s parents → IsSystem s → at < s.count → get_or marks at 0 ≡ 0 →
    i ≡ get_or parents at 0 → i < length s.list → mark ≡ before + length path + 1 → IsClimb s parents (set marks at mark) (path ++ i ∷ []) before start (diff_at s.list i).left
climb_mark s parents marks path before start at i mark h t p k zero_at e l f =
    let size = h.size in
    let push = length_push path i in
    let in' : at < length marks = omega arith in
    let target : (diff_at s.list i).right ≡ at = ap (λ j. (diff_at s.list j).right) e ∙ t at k (omega arith) in
    let apart : (v : ℕ) → 0 < get_or marks v 0 → v ≡ at → ⊥ = λ v a b. let c = ap (λ (w : ℕ). get_or marks w 0) b in absurd (omega arith) in
    let kept : (v : ℕ) → 0 < get_or marks v 0 → get_or (set marks at mark) v 0 ≡ get_or marks v 0 = λ v a. get_or-set_other marks at v mark 0 (apart v a) in
    let old : (v : ℕ) → 0 < get_or (set marks at mark) v 0 → get_or (set marks at mark) v 0 ≤ before → get_or (set marks at mark) v 0 ≡ get_or marks v 0 = λ v a b. elim (at_set marks at mark v in') [
      | inl w ↦ let c = w.1 in absurd (omega arith)
      | inr w ↦ w.1
    ] in
    record {
      size = length-set marks at mark ∙ size;
      begun = λ b c. elim (at_set marks at mark start in') [
        | inl w ↦ let d = w.1 in absurd (omega arith)
        | inr w ↦ let d = w.1 in let g = h.begun b (omega arith) in absurd (w.0 (sym g))
      ];
      inside = λ b. (proper s p i l).left;
      done = λ v b c. elim (h.done v b c) [ inl m ↦ let d = kept v m in inl (omega arith) | inr m ↦ inr m ];
      total = let a = sum_by-set (λ n. cond (is_marked n) 1 0) marks at mark 0 in' in
          let b = one_mark mark (omega arith) in
          let c : cond (is_marked (get_or marks at 0)) 1 0 ≡ 0 + 0 = ap (λ n. cond (is_marked n) 1 0) zero_at ∙ omega arith in
          let d = h.total in
          omega arith;
      top = λ v. elim (at_set marks at mark v in') [
        | inl w ↦ let c = w.1 in omega arith
        | inr w ↦ let c = w.1 in let d = h.top v in omega arith
      ];
      kept = λ j b. elim (pushed path i j b) [
        | inl w ↦ rw w.1 (h.kept j w.0)
        | inr w ↦ rw w.1 (ap (λ v. get_or parents v 0) target ∙ sym e)
      ];
      within = λ j b. elim (pushed path i j b) [
        | inl w ↦ rw w.1 (h.within j w.0)
        | inr w ↦ rw w.1 l
      ];
      marked = λ j b. elim (pushed path i j b) [
        | inl w ↦ rw w.1 (let c = h.marked j w.0 in kept (diff_at s.list (get_or path j 0)).right (omega arith) ∙ c)
        | inr w ↦ rw w.1 (let c = w.0 in let d : get_or (set marks at mark) at 0 ≡ mark = get_or-set_same marks at mark 0 in' in
            ap (λ v. get_or (set marks at mark) v 0) target ∙ omega arith)
      ];
      found = λ v b. elim (at_set marks at mark v in') [
        | inl w ↦ let c = w.1 in
            let d : get_or (path ++ i ∷ []) (get_or (set marks at mark) v 0 - before - 1) 0 ≡ i = get_or_push path i 0 _ (omega arith) in
            rw d (target ∙ sym w.0)
        | inr w ↦ let c = w.1 in let g = h.top v in
            let d : get_or (path ++ i ∷ []) (get_or marks v 0 - before - 1) 0 ≡ get_or path (get_or marks v 0 - before - 1) 0 = get_or_append_left path (i ∷ []) 0 _ (omega arith) in
            rw (c, d) (h.found v (omega arith))
      ];
      joined = λ j b.
          let first : get_or (path ++ i ∷ []) j 0 ≡ get_or path j 0 = get_or_append_left path (i ∷ []) 0 j (omega arith) in
          elim (pushed path i (j + 1) b) [
            | inl w ↦ rw (first, w.1) (h.joined j w.0)
            | inr w ↦ rw (first, w.1) (h.last j w.0 ∙ sym target)
          ];
      last = λ j b. let c : get_or (path ++ i ∷ []) j 0 ≡ i = get_or_push path i 0 j (omega arith) in ap (λ m. (diff_at s.list m).left) c;
      depth = h.depth;
      shallow = h.shallow;
      tree = λ v b c d. let g = old v c d in h.tree v b (omega arith) (omega arith);
      up = λ v b c d. let g = old v c d in h.up v b (omega arith) (omega arith);
      closed = λ v b c d. let g = old v c d in elim (h.closed v b (omega arith) (omega arith)) [
        | inl w ↦ let m = w.0 in let n = w.1 in let q = kept (diff_at s.list (get_or parents v 0)).left m in inl (omega arith, omega arith)
        | inr w ↦ inr w
      ];
    }

-- one step of `climb`, over the list that it reads
pub climb_step : (s : DifferenceSystem) (list : List Diff) (parents marks path path' : List ℕ) (before start at i : ℕ) (d : Diff) → list ≡ s.list → IsClimb s parents marks path before start at → HasTargets s parents → IsSystem s → at < s.count → get_or marks at 0 ≡ 0 →
    i ≡ get_or parents at 0 → i < length list → d ≡ diff_at list i → path' ≡ path ++ i ∷ [] → (n : ℕ) → n ≡ before + length path' → IsClimb s parents (set marks at n) path' before start d.left × (d.left < s.count)
climb_step s list parents marks path path' before start at i d same h t p k zero_at e l f g n m =
    let in' : i < length s.list = subst (λ (x : List Diff). i < length x) same l in
    let left : (diff_at s.list i).left ≡ d.left = ap (λ (x : List Diff). (diff_at x i).left) (sym same) ∙ ap (λ (d : Diff). d.left) (sym f) in
    let len : length path' ≡ length path + 1 = ap length g ∙ length_push path i in
    let a = climb_mark s parents marks path before start at i n h t p k zero_at e in' (omega arith) in
    let b = (proper s p i in').left in
    let P : List ℕ → ℕ → Type 0 = λ xs v. IsClimb s parents (set marks at n) xs before start v in
    (subst (λ (v : ℕ). P path' v) left (subst (λ (xs : List ℕ). P xs (diff_at s.list i).left) (sym g) a), omega arith)

pub climb_bound : (s : DifferenceSystem) (list : List Diff) (parents marks path path' : List ℕ) (before start at i : ℕ) (d : Diff) → list ≡ s.list → IsClimb s parents marks path before start at → HasTargets s parents → IsSystem s → at < s.count → get_or marks at 0 ≡ 0 →
    i ≡ get_or parents at 0 → i < length list → d ≡ diff_at list i → path' ≡ path ++ i ∷ [] → before + length path' ≤ length s.list
climb_bound s list parents marks path path' before start at i d same h t p k zero_at e l f g =
    climb_few s parents _ path' before start d.left (climb_step s list parents marks path path' before start at i d same h t p k zero_at e l f g (before + length path') refl).0 t

pub climb_first : (s : DifferenceSystem) (parents marks path : List ℕ) → marks ≡ replicate s.count 0 → path ≡ [] → IsClimb s parents marks path 0 0 0 × (path ≡ [])
climb_first s parents marks path e f =
    let P : List ℕ → List ℕ → Type 0 = λ marks path. IsClimb s parents marks path 0 0 0 in
    (subst (P marks) (sym f) (subst (λ (x : List ℕ). P x []) (sym e) (climb_none s parents)), f)
