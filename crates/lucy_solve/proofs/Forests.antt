-- The end of a path that meets no variable of its own: its variables join the forest.
use Rattle.std.proofs.Common.{inl, inr, ◌-◌, ◌≡◌, ℕ, ◌+◌, ◌<◌, ◌≤◌, ◌⊎◌, List, [], length, get_or, cond, ltb, sym, ap, ◌∙◌, subst, refl, arith}
use Rattle.std.proofs.lemmas.Bool.{cases_lt}
use Rattle.std.proofs.lemmas.Bool.Decides.{nat_tests}
use Rattle.lucy_solve.specs.System.{DifferenceSystem, diff_at}
use Rattle.lucy_solve.specs.Climb.{IsClimb, IsEnd}
use Rattle.lucy_solve.specs.Parents.{IsForest, IsRoot, HasTargets}
use Rattle.lucy_solve.proofs.Climbs.{climb_few}

abbrev new_depth : (ℕ → ℕ) → List ℕ → ℕ → ℕ → ℕ → ℕ
new_depth depth marks before len v = cond (ltb before (get_or marks v 0)) (before + before + len + 1 - get_or marks v 0) (depth v)

depth_old : (depth : ℕ → ℕ) (marks : List ℕ) (before len v : ℕ) → get_or marks v 0 ≤ before → new_depth depth marks before len v ≡ depth v
depth_old depth marks before len v h = grind (arith, nat_tests)

depth_new : (depth : ℕ → ℕ) (marks : List ℕ) (before len v : ℕ) → before < get_or marks v 0 → new_depth depth marks before len v ≡ before + before + len + 1 - get_or marks v 0
depth_new depth marks before len v h = grind (arith, nat_tests)

-- no root is marked on the path
root_low : (s : DifferenceSystem) (parents marks path : List ℕ) (before start at : ℕ) → IsClimb s parents marks path before start at → (v : ℕ) → IsRoot s parents v → get_or marks v 0 ≤ before
root_low s parents marks path before start at h v r = elim (cases_lt before (get_or marks v 0)) [
  | inl l ↦ let top = h.top v in
      let j = get_or marks v 0 - before - 1 in
      let in' : j < length path = omega arith in
      let a : get_or parents v 0 ≡ get_or path j 0 = ap (λ w. get_or parents w 0) (sym (h.found v l)) ∙ h.kept j in' in
      let b = h.within j in' in
      absurd (omega arith)
  | inr l ↦ l
]

up_path : (s : DifferenceSystem) (parents marks path : List ℕ) (before start at : ℕ) (h : IsClimb s parents marks path before start at) → get_or marks at 0 ≤ before → (v : ℕ) → before < get_or marks v 0 →
    new_depth h.depth marks before (length path) (diff_at s.list (get_or parents v 0)).left < new_depth h.depth marks before (length path) v
up_path s parents marks path before start at h at_low v l =
    let top = h.top v in
    let j = get_or marks v 0 - before - 1 in
    let in' : j < length path = omega arith in
    let a : get_or parents v 0 ≡ get_or path j 0 = ap (λ w. get_or parents w 0) (sym (h.found v l)) ∙ h.kept j in' in
    let d = depth_new h.depth marks before (length path) v l in
    elim (cases_lt (j + 1) (length path)) [
      | inl m ↦ let b : (diff_at s.list (get_or parents v 0)).left ≡ (diff_at s.list (get_or path (j + 1) 0)).right = ap (λ i. (diff_at s.list i).left) a ∙ h.joined j m in
          let c : get_or marks (diff_at s.list (get_or parents v 0)).left 0 ≡ before + (j + 1) + 1 = ap (λ w. get_or marks w 0) b ∙ h.marked (j + 1) m in
          let e = depth_new h.depth marks before (length path) (diff_at s.list (get_or parents v 0)).left (omega arith) in
          omega arith
      | inr m ↦ let b : (diff_at s.list (get_or parents v 0)).left ≡ at = ap (λ i. (diff_at s.list i).left) a ∙ h.last j (omega arith) in
          let c : get_or marks (diff_at s.list (get_or parents v 0)).left 0 ≡ get_or marks at 0 = ap (λ w. get_or marks w 0) b in
          let e = depth_old h.depth marks before (length path) (diff_at s.list (get_or parents v 0)).left (omega arith) in
          let f = h.shallow (diff_at s.list (get_or parents v 0)).left in
          omega arith
    ]

closed_path : (s : DifferenceSystem) (parents marks path : List ℕ) (before start at : ℕ) (h : IsClimb s parents marks path before start at) → IsEnd s parents marks before at → (v : ℕ) → before < get_or marks v 0 →
    ((0 < get_or marks (diff_at s.list (get_or parents v 0)).left 0) × (get_or marks (diff_at s.list (get_or parents v 0)).left 0 ≤ before + length path)) ⊎ IsRoot s parents (diff_at s.list (get_or parents v 0)).left
closed_path s parents marks path before start at h end v l =
    let top = h.top v in
    let j = get_or marks v 0 - before - 1 in
    let in' : j < length path = omega arith in
    let a : get_or parents v 0 ≡ get_or path j 0 = ap (λ w. get_or parents w 0) (sym (h.found v l)) ∙ h.kept j in' in
    elim (cases_lt (j + 1) (length path)) [
      | inl m ↦ let b : (diff_at s.list (get_or parents v 0)).left ≡ (diff_at s.list (get_or path (j + 1) 0)).right = ap (λ i. (diff_at s.list i).left) a ∙ h.joined j m in
          let c : get_or marks (diff_at s.list (get_or parents v 0)).left 0 ≡ before + (j + 1) + 1 = ap (λ w. get_or marks w 0) b ∙ h.marked (j + 1) m in
          inl (omega arith, omega arith)
      | inr m ↦ let b : (diff_at s.list (get_or parents v 0)).left ≡ at = ap (λ i. (diff_at s.list i).left) a ∙ h.last j (omega arith) in
          let c : get_or marks (diff_at s.list (get_or parents v 0)).left 0 ≡ get_or marks at 0 = ap (λ w. get_or marks w 0) b in
          elim end [
            | inl w ↦ let x = w.0 in let y = w.1 in inl (omega arith, omega arith)
            | inr w ↦ inr (subst (λ (v : ℕ). IsRoot s parents v) (sym b) w.1)
          ]
    ]

pub climb_end : (s : DifferenceSystem) (parents marks path : List ℕ) (before start at : ℕ) → IsClimb s parents marks path before start at → HasTargets s parents → start < s.count → IsEnd s parents marks before at →
    IsClimb s parents marks [] (before + length path) (start + 1) (start + 1)
climb_end s parents marks path before start at h t k end =
    let at_low : get_or marks at 0 ≤ before = elim end [ inl w ↦ w.1 | inr w ↦ let a = w.0 in omega arith ] in
    let onpath : (v : ℕ) → before < get_or marks v 0 → (get_or parents v 0 ≡ get_or path (get_or marks v 0 - before - 1) 0) × (get_or marks v 0 - before - 1 < length path) = λ v l.
    let top = h.top v in
    let in' : get_or marks v 0 - before - 1 < length path = omega arith in
    (ap (λ w. get_or parents w 0) (sym (h.found v l)) ∙ h.kept _ in', in') in
    record {
      size = h.size;
      begun = λ a b. refl;
      inside = λ a. a;
      done = λ v a b. elim (cases_lt v start) [
        | inl l ↦ h.done v l b
        | inr l ↦ let same : v ≡ start = omega arith in
            elim (cases_lt 0 (get_or marks v 0)) [
              | inl m ↦ inl m
              | inr m ↦ let g : at ≡ start = h.begun k (let n : get_or marks v 0 ≡ get_or marks start 0 = ap (λ w. get_or marks w 0) same in omega arith) in
                  let q : at ≡ v = g ∙ sym same in
                  elim end [
                    | inl w ↦ let c = w.0 in let n : get_or marks at 0 ≡ get_or marks v 0 = ap (λ w. get_or marks w 0) q in absurd (omega arith)
                    | inr w ↦ inr (subst (λ (v : ℕ). IsRoot s parents v) q w.1)
                  ]
            ]
      ];
      total = let a = h.total in omega arith;
      top = λ v. let a = h.top v in omega arith;
      kept = λ j l. absurd (omega arith);
      within = λ j l. absurd (omega arith);
      marked = λ j l. absurd (omega arith);
      found = λ v l. let a = h.top v in absurd (omega arith);
      joined = λ j l. absurd (omega arith);
      last = λ j l. absurd (omega arith);
      depth = new_depth h.depth marks before (length path);
      shallow = λ v. elim (cases_lt before (get_or marks v 0)) [
        | inl l ↦ let a = depth_new h.depth marks before (length path) v l in omega arith
        | inr l ↦ let a = depth_old h.depth marks before (length path) v l in let b = h.shallow v in omega arith
      ];
      tree = λ v a b c. elim (cases_lt before (get_or marks v 0)) [
        | inl l ↦ let d = onpath v l in let e = d.0 in let f = h.within _ d.1 in omega arith
        | inr l ↦ h.tree v a b l
      ];
      up = λ v a b c. elim (cases_lt before (get_or marks v 0)) [
        | inl l ↦ up_path s parents marks path before start at h at_low v l
        | inr l ↦ let d = depth_old h.depth marks before (length path) v l in
            let e = h.up v a b l in
            let low : get_or marks (diff_at s.list (get_or parents v 0)).left 0 ≤ before = elim (h.closed v a b l) [ inl w ↦ w.1 | inr w ↦ root_low s parents marks path before start at h _ w ] in
            let f = depth_old h.depth marks before (length path) (diff_at s.list (get_or parents v 0)).left low in
            omega arith
      ];
      closed = λ v a b c. elim (cases_lt before (get_or marks v 0)) [
        | inl l ↦ closed_path s parents marks path before start at h end v l
        | inr l ↦ elim (h.closed v a b l) [
          | inl w ↦ let m = w.1 in inl (w.0, omega arith)
          | inr w ↦ inr w
        ]
      ];
    }

pub climb_forest : (s : DifferenceSystem) (parents marks : List ℕ) (before start at : ℕ) → IsClimb s parents marks [] before start at → HasTargets s parents → s.count ≤ start → IsForest s parents
climb_forest s parents marks before start at h t l =
    let few = climb_few s parents marks [] before start at h t in
    record {
      depth = h.depth;
      shallow = λ v. let a = h.shallow v in omega arith;
      up = λ v k m. elim (h.done v (omega arith) k) [
        | inl w ↦ h.up v k w (let a = h.top v in omega arith)
        | inr w ↦ absurd (omega arith)
      ];
    }

pub climb_next : (s : DifferenceSystem) (parents marks path path' : List ℕ) (before start at n : ℕ) → IsClimb s parents marks path before start at → HasTargets s parents → start < s.count → (before < get_or marks at 0) ⊎ IsEnd s parents marks before at →
    get_or marks at 0 ≤ before → path' ≡ [] → n ≡ length path → IsClimb s parents marks path' (before + n) (start + 1) (start + 1) × (path' ≡ [])
climb_next s parents marks path path' before start at n h t k end low e f =
    let end' : IsEnd s parents marks before at = elim end [ inl w ↦ absurd (omega arith) | inr w ↦ w ] in
    let a = climb_end s parents marks path before start at h t k end' in
    let P : List ℕ → ℕ → Type 0 = λ path n. IsClimb s parents marks path (before + n) (start + 1) (start + 1) in
    (subst (P path') (sym f) (subst (λ (x : List ℕ). P x (length path)) (sym e) a), e)

pub climb_over : (s : DifferenceSystem) (parents marks path : List ℕ) (before start at : ℕ) → IsClimb s parents marks path before start at → path ≡ [] → HasTargets s parents → s.count ≤ start → IsForest s parents
climb_over s parents marks path before start at h e t l = climb_forest s parents marks before start at (subst (λ (p : List ℕ). IsClimb s parents marks p before start at) e h) t l
