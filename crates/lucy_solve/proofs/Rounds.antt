-- The end of a path that meets a variable of its own: a circle of parents.
use Rattle.std.proofs.Common.{◌-◌, ◌≡◌, ℕ, ◌+◌, ◌<◌, List, length, drop, reverse, get_or, sym, ap, ◌∙◌, subst, arith}
use Rattle.std.proofs.lemmas.List.{get_or-reverse, get_or-drop, length-reverse, length-drop}
use Rattle.lucy_solve.specs.System.{DifferenceSystem, diff_at}
use Rattle.lucy_solve.specs.Climb.{IsClimb}
use Rattle.lucy_solve.specs.Parents.{IsRound, HasTargets}
use Rattle.lucy_solve.proofs.Climbs.{climb_few}

pub climb_closed : (s : DifferenceSystem) (parents marks path : List ℕ) (before start at : ℕ) (cycle : List ℕ) → IsClimb s parents marks path before start at → HasTargets s parents → before < get_or marks at 0 →
    cycle ≡ reverse (drop (get_or marks at 0 - before - 1) path) → IsRound s parents cycle
climb_closed s parents marks path before start at cycle h t l e =
    let first = get_or marks at 0 - before - 1 in
    let top = h.top at in
    let in' : first < length path = omega arith in
    let len : length cycle ≡ length path - first = ap length e ∙ length-reverse (drop first path) ∙ length-drop first path in
    let item : (k : ℕ) → k < length cycle → get_or cycle k 0 ≡ get_or path (length path - 1 - k) 0 = λ k m.
    let a = length-drop first path in
    let b : get_or (reverse (drop first path)) k 0 ≡ get_or (drop first path) (length (drop first path) - 1 - k) 0 = get_or-reverse (drop first path) k 0 (omega arith) in
    let c : get_or (drop first path) (length (drop first path) - 1 - k) 0 ≡ get_or path (first + (length (drop first path) - 1 - k)) 0 = get_or-drop first path _ 0 in
    ap (λ xs. get_or xs k 0) e ∙ b ∙ c ∙ ap (λ j. get_or path j 0) (omega arith) in
    record {
      some = omega arith;
      few = let a = climb_few s parents marks path before start at h t in omega arith;
      within = λ k m. let a = item k m in let b = h.within (length path - 1 - k) (omega arith) in omega arith;
      joined = λ k m.
          let a = item k (omega arith) in
          let b = item (k + 1) m in
          let c = h.joined (length path - 1 - (k + 1)) (omega arith) in
          let d : length path - 1 - (k + 1) + 1 ≡ length path - 1 - k = omega arith in
          rw (a, b) (sym (subst (λ (j : ℕ). (diff_at s.list (get_or path (length path - 1 - (k + 1)) 0)).left ≡ (diff_at s.list (get_or path j 0)).right) d c));
      closed = λ k m.
          let a = item k (omega arith) in
          let b = item 0 (omega arith) in
          let c : length path - 1 - k ≡ first = omega arith in
          let d : (diff_at s.list (get_or path (length path - 1 - k) 0)).right ≡ at = ap (λ j. (diff_at s.list (get_or path j 0)).right) c ∙ h.found at l in
          rw (a, b) (d ∙ sym (h.last (length path - 1 - 0) (omega arith)));
      kept = λ k m. let a = item k m in rw a (h.kept (length path - 1 - k) (omega arith));
    }
