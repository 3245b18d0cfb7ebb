-- One lift of a variable keeps what the search knows.
use Rattle.std.proofs.Common.{neg_ℤ, inl, inr, ◌≡◌, ℕ, ◌+◌, ◌<◌, ◌≤◌, ℤ, pos, negsuc, ◌+ℤ◌, ◌≤ℤ◌, List, length, get_or, set, replicate, sym, ap, ◌∙◌, subst, refl, arith}
use Rattle.std.proofs.lemmas.Int.{ints}
use Rattle.std.proofs.lemmas.Bool.{cases_eq}
use Rattle.std.proofs.lemmas.List.{get_or-set_same, get_or-set_other, length-set, length-replicate}
use Rattle.lucy_solve.specs.System.{DifferenceSystem, diff_at, no_diff, IsProper, IsSystem, value, IsGrounded, most_constant}
use Rattle.lucy_solve.specs.Search.{shifted, IsLift, IsReached}
use Rattle.lucy_solve.proofs.Places.{put, put_same, put_other, at_set, first_at}

pub shifted_is : (z : ℤ) → neg_ℤ (pos most_constant) ≤ℤ z → pos (shifted z) ≡ z +ℤ pos most_constant
shifted_is (pos n) h = omega (arith, ints)
shifted_is (negsuc n) h = omega (arith, ints)

pub proper : (s : DifferenceSystem) → IsSystem s → (i : ℕ) → i < length s.list → IsProper s.count (diff_at s.list i)
proper s h i l = h i no_diff l

lifted_here : (s : DifferenceSystem) (x : List ℕ) (i to : ℕ) (rank : ℕ → ℕ) (top : ℕ) → ((v : ℕ) → rank v < top) → (diff_at s.list i).right < length x →
    get_or x (diff_at s.list i).right 0 < to → to + shifted (diff_at s.list i).most ≡ get_or x (diff_at s.list i).left 0 + most_constant →
    (v j : ℕ) → v ≡ (diff_at s.list i).right → j ≡ i → IsLift s.list (set x (diff_at s.list i).right to) (put rank (diff_at s.list i).right top) v j
lifted_here s x i to rank top below in' more e v j f g =
    let r = (diff_at s.list i).right in
    let P : ℕ → ℕ → Type 0 = λ v j. IsLift s.list (set x r to) (put rank r top) v j in
    let here : P r i =
    let a : get_or (set x r to) r 0 ≡ to = get_or-set_same x r to 0 in' in
    elim (at_set x r to (diff_at s.list i).left in') [
      | inl w ↦ let b = w.1 in let c : get_or x (diff_at s.list i).left 0 ≡ get_or x r 0 = ap (λ k. get_or x k 0) w.0 in
          record { target = refl; most = omega arith; strict = λ k. absurd (omega arith) }
      | inr w ↦ let b = w.1 in let c = put_other rank r top (diff_at s.list i).left w.0 in let t = put_same rank r top r refl in let u = below (diff_at s.list i).left in
          record { target = refl; most = omega arith; strict = λ k. omega arith }
    ] in
    subst (λ (v : ℕ). P v j) (sym f) (subst (P r) (sym g) here)

lifted_there : (s : DifferenceSystem) (x : List ℕ) (r to : ℕ) (rank : ℕ → ℕ) (top : ℕ) → r < length x → get_or x r 0 < to →
    (v j : ℕ) → (v ≡ r → ⊥) → IsLift s.list x rank v j → IsLift s.list (set x r to) (put rank r top) v j
lifted_there s x r to rank top in' more v j n h =
    let a : get_or (set x r to) v 0 ≡ get_or x v 0 = get_or-set_other x r v to 0 n in
    let b = h.most in
    let g = put_other rank r top v n in
    elim (at_set x r to (diff_at s.list j).left in') [
      | inl w ↦ let d = w.1 in let c : get_or x (diff_at s.list j).left 0 ≡ get_or x r 0 = ap (λ k. get_or x k 0) w.0 in
          record { target = h.target; most = omega arith; strict = λ k. absurd (omega arith) }
      | inr w ↦ let d = w.1 in let c = put_other rank r top (diff_at s.list j).left w.0 in
          record { target = h.target; most = omega arith; strict = λ k. let u = h.strict (omega arith) in omega arith }
    ]

-- variable r of inequality i is lifted to `to`
pub lift : (s : DifferenceSystem) (x parents : List ℕ) (i to : ℕ) → IsReached s x parents → IsSystem s → i < length s.list →
    get_or x (diff_at s.list i).right 0 < to → to + shifted (diff_at s.list i).most ≡ get_or x (diff_at s.list i).left 0 + most_constant →
    IsReached s (set x (diff_at s.list i).right to) (set parents (diff_at s.list i).right i)
lift s x parents i to h p l more e =
    let d = diff_at s.list i in
    let pd = proper s p i l in
    let r_x : d.right < length x = let a = pd.right in let b = h.value_count in omega arith in
    let r_by : d.right < length parents = let a = pd.right in let b = h.parent_count in omega arith in
    let sh = shifted_is d.most pd.low in
    let rank : ℕ → ℕ = put h.rank d.right h.top in
    record {
      value_count = length-set x d.right to ∙ h.value_count;
      parent_count = length-set parents d.right i ∙ h.parent_count;
      lower = λ ys y v k. elim (at_set x d.right to v r_x) [
        | inl w ↦ let a = y.each i l in
            let b = h.lower ys y d.left pd.left in
            let c = w.1 in
            let f : value ys v ≡ value ys d.right = ap (value ys) w.0 in
            omega (arith, ints)
        | inr w ↦ rw w.1 (h.lower ys y v k)
      ];
      root = λ v k m. elim (at_set parents d.right i v r_by) [
        | inl w ↦ let c = w.1 in absurd (omega arith)
        | inr w ↦ let c = w.1 in get_or-set_other x d.right v to 0 w.0 ∙ h.root v k (omega arith)
      ];
      rank = rank;
      top = h.top + 1;
      below = λ v. elim (cases_eq v d.right) [
        | inl f ↦ let a = put_same h.rank d.right h.top v f in omega arith
        | inr n ↦ let a = put_other h.rank d.right h.top v n in let b = h.below v in omega arith
      ];
      lifted = λ v k m. elim (at_set parents d.right i v r_by) [
        | inl w ↦ lifted_here s x i to h.rank h.top h.below r_x more e v (get_or (set parents d.right i) v 0) w.0 w.1
        | inr w ↦ let c = w.1 in lifted_there s x (diff_at s.list i).right to h.rank h.top r_x more v (get_or (set parents d.right i) v 0) w.0
            (let P : ℕ → Type 0 = λ j. IsLift s.list x h.rank v j in subst P (sym w.1) (h.lifted v k (omega arith)))
      ];
    }

-- before the first pass
pub reached_first : (s : DifferenceSystem) (none : ℕ) → IsGrounded s → length s.list ≤ none → IsReached s (replicate s.count 0) (replicate s.count none)
reached_first s none ready big = record {
  value_count = length-replicate s.count 0;
  parent_count = length-replicate s.count none;
  lower = λ ys y v k. elim (cases_eq v 0) [
    | inl e ↦ let a = first_at s.count v 0 k in
        let b : value ys v ≡ pos 0 = ap (value ys) e ∙ y.origin in omega (arith, ints)
    | inr n ↦ let a = first_at s.count v 0 k in
        let base = ready.based v (omega arith) k in
        let b = y.each base.0 base.1 in
        let c = base.2.most in
        let d : value ys (diff_at s.list base.0).left ≡ pos 0 = ap (value ys) base.2.left ∙ y.origin in
        let e : value ys (diff_at s.list base.0).right ≡ value ys v = ap (value ys) base.2.right in
        omega (arith, ints)
  ];
  root = λ v k m. first_at s.count v 0 k;
  rank = λ v. 0;
  top = 1;
  below = λ v. omega arith;
  lifted = λ v k m. let a = first_at s.count v none k in absurd (omega arith);
}
