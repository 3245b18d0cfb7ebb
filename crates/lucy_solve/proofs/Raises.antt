-- One inequality that is looked at.
use Rattle.std.proofs.Common.{inl, inr, ◌≡◌, ℕ, ◌+◌, ◌*◌, ◌<◌, ◌≤◌, List, length, set, get_or, Bool, true, false, sum, sym, ap, ◌∙◌, subst, refl, arith}
use Rattle.std.proofs.Common.{to_z, of_z, w64}
use Rattle.std.proofs.lemmas.Int.{ints}
use Rattle.std.proofs.lemmas.Bool.{cases_lt}
use Rattle.std.proofs.lemmas.List.{length-set, get_or_past}
use Rattle.lucy_solve.specs.declared.diffs.Diff.{Diff}
use Rattle.lucy_solve.specs.System.{DifferenceSystem, diff_at, IsProper, IsSystem, most_constant}
use Rattle.lucy_solve.specs.Search.{shifted, IsReached, AreWithin, IsRaised}
use Rattle.lucy_solve.proofs.Places.{at_set, sum_set}
use Rattle.lucy_solve.proofs.Lifts.{lift, proper}

raised_here : (s : DifferenceSystem) (x parents : List ℕ) (i to : ℕ) → IsSystem s → IsReached s x parents → i < length s.list →
    get_or x (diff_at s.list i).right 0 < to → to + shifted (diff_at s.list i).most ≡ get_or x (diff_at s.list i).left 0 + most_constant → IsRaised s.list x (set x (diff_at s.list i).right to) i true
raised_here s x parents i to p h l more f =
    let r = (diff_at s.list i).right in
    let a = proper s p i l in let b = a.left in let c = a.right in let v = h.value_count in
    let in' : r < length x = omega arith in
    let grown = sum_set x r to in' in
    record {
      within = λ n w low u k.
          elim (at_set x r to u in') [
            | inl w' ↦ let b' = w'.1 in omega arith
            | inr w' ↦ let b' = w'.1 in let c' = w u (let d = length-set x r to in omega arith) in omega arith
          ];
      still = λ e. (cc);
      risen = λ e. omega arith;
    }

-- variable r of inequality i is lifted
pub raised_step : (s : DifferenceSystem) (list : List Diff) (x parents : List ℕ) (i to : ℕ) → list ≡ s.list → IsSystem s → IsReached s x parents → i < length s.list →
    get_or x (diff_at list i).right 0 < to → to + shifted (diff_at list i).most ≡ get_or x (diff_at list i).left 0 + most_constant →
    IsReached s (set x (diff_at list i).right to) (set parents (diff_at list i).right i) × IsRaised s.list x (set x (diff_at list i).right to) i true
raised_step s list x parents i to e p h l more f =
    let P : List Diff → Type 0 = λ list. get_or x (diff_at list i).right 0 < to → to + shifted (diff_at list i).most ≡ get_or x (diff_at list i).left 0 + most_constant →
    IsReached s (set x (diff_at list i).right to) (set parents (diff_at list i).right i) × IsRaised s.list x (set x (diff_at list i).right to) i true in
    let here : P s.list = λ more f. (lift s x parents i to h p l more f, raised_here s x parents i to p h l more f) in
    subst P (sym e) here more f

-- no look lets the sum of the values fall
pub raised_grown : (list : List Diff) (x x' : List ℕ) (i : ℕ) (moved : Bool) → IsRaised list x x' i moved → sum x ≤ sum x'
raised_grown list x x' i true r = let a = r.risen refl in omega arith
raised_grown list x x' i false r = let a = ap sum (r.still refl).0 in omega arith

-- a look lifts no value by more than 2^40 past the highest
pub raised_within : (list : List Diff) (x x' : List ℕ) (i n : ℕ) (moved : Bool) → IsRaised list x x' i moved → AreWithin x n → AreWithin x' (n + 1)
raised_within list x x' i n moved r w =
    let low : get_or x (diff_at list i).left 0 ≤ most_constant * n = elim (cases_lt (diff_at list i).left (length x)) [
      | inl l ↦ w (diff_at list i).left l
      | inr l ↦ let a = get_or_past x (diff_at list i).left 0 l in omega arith
    ] in
    r.within (n + 1) (λ v k. let a = w v k in omega arith) (omega arith)

pub raise_most : (s : DifferenceSystem) (list : List Diff) (i : ℕ) (n : ℕ) → list ≡ s.list → IsSystem s → i < length s.list → n ≡ shifted (to_z w64 (of_z w64 (diff_at list i).most)) → n ≡ shifted (diff_at list i).most
raise_most s list i n e p l h =
    let a : IsProper s.count (diff_at list i) = subst (λ (x : List Diff). IsProper s.count (diff_at x i)) (sym e) (proper s p i l) in
    let b = a.low in
    let c = a.high in
    let f : to_z w64 (of_z w64 (diff_at list i).most) ≡ (diff_at list i).most = omega (arith, ints) in
    h ∙ ap shifted f
