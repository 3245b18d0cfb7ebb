-- What a sweep keeps.
use Rattle.std.proofs.Common.{◌^◌, ◌≡◌, ℕ, ◌≤◌, List, get_or, Bool, ap, arith}
use Rattle.lucy_solve.specs.declared.diffs.Diff.{Diff}
use Rattle.lucy_solve.specs.System.{DifferenceSystem, diff_at}
use Rattle.lucy_solve.specs.Search.{IsReached, AreWithin, IsRaised, IsSwept, most_swept}
use Rattle.lucy_solve.proofs.Raises.{raised_grown}

pub swept_none : (s : DifferenceSystem) (x parents : List ℕ) → IsReached s x parents → AreWithin x most_swept → IsSwept s x x parents
swept_none s x parents h w = record { reached = h; within = w; grown = omega arith }

pub swept_on : (s : DifferenceSystem) (x y z parents parents' : List ℕ) → IsSwept s x y parents → IsSwept s y z parents' → IsSwept s x z parents'
swept_on s x y z parents parents' h k = let a = h.grown in let b = k.grown in record { reached = k.reached; within = k.within; grown = omega arith }

-- one inequality whose left variable stands at 2^61 or below
pub swept_lift : (s : DifferenceSystem) (list : List Diff) (x y parents : List ℕ) (i : ℕ) (moved : Bool) → list ≡ s.list → AreWithin x most_swept → get_or x (diff_at list i).left 0 ≤ 2 ^ 61 →
    IsReached s y parents → IsRaised s.list x y i moved → IsSwept s x y parents
swept_lift s list x y parents i moved e w low h r =
    let same : get_or x (diff_at list i).left 0 ≡ get_or x (diff_at s.list i).left 0 = ap (λ (l : List Diff). get_or x (diff_at l i).left 0) e in
    record { reached = h; within = r.within most_swept w (omega arith); grown = raised_grown s.list x y i moved r }
