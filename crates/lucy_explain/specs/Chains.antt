-- Why a position of a clock is as late as it is: inequalities that lead to it from the beginning, one after the other. Where clocks are
-- the earliest, each of these is met with nothing to spare (Plateau 2010).
use Rattle.std.specs.Prelude.{ℕ, ◌<◌, ◌≡◌, List, [], ◌∷◌, length, ℤ, pos, ◌+ℤ◌, ◌≤ℤ◌}
use Rattle.lucy_solve.specs.declared.diffs.Diff.{Diff}
use Rattle.lucy_solve.specs.System.{DifferenceSystem, Solves, diff_at, constants, value}
use Rattle.std.specs.List.{AllByRecursion}
use Rattle.lucy_need.specs.Meeting.{Assignment, MeetsAll}
use Rattle.lucy_need.specs.Stored.{HasWords}
use Rattle.lucy_need.specs.declared.need.Needs.{Needs}
use Rattle.lucy_shape.specs.Fitting.{IsShapeFor, IsFitting, ArePositions}
use Rattle.lucy_shape.specs.declared.shape.Shape.{Shape}
use Rattle.lucy_shape.specs.Inequalities.{system_of}
use Rattle.lucy_explain.specs.declared.reason.Reason.{Reason}

-- the inequalities at these positions lead from one variable to another, each from where the one before it ends, and by their constants
-- the last variable is so much later than the first
abbrev pub IsChain : List Diff → (from : ℕ) → (chain : List ℕ) → (to : ℕ) → (later : ℤ) → Type 0
IsChain list from [] to later = (from ≡ to) × (later ≡ pos 0)
IsChain list from (p ∷ chain) to later = (p < length list) × ((diff_at list p).left ≡ from) × IsChain list (diff_at list p).right chain to (later +ℤ (diff_at list p).most)

-- so much as the sum of their constants is below 0
abbrev pub ChainSumLaw : Type 0
ChainSumLaw = (list : List Diff) (from : ℕ) (chain : List ℕ) (to : ℕ) (later : ℤ) → IsChain list from chain to later → (later +ℤ constants list chain) ≡ pos 0

-- no numbers that solve the inequalities have less at the end of a chain from the origin
abbrev pub LeastLaw : Type 0
LeastLaw = (s : DifferenceSystem) (chain : List ℕ) (variable : ℕ) (least : ℤ) → IsChain s.list 0 chain variable least →
    (values : List ℤ) → Solves s values → least ≤ℤ value values variable

-- the inequalities are those of the needs in the shape, and a chain of them leads from the origin to the variable, by which it stands at
-- the instant or later
pub record IsReasonFor (needs : Needs) (shape : Shape) (reason : Reason) : Type 0 where
  pub of_needs : reason.diffs ≡ system_of needs shape
  pub chain : IsChain reason.diffs.list 0 reason.chain.items reason.variable reason.instant

-- no clocks of a shape that meet the needs have the position of a reason earlier
abbrev pub ReasonLaw : Type 0
ReasonLaw = (needs : Needs) (shape : Shape) (reason : Reason) → AllByRecursion HasWords needs.list → IsShapeFor needs shape → IsReasonFor needs shape reason →
    (w : Assignment) (xs : List ℤ) → IsFitting shape w → ArePositions shape w xs → MeetsAll w needs.list → reason.instant ≤ℤ value xs reason.variable
