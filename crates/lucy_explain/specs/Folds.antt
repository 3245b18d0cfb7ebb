-- A line of inequalities that follow one another, told as one inequality.
use Rattle.std.specs.Prelude.{ℕ, ◌+◌, ◌<◌, ◌≤◌, ◌≡◌, List, [], ◌∷◌, length, take, drop, slice_index, ℤ, pos, ◌+ℤ◌, ◌≤ℤ◌}
use Rattle.std.specs.List.{fold}
use Rattle.lucy_solve.specs.declared.diffs.Diff.{Diff}
use Rattle.lucy_solve.specs.System.{diff_at, constants, value}
use Rattle.lucy_explain.specs.declared.line.Line.{Line}

-- The line stands for the first so many of the inequalities at these positions: each begins at the variable at which the one before it ends,
-- the line leads from the first left variable to the last right one, and its constant is the sum of theirs.
pub record Folds (list : List Diff) (positions : List ℕ) (line : Line) : Type 0 where
  pub some : 0 < line.count
  pub within : line.count ≤ length positions
  pub joined : (k : ℕ) → k + 1 < line.count → (diff_at list (slice_index positions k)).right ≡ (diff_at list (slice_index positions (k + 1))).left
  pub left : line.left ≡ (diff_at list (slice_index positions 0)).left
  pub right : (k : ℕ) → k + 1 ≡ line.count → line.right ≡ (diff_at list (slice_index positions k)).right
  pub most : line.most ≡ constants list (take line.count positions)

-- the lines stand, one after the other, for the inequalities at these positions, up to `rest`, for which none of them stands
abbrev pub FoldTo : List Diff → (positions : List ℕ) → List Line → (rest : List ℕ) → Type 0
FoldTo list positions [] rest = positions ≡ rest
FoldTo list positions (line ∷ lines) rest = Folds list positions line × FoldTo list (drop line.count positions) lines rest

-- and for all of them
abbrev pub Fold : List Diff → (positions : List ℕ) → List Line → Type 0
Fold list positions lines = FoldTo list positions lines []

-- the numbers meet the inequality between the two variables
abbrev pub HoldsBetween : List ℤ → (left right : ℕ) → (most : ℤ) → Type 0
HoldsBetween values left right most = value values left ≤ℤ (value values right +ℤ most)

-- whatever numbers meet the inequalities meet the line that stands for them
abbrev pub FollowsLaw : Type 0
FollowsLaw = (list : List Diff) (positions : List ℕ) (line : Line) (values : List ℤ) → Folds list positions line →
    ((k : ℕ) → k < line.count → HoldsBetween values (diff_at list (slice_index positions k)).left (diff_at list (slice_index positions k)).right (diff_at list (slice_index positions k)).most) →
    HoldsBetween values line.left line.right line.most

-- the constants of the lines have the same sum as those of the inequalities
abbrev pub SumLaw : Type 0
SumLaw = (list : List Diff) (positions : List ℕ) (lines : List Line) → Fold list positions lines →
    fold (λ sum line. sum +ℤ line.most) (pos 0) lines ≡ constants list positions
