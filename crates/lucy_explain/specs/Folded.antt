-- How a cycle of inequalities is folded.
use Rattle.std.specs.Prelude.{ℕ, ◌<◌, ◌≤◌, ◌≡◌, List, [], ◌∷◌, ◌++◌, length, take, drop, slice_index, pos, ◌≤ℤ◌}
use Rattle.lucy_solve.specs.declared.diffs.Diff.{Diff}
use Rattle.lucy_solve.specs.System.{DifferenceSystem, diff_at, most_inequalities}
use Rattle.lucy_explain.specs.declared.line.Line.{Line}
use Rattle.lucy_need.specs.declared.need.Needs.{Needs}
use Rattle.lucy_shape.specs.declared.shape.Shape.{Shape}
use Rattle.lucy_explain.specs.declared.fold.Folded.{Folded}
use Rattle.lucy_explain.specs.Folds.{Fold}
use Rattle.lucy_explain.specs.Streams.{AreStreams, variable_streams}

-- the same circle, begun at another place
abbrev pub IsTurned : (cycle turned : List ℕ) → Type 0
IsTurned cycle turned = (start : ℕ) × (start ≤ length cycle) × (turned ≡ drop start cycle ++ take start cycle)

-- of several inequalities that a line stands for each is between variables of one stream
abbrev pub IsOfOneStream : (streams : List ℕ) → List Diff → (positions : List ℕ) → Line → Type 0
IsOfOneStream streams list positions line = 1 < line.count → (k : ℕ) → k < line.count →
    (slice_index streams (diff_at list (slice_index positions k)).left ≡ slice_index streams line.left)
    × (slice_index streams (diff_at list (slice_index positions k)).right ≡ slice_index streams line.left)

-- so are those of each line
abbrev pub AreOfOneStream : (streams : List ℕ) → List Diff → (positions : List ℕ) → List Line → Type 0
AreOfOneStream streams list positions [] = Unit {0}
AreOfOneStream streams list positions (line ∷ lines) = IsOfOneStream streams list positions line × AreOfOneStream streams list (drop line.count positions) lines

-- an inequality is told with a line before it: it begins where the line ends, neither of them goes back in time, and both are of one stream
pub record GoesOn (streams : List ℕ) (line : Line) (next : Diff) : Type 0 where
  pub joined : line.right ≡ next.left
  pub forward : line.most ≤ℤ pos 0
  pub next_forward : next.most ≤ℤ pos 0
  pub within : slice_index streams line.right ≡ slice_index streams line.left
  pub more : slice_index streams next.right ≡ slice_index streams line.left

-- the next inequality behind those that a line stands for is not told with it, unless it stands for as many as there may be
abbrev pub IsLongest : (streams : List ℕ) → List Diff → (positions : List ℕ) → Line → Type 0
IsLongest streams list positions line = line.count < length positions → line.count < most_inequalities → GoesOn streams line (diff_at list (slice_index positions line.count)) → ⊥

-- so it is of each line
abbrev pub AreLongest : (streams : List ℕ) → List Diff → (positions : List ℕ) → List Line → Type 0
AreLongest streams list positions [] = Unit {0}
AreLongest streams list positions (line ∷ lines) = IsLongest streams list positions line × AreLongest streams list (drop line.count positions) lines

-- the evidence of needs in a shape, folded: the cycle, begun at another place, and lines that stand for its inequalities, those of one stream
-- together; the origin has a number that is none of a clock
pub record IsFolded (needs : Needs) (shape : Shape) (diffs : DifferenceSystem) (cycle : List ℕ) (told : Folded) : Type 0 where
  pub streams : List ℕ
  pub are : AreStreams needs.list needs.clocks streams
  pub turned : IsTurned cycle told.cycle.items
  pub fold : Fold diffs.list told.cycle.items told.lines.items
  pub stream : AreOfOneStream (variable_streams needs.clocks streams shape.clocks) diffs.list told.cycle.items told.lines.items
  pub longest : AreLongest (variable_streams needs.clocks streams shape.clocks) diffs.list told.cycle.items told.lines.items
