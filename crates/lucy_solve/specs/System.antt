-- Inequalities `left <= right + most` between variables that are counted from 0. Variable 0 is the origin, whose value is 0.
use Rattle.std.specs.Prelude.{◌≡◌, ℕ, ◌+◌, ◌<◌, ◌≤◌, ◌^◌, ℤ, pos, neg_ℤ, ◌+ℤ◌, ◌≤ℤ◌, ◌<ℤ◌, List, length, slice_index, slice_index_or}
use Rattle.std.specs.List.{All, fold}
use Rattle.lucy_word.specs.Limits.{limit_number}
use Rattle.lucy_word.specs.declared.limit.Limit.TheVariants as limit
use Rattle.lucy_solve.specs.declared.diffs.Diff.{Diff}

-- so many inequalities a system may have, and so many positions a cycle, by which the sum of its constants has 64 bits
abbrev pub most_inequalities : ℕ
most_inequalities = limit_number limit.Inequalities

-- how far from 0 a constant may be
abbrev pub most_constant : ℕ
most_constant = 2 ^ 40

-- how many variables there are, and the inequalities between them
pub record DifferenceSystem : Type 0 where
  pub count : ℕ
  pub list : List Diff

-- what stands past the end of a list
abbrev pub no_diff : Diff
no_diff = record { left = 0; right = 0; most = pos 0 }

-- the inequality at a position, counted from 0
abbrev pub diff_at : List Diff → ℕ → Diff
diff_at list i = slice_index_or list i no_diff

-- an inequality between two of the variables, with a constant that isn't too far from 0
pub record IsProper (count : ℕ) (diff : Diff) : Type 0 where
  pub left : diff.left < count
  pub right : diff.right < count
  pub low : neg_ℤ (pos most_constant) ≤ℤ diff.most
  pub high : diff.most ≤ℤ pos most_constant

-- each inequality is proper
abbrev pub IsSystem : DifferenceSystem → Type 0
IsSystem s = All (IsProper s.count) s.list

-- the value of a variable
abbrev pub value : List ℤ → ℕ → ℤ
value values v = slice_index_or values v (pos 0)

-- one value for each variable, 0 for the origin, which meet each inequality
pub record Solves (s : DifferenceSystem) (values : List ℤ) : Type 0 where
  pub size : length values ≡ s.count
  pub origin : value values 0 ≡ pos 0
  pub each : (i : ℕ) → i < length s.list → value values (diff_at s.list i).left ≤ℤ (value values (diff_at s.list i).right +ℤ (diff_at s.list i).most)

-- no values solve the system
abbrev pub HasNoSolution : DifferenceSystem → Type 0
HasNoSolution s = (values : List ℤ) → Solves s values → ⊥

-- the solution that no other goes below at any variable
pub record IsEarliest (s : DifferenceSystem) (values : List ℤ) : Type 0 where
  pub solves : Solves s values
  pub least : (others : List ℤ) → Solves s others → (v : ℕ) → value values v ≤ℤ value others v

-- the sum of the constants of the inequalities at some positions
abbrev pub constants : List Diff → List ℕ → ℤ
constants list cycle = fold (λ sum i. sum +ℤ (diff_at list i).most) (pos 0) cycle

-- positions of inequalities that follow one another in a circle, by right and left variable, with constants that sum below 0
pub record IsNegativeCycle (list : List Diff) (cycle : List ℕ) : Type 0 where
  pub some : 0 < length cycle
  pub few : length cycle ≤ most_inequalities
  pub within : (k : ℕ) → k < length cycle → slice_index cycle k < length list
  pub joined : (k : ℕ) → k + 1 < length cycle → (diff_at list (slice_index cycle k)).right ≡ (diff_at list (slice_index cycle (k + 1))).left
  pub closed : (k : ℕ) → k + 1 ≡ length cycle → (diff_at list (slice_index cycle k)).right ≡ (diff_at list (slice_index cycle 0)).left
  pub negative : constants list cycle <ℤ pos 0

-- the inequality `0 <= v + most` with a constant of at most 0, by which v has no value below 0
pub record IsBase (v : ℕ) (diff : Diff) : Type 0 where
  pub left : diff.left ≡ 0
  pub right : diff.right ≡ v
  pub most : diff.most ≤ℤ pos 0

-- no more inequalities than the limit, a base of each variable but the origin among them
pub record IsGrounded (s : DifferenceSystem) : Type 0 where
  pub few : length s.list ≤ most_inequalities
  pub based : (v : ℕ) → 0 < v → v < s.count → (i : ℕ) × (i < length s.list) × IsBase v (diff_at s.list i)
