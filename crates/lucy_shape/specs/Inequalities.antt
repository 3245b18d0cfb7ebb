-- The inequalities `left <= right + most` of a shape and of needs, in order.
use Rattle.std.specs.Prelude.{ℕ, ◌+◌, ◌-◌, ◌==◌, max, Bool, if◌then◌else◌, List, [], ◌∷◌, ◌++◌, map, length, ℤ, pos, negsuc, neg_ℤ, ◌-ℤ◌}
use Rattle.std.specs.List.{range_with_len, flat_map}
use Rattle.lucy_word.specs.Bits.{Bits, ones_to}
use Rattle.lucy_need.specs.declared.need.Term.{Term}
use Rattle.lucy_need.specs.declared.need.Need.{Need}
use Rattle.lucy_need.specs.declared.need.Need.TheVariants.{Equal, Adapt}
use Rattle.lucy_need.specs.declared.need.Needs.{Needs}
use Rattle.lucy_solve.specs.declared.diffs.Diff.{Diff}
use Rattle.lucy_solve.specs.System.{DifferenceSystem, Solves}
use Rattle.lucy_shape.specs.declared.shape.ClockShape.{ClockShape}
use Rattle.lucy_shape.specs.declared.shape.Shape.{Shape}
use Rattle.lucy_shape.specs.Index.{index_of}
use Rattle.lucy_shape.specs.Fitting.{clock_at, variable_of, variable_count, turn_instances}
use Rattle.lucy_shape.specs.Rows.{row}

-- each position stands at instant 1 or later
abbrev pub bound_rows : ClockShape → List Diff
bound_rows c = map (λ m. record { left = 0; right = variable_of c m; most = negsuc 0 }) (range_with_len 1 (c.lead + c.ones))

-- each position of the base stands at its own instant
abbrev pub base_rows : ClockShape → List Diff
base_rows c = flat_map (λ m. record { left = 0; right = variable_of c m; most = neg_ℤ (pos m) } ∷ record { left = variable_of c m; right = 0; most = pos m } ∷ [])
    (range_with_len 1 (c.lead + c.ones))

-- each position stands before the next
abbrev pub neighbour_rows : ClockShape → List Diff
neighbour_rows c = map (λ m. record { left = variable_of c m; right = variable_of c (m + 1); most = negsuc 0 }) (range_with_len 1 (c.lead + c.ones - 1))

-- the last stands before that which comes a period after the first past the lead
abbrev pub period_row : ℕ → ClockShape → Diff
period_row P c = record { left = variable_of c (c.lead + c.ones); right = variable_of c (c.lead + 1); most = pos P -ℤ pos 1 }

-- bounds, neighbours and period of a clock
abbrev pub clock_rows : ℕ → Bool → ClockShape → List Diff
clock_rows P is_base c = if c.used then (if is_base then base_rows c else bound_rows c) ++ (neighbour_rows c ++ period_row P c ∷ []) else []

-- and of all clocks in turn
abbrev pub shape_rows : Shape → List Diff
shape_rows shape = flat_map (λ c. clock_rows shape.period (c == 0) (clock_at shape.clocks c)) (range_with_len 0 (length shape.clocks))

-- how many ones a term has until its clock and its word come again
abbrev pub lead_instances : ℕ → Bits → ℕ
lead_instances lead word = ones_to word (max lead (length word.prefix))

-- how many instances of a need there are: until both terms come again, and then one period
abbrev pub instances : List ClockShape → Term → Term → ℕ
instances clocks s t = max (lead_instances (clock_at clocks s.clock).lead s.word) (lead_instances (clock_at clocks t.clock).lead t.word) + turn_instances clocks s

-- the k-th one of the first term stands no later than that of the second
abbrev pub instance_row : ℕ → List ClockShape → Term → Term → ℕ → Diff
instance_row P clocks s t k = row P (clock_at clocks s.clock) (index_of s.word k) (clock_at clocks t.clock) (index_of t.word k)

-- the instances of a need, and of `Equal` both ways
abbrev pub need_rows : ℕ → List ClockShape → Need → List Diff
need_rows P clocks (Equal s t) = flat_map (λ k. instance_row P clocks s t k ∷ instance_row P clocks t s k ∷ []) (range_with_len 1 (instances clocks s t))
need_rows P clocks (Adapt s t) = map (λ k. instance_row P clocks s t k) (range_with_len 1 (instances clocks s t))

-- the whole table: the clocks in turn, and then the needs in order
abbrev pub inequalities : Needs → Shape → List Diff
inequalities needs shape = shape_rows shape ++ flat_map (need_rows shape.period shape.clocks) needs.list

-- the table between the variables
abbrev pub system_of : Needs → Shape → DifferenceSystem
system_of needs shape = record { count = variable_count shape.clocks; list = inequalities needs shape }

-- the numbers meet bounds, neighbours and periods
abbrev pub SolvesShape : Shape → List ℤ → Type 0
SolvesShape shape xs = Solves (record { count = variable_count shape.clocks; list = shape_rows shape }) xs
