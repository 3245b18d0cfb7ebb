-- The texts of what shows that no clocks are inferred for a node: a walk along its needs, and a cycle of inequalities between
-- the positions of its clocks.
use Rattle.std.specs.Prelude.{ℕ, suc, ◌+◌, ℤ, pos, negsuc, List, [], ◌∷◌, ◌++◌, map, flat_map, slice_get, codes}
use Rattle.std.specs.List.{range_with_len}
use Rattle.std.specs.Option.{unwrap_or}
use Rattle.std.specs.Fmt.{decimal}
use Rattle.lucy_place.specs.declared.placed.PlacedNode.{PlacedNode}
use Rattle.lucy_need.specs.declared.need.Need.{Need}
use Rattle.lucy_solve.specs.declared.diffs.Diff.{Diff}
use Rattle.lucy_shape.specs.declared.shape.ClockShape.{ClockShape}
use Rattle.lucy_shape.specs.Fitting.{position_count}
use Rattle.lucy_program.specs.Names.{of_one}
use Rattle.lucy_front.specs.Needs.{clock_name, need_text}

-- the needs of these numbers, each on a line of its own behind two blanks
abbrev pub walk_lines : PlacedNode → List Need → List ℕ → List ℕ
walk_lines n needs walk = flat_map (λ k. of_one (λ need. codes "  " ++ (need_text n need ++ codes "\n")) (slice_get needs k)) walk

-- the positions of the clocks from a number on, clock by clock, each from 1 on
abbrev pub position_names : PlacedNode → ℕ → List ClockShape → List (List ℕ)
position_names n clock [] = []
position_names n clock (c ∷ cs) =
    map (λ m. clock_name n clock ++ (codes "[" ++ (decimal m ++ codes "]"))) (range_with_len 1 (position_count c)) ++ position_names n (clock + 1) cs

-- the variables of inequalities, by their numbers: first the origin, and then the positions of the clocks
abbrev pub variable_names : PlacedNode → List ClockShape → List (List ℕ)
variable_names n clocks = codes "0" ∷ position_names n 0 clocks

-- a constant behind a variable
abbrev pub most_text : ℤ → List ℕ
most_text (pos k) = codes " + " ++ decimal k
most_text (negsuc k) = codes " - " ++ decimal (suc k)

-- an inequality, as left <= right + most, on a line of its own behind two blanks
abbrev pub diff_line : List (List ℕ) → Diff → List ℕ
diff_line names d =
    let named : ℕ → List ℕ = λ v. unwrap_or (slice_get names v) [] in
    codes "  " ++ (named d.left ++ (codes " <= " ++ (named d.right ++ (most_text d.most ++ codes "\n"))))

-- the inequalities of these numbers, line by line
abbrev pub cycle_lines : List (List ℕ) → List Diff → List ℕ → List ℕ
cycle_lines names diffs cycle = flat_map (λ k. of_one (diff_line names) (slice_get diffs k)) cycle
