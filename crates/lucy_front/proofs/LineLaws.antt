-- The lines of what shows that no clocks are inferred, one step on.
use Rattle.std.proofs.Common.{ℕ, zero, suc, ◌+◌, ◌<◌, ◌≡◌, List, [], ◌∷◌, ◌++◌, map, length, drop, get_or, Some, refl, ap, sym, ◌∙◌, arith, append_assoc}
use Rattle.std.specs.Prelude.{slice_get, sum_by, flat_map, codes}
use Rattle.std.specs.List.{range_with_len}
use Rattle.std.specs.Option.{unwrap_or}
use Rattle.std.specs.Fmt.{decimal}
use Rattle.std.proofs.lemmas.List.{drop_more, length-append}
use Rattle.std.proofs.lemmas.List.FromFn.{length-map-range_with_len}
use Rattle.std.proofs.lemmas.List.Sums.{sum_by-cons}
use Rattle.lucy_word.proofs.Lists.{six}
use Rattle.lucy_place.specs.declared.placed.PlacedNode.{PlacedNode}
use Rattle.lucy_need.specs.declared.need.Need.{Need}
use Rattle.lucy_solve.specs.declared.diffs.Diff.{Diff}
use Rattle.lucy_shape.specs.declared.shape.ClockShape.{ClockShape}
use Rattle.lucy_shape.specs.Fitting.{unused, clock_at, position_count, variable_count}
use Rattle.lucy_program.specs.Names.{of_one}
use Rattle.lucy_front.specs.Needs.{clock_name, need_text}
use Rattle.lucy_front.specs.Evidence.{walk_lines, position_names, variable_names, diff_line, cycle_lines}
use Rattle.lucy_front.specs.Refusals.{AreBelow}
use Rattle.lucy_program.proofs.ReportLaws.{line_more}

-- places, each on a line of its own behind two blanks
abbrev pub place_lines : List (List ℕ) → List ℕ
place_lines names = flat_map (λ name. codes "  " ++ (name ++ codes "\n")) names

-- a position of a clock
abbrev pub position_name : List ℕ → ℕ → List ℕ
position_name clock m = clock ++ (codes "[" ++ (decimal m ++ codes "]"))

-- six parts, one put behind the other
pub six_new : (s t u v w x a b c d e f g : List ℕ) → a ≡ [] → b ≡ a ++ s → c ≡ b ++ t → d ≡ c ++ u → e ≡ d ++ v → f ≡ e ++ w → g ≡ f ++ x → g ≡ s ++ (t ++ (u ++ (v ++ (w ++ x))))
six_new s t u v w x a b c d e f g none h i j k l m = six a b c d e f g s t u v w x h i j k l m ∙ ap (λ y. y ++ (s ++ (t ++ (u ++ (v ++ (w ++ x)))))) none

-- a number of a list
pub below_at : (count : ℕ) (xs : List ℕ) (i : ℕ) → AreBelow count xs → i < length xs → get_or xs i 0 < count
below_at count [] i all l = absurd (omega (arith, l))
below_at count (x ∷ xs) zero all l = all.0
below_at count (x ∷ xs) (suc i) all l = below_at count xs i all.1 (omega (arith, l))

-- one more need
pub walk_more : (n : PlacedNode) (needs : List Need) (walk : List ℕ) (i : ℕ) (need : Need) (a b all : List ℕ) → i < length walk → slice_get needs (get_or walk i 0) ≡ Some need →
    b ≡ a ++ (codes "  " ++ (need_text n need ++ codes "\n")) → a ++ walk_lines n needs (drop i walk) ≡ all → b ++ walk_lines n needs (drop (i + 1) walk) ≡ all
walk_more n needs walk i need a b all h at more before =
    let line : Need → List ℕ = λ x. codes "  " ++ (need_text n x ++ codes "\n") in
    let rest : List ℕ = walk_lines n needs (drop (i + 1) walk) in
    let step : walk_lines n needs (drop i walk) ≡ line need ++ rest = ap (walk_lines n needs) (drop_more walk i 0 h) ∙ ap (λ o. of_one line o ++ rest) at in
    line_more a b (line need) rest all more (ap (λ u. a ++ u) (sym step) ∙ before)

-- one more inequality
pub cycle_more : (names : List (List ℕ)) (diffs : List Diff) (cycle : List ℕ) (i : ℕ) (d : Diff) (a b all : List ℕ) → i < length cycle → slice_get diffs (get_or cycle i 0) ≡ Some d →
    b ≡ a ++ diff_line names d → a ++ cycle_lines names diffs (drop i cycle) ≡ all → b ++ cycle_lines names diffs (drop (i + 1) cycle) ≡ all
cycle_more names diffs cycle i d a b all h at more before =
    let rest : List ℕ = cycle_lines names diffs (drop (i + 1) cycle) in
    let step : cycle_lines names diffs (drop i cycle) ≡ diff_line names d ++ rest = ap (cycle_lines names diffs) (drop_more cycle i 0 h) ∙ ap (λ o. of_one (diff_line names) o ++ rest) at in
    line_more a b (diff_line names d) rest all more (ap (λ u. a ++ u) (sym step) ∙ before)

-- the positions of one more clock
pub positions_more : (n : PlacedNode) (clocks : List ClockShape) (i : ℕ) (a b all : List (List ℕ)) → i < length clocks →
    b ≡ a ++ map (position_name (clock_name n i)) (range_with_len 1 (position_count (clock_at clocks i))) → a ++ position_names n i (drop i clocks) ≡ all → b ++ position_names n (i + 1) (drop (i + 1) clocks) ≡ all
positions_more n clocks i a b all h more before =
    let own : List (List ℕ) = map (position_name (clock_name n i)) (range_with_len 1 (position_count (clock_at clocks i))) in
    let rest : List (List ℕ) = position_names n (i + 1) (drop (i + 1) clocks) in
    let step : position_names n i (drop i clocks) ≡ own ++ rest = ap (position_names n i) (drop_more clocks i unused h) in
    ap (λ x. x ++ rest) more ∙ append_assoc a own rest ∙ ap (λ x. a ++ x) (sym step) ∙ before

-- a name of a variable
pub named_is : (names : List (List ℕ)) (v : ℕ) (name : List ℕ) → slice_get names v ≡ Some name → unwrap_or (slice_get names v) [] ≡ name
named_is names v name at = ap (λ o. unwrap_or o []) at

-- there is one for each variable
positions_count : (n : PlacedNode) (clock : ℕ) (clocks : List ClockShape) → length (position_names n clock clocks) ≡ sum_by position_count clocks
positions_count n clock [] = refl
positions_count n clock (c ∷ cs) =
    length-append (map (position_name (clock_name n clock)) (range_with_len 1 (position_count c))) (position_names n (clock + 1) cs)
    ∙ ap (λ k. k + length (position_names n (clock + 1) cs)) (length-map-range_with_len (position_name (clock_name n clock)) 1 (position_count c))
    ∙ ap (λ k. position_count c + k) (positions_count n (clock + 1) cs) ∙ sym (sum_by-cons position_count c cs)

pub names_count : (n : PlacedNode) (clocks : List ClockShape) → length (variable_names n clocks) ≡ variable_count clocks
names_count n clocks = let count = positions_count n 0 clocks in omega arith
