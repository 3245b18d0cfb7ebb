-- How many inequalities clocks and needs have.
use Rattle.std.proofs.Common.{◌≡◌, ℕ, ◌+◌, ◌-◌, ◌*◌, ◌<◌, Bool, true, false, cond, List, [], ◌∷◌, ◌++◌, length, pos, neg_ℤ, negsuc, ap, ◌∙◌, arith, length-append}
use Rattle.std.proofs.lemmas.List.FromFn.{length-map-range_with_len}
use Rattle.lucy_need.specs.declared.need.Term.{Term}
use Rattle.lucy_need.specs.declared.need.Need.TheVariants.{Equal, Adapt}
use Rattle.lucy_solve.specs.declared.diffs.Diff.{Diff}
use Rattle.lucy_shape.specs.declared.shape.ClockShape.{ClockShape}
use Rattle.lucy_shape.specs.Fitting.{variable_of}
use Rattle.lucy_shape.specs.Inequalities.{bound_rows, base_rows, neighbour_rows, period_row, clock_rows, instances, instance_row, need_rows}
use Rattle.lucy_shape.proofs.Adding.{length_pairs}

-- an equation has two for each instance, an adaptability one
pub equal_count : (P : ℕ) (clocks : List ClockShape) (s t : Term) → length (need_rows P clocks (Equal s t)) ≡ 2 * instances clocks s t
equal_count P clocks s t = length_pairs (λ k. instance_row P clocks s t k) (λ k. instance_row P clocks t s k) 1 (instances clocks s t)

pub adapt_count : (P : ℕ) (clocks : List ClockShape) (s t : Term) → length (need_rows P clocks (Adapt s t)) ≡ instances clocks s t
adapt_count P clocks s t = length-map-range_with_len (λ k. instance_row P clocks s t k) 1 (instances clocks s t)

-- a clock with positions has one or two for the bounds of each, and one for what comes after it
front_count : (is_base : Bool) (c : ClockShape) → length (cond is_base (base_rows c) (bound_rows c)) ≡ cond is_base 2 1 * (c.lead + c.ones)
front_count true c = length_pairs (λ m. record { left = 0; right = variable_of c m; most = neg_ℤ (pos m) }) (λ m. record { left = variable_of c m; right = 0; most = pos m }) 1 (c.lead + c.ones)
front_count false c =
    let e : length (bound_rows c) ≡ c.lead + c.ones = length-map-range_with_len (λ m. record { left = 0; right = variable_of c m; most = negsuc 0 }) 1 (c.lead + c.ones) in
    e ∙ omega arith

pub used_count : (P : ℕ) (is_base : Bool) (c : ClockShape) → c.used ≡ true → 0 < c.ones → length (clock_rows P is_base c) ≡ cond is_base 3 2 * (c.lead + c.ones)
used_count P is_base c used some =
    let front : List Diff = cond is_base (base_rows c) (bound_rows c) in
    let rest : List Diff = neighbour_rows c ++ period_row P c ∷ [] in
    let open' : length (clock_rows P is_base c) ≡ length (front ++ rest) = ap (λ b. length (cond b (front ++ rest) [])) used in
    let a = length-append front rest in
    let b = length-append (neighbour_rows c) (period_row P c ∷ []) in
    let d : length (neighbour_rows c) ≡ c.lead + c.ones - 1 = length-map-range_with_len (λ m. record { left = variable_of c m; right = variable_of c (m + 1); most = negsuc 0 }) 1 (c.lead + c.ones - 1) in
    let e = front_count is_base c in
    let f : cond is_base 2 1 * (c.lead + c.ones) + (c.lead + c.ones) ≡ cond is_base 3 2 * (c.lead + c.ones) = times is_base (c.lead + c.ones) in
    open' ∙ omega arith
  where
    times : (b : Bool) (n : ℕ) → cond b 2 1 * n + n ≡ cond b 3 2 * n
    times true n = omega arith
    times false n = omega arith
