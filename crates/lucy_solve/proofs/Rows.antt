-- The definitions on small systems.
use Rattle.std.proofs.Common.{ℕ, zero, suc, ◌≡◌, ◌+◌, ◌<◌, ℤ, pos, negsuc, ◌+ℤ◌, ◌≤ℤ◌, List, [], ◌∷◌, length, get_or, refl, arith}
use Rattle.std.proofs.lemmas.Int.{ints}
use Rattle.std.proofs.lemmas.List.{get_or_past}
use Rattle.lucy_solve.specs.declared.diffs.Diff.{Diff}
use Rattle.lucy_solve.specs.System.{DifferenceSystem, diff_at, value, Solves, IsEarliest, IsNegativeCycle}

-- 0 <= x - 1, 0 <= y + 0, x <= y - 1
two_steps : DifferenceSystem
two_steps = record { count = 3; list = record { left = 0; right = 1; most = negsuc 0 } ∷ record { left = 0; right = 2; most = pos 0 } ∷ record { left = 1; right = 2; most = negsuc 0 } ∷ [] }

values : List ℤ
values = pos 0 ∷ pos 1 ∷ pos 2 ∷ []

values_meet : (i : ℕ) → i < length two_steps.list → value values (diff_at two_steps.list i).left ≤ℤ (value values (diff_at two_steps.list i).right +ℤ (diff_at two_steps.list i).most)
unfolding two_steps values
values_meet zero h = omega (arith, ints)
values_meet (suc zero) h = omega (arith, ints)
values_meet (suc (suc zero)) h = omega (arith, ints)
values_meet (suc (suc (suc i))) h = absurd (omega arith)

values_are_least : (others : List ℤ) → Solves two_steps others → (v : ℕ) → value values v ≤ℤ value others v
unfolding two_steps values
values_are_least others h zero = let a = h.origin in omega (arith, ints)
values_are_least others h (suc zero) = let a = h.origin in let b = h.each 0 (omega arith) in omega (arith, ints)
values_are_least others h (suc (suc zero)) = let a = h.origin in let b = h.each 0 (omega arith) in let c = h.each 2 (omega arith) in omega (arith, ints)
values_are_least others h (suc (suc (suc v))) =
    let e : value others (suc (suc (suc v))) ≡ pos 0 = get_or_past others (suc (suc (suc v))) (pos 0) (let a = h.size in omega arith) in
    omega (arith, ints)

values_are_earliest : IsEarliest two_steps values
unfolding two_steps values
values_are_earliest = record {
  solves = record { size = refl; origin = refl; each = values_meet };
  least = values_are_least;
}

-- x <= y - 1, y <= x + 0
circle : List Diff
circle = record { left = 1; right = 2; most = negsuc 0 } ∷ record { left = 2; right = 1; most = pos 0 } ∷ []

positions : List ℕ
positions = 0 ∷ 1 ∷ []

stays_within : (k : ℕ) → k < length positions → get_or positions k 0 < length circle
unfolding circle positions
stays_within zero h = omega arith
stays_within (suc zero) h = omega arith
stays_within (suc (suc k)) h = absurd (omega arith)

is_joined : (k : ℕ) → k + 1 < length positions → (diff_at circle (get_or positions k 0)).right ≡ (diff_at circle (get_or positions (k + 1) 0)).left
unfolding circle positions
is_joined zero h = refl
is_joined (suc k) h = absurd (omega arith)

is_closed : (k : ℕ) → k + 1 ≡ length positions → (diff_at circle (get_or positions k 0)).right ≡ (diff_at circle (get_or positions 0 0)).left
unfolding circle positions
is_closed zero h = absurd (omega arith)
is_closed (suc zero) h = refl
is_closed (suc (suc k)) h = absurd (omega arith)

circle_is_negative : IsNegativeCycle circle positions
unfolding circle positions
circle_is_negative = record {
  some = omega arith;
  few = omega arith;
  within = stays_within;
  joined = is_joined;
  closed = is_closed;
  negative = omega (arith, ints);
}
