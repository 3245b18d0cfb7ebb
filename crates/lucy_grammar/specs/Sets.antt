-- Finite sets of numbers, as lists that compute.
use Rattle.std.specs.Prelude.{ℕ, Bool, true, false, List, [], ◌∷◌, ◌==◌, ◌&&◌, ◌||◌, not}

-- the number stands in the list
abbrev pub within : ℕ → List ℕ → Bool
within k [] = false
within k (x ∷ xs) = (x == k) || within k xs

-- each number of the first list stands in the second
abbrev pub subset : List ℕ → List ℕ → Bool
subset [] ys = true
subset (x ∷ xs) ys = within x ys && subset xs ys

-- no number stands in both
abbrev pub apart : List ℕ → List ℕ → Bool
apart [] ys = true
apart (x ∷ xs) ys = not (within x ys) && apart xs ys
