-- Fronts of lists: what a list began with, before it grew.
use Rattle.std.specs.Prelude.{ℕ, ◌≡◌, List, [], ◌∷◌, ℤ}
use Rattle.lucy_stream.specs.Items.{list_at}

-- the second list goes on where the first one ends
abbrev pub IsFront : List ℤ → List ℤ → Type 0
IsFront [] ys = Unit {0}
IsFront (x ∷ xs) [] = ⊥
IsFront (x ∷ xs) (y ∷ ys) = (x ≡ y) × IsFront xs ys

-- each list of the first is a front of the one with its number in the second
abbrev pub AreFronts : List (List ℤ) → List (List ℤ) → Type 0
AreFronts lists longer = (i : ℕ) → IsFront (list_at lists i) (list_at longer i)
