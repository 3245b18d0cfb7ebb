-- How places are told one after another.
use Rattle.std.specs.Prelude.{ℕ, ◌≡◌, ◌⊎◌, List, Option, Some}
use Rattle.lucy_place.specs.Standing.{at_one}

-- what is told now was told before, or it is this place by this stream
abbrev pub Tells : (old new : List (Option ℕ)) (place stream : ℕ) → Type 0
Tells old new place stream = (p s : ℕ) → at_one new p ≡ Some (Some s) → (at_one old p ≡ Some (Some s)) ⊎ ((p ≡ place) × (s ≡ stream))
