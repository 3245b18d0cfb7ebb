-- How the actors of each instant are gathered.
use Rattle.std.specs.Prelude.{ℕ, ◌+◌, ◌<◌, ◌≡◌, ◌&&◌, List, [], ◌∷◌, ◌++◌, length, nat_le, slice_index_or, if◌then◌else◌}
use Rattle.lucy_word.specs.Bits.{bit_at, ones_to}
use Rattle.lucy_net.specs.declared.net.Actor.{Actor}

-- the actor's first firings, so many of them, are entered under this number, at the end of the rows of their instants
pub record AreEntered (actor : Actor) (number firings : ℕ) (rows new : List (List ℕ)) : Type 0 where
  pub count : length new ≡ length rows
  pub each : (t : ℕ) → t < length rows → slice_index_or new t [] ≡ slice_index_or rows t [] ++ (if bit_at actor.firing (t + 1) && nat_le (ones_to actor.firing (t + 1)) firings then number ∷ [] else [])
