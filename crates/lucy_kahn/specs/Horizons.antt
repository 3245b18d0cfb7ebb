-- How many instants the items of the inputs allow.
use Rattle.std.specs.Prelude.{ℕ, ◌≤◌, ◌≡◌, List, ℤ, length, slice_get, Some}
use Rattle.lucy_word.specs.Bits.{Bits, ones_to}
use Rattle.lucy_stream.specs.Items.{list_at}

-- the inputs have the items of so many instants: those of each parameter, whose clock is the word of its number
abbrev pub Suffice : List Bits → List (List ℤ) → ℕ → Type 0
Suffice words inputs instants = (i : ℕ) (word : Bits) → slice_get words i ≡ Some word → ones_to word instants ≤ length (list_at inputs i)

-- the horizon: the greatest number of instants, up to the most, that the items of the inputs allow
pub record IsHorizon (words : List Bits) (inputs : List (List ℤ)) (most horizon : ℕ) : Type 0 where
  pub within : horizon ≤ most
  pub suffice : Suffice words inputs horizon
  pub greatest : (instants : ℕ) → instants ≤ most → Suffice words inputs instants → instants ≤ horizon
