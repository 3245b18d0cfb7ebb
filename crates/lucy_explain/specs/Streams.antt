-- Which clocks are one stream's, and to which streams the variables of inequalities belong.
use Rattle.std.specs.Prelude.{ℕ, ◌+◌, ◌<◌, ◌≡◌, ◌⊎◌, List, [], ◌∷◌, ◌++◌, Some, length, replicate, slice_index, slice_get}
use Rattle.lucy_need.specs.Meeting.{alone}
use Rattle.lucy_need.specs.declared.need.Need.{Need}
use Rattle.lucy_need.specs.declared.need.Need.TheVariants.{Equal}
use Rattle.lucy_shape.specs.declared.shape.ClockShape.{ClockShape}
use Rattle.lucy_shape.specs.Fitting.{position_count}

-- the need says that the two clocks are equal, one way round or the other
abbrev pub Ties : Need → ℕ → ℕ → Type 0
Ties need c d = (need ≡ Equal (alone c) (alone d)) ⊎ (need ≡ Equal (alone d) (alone c))

-- one of the needs does
abbrev pub AreTied : List Need → ℕ → ℕ → Type 0
AreTied needs c d = (k : ℕ) × (need : Need) × (slice_get needs k ≡ Some need) × Ties need c d

-- these clocks, the last of which is d, lead on from c, each tied to the next one
abbrev pub IsPath : List Need → (c : ℕ) → List ℕ → (d : ℕ) → Type 0
IsPath needs c [] d = c ≡ d
IsPath needs c (e ∷ path) d = AreTied needs c e × IsPath needs e path d

-- the clocks are one stream's: such a path leads from one to the other
abbrev pub AreOne : List Need → ℕ → ℕ → Type 0
AreOne needs c d = (path : List ℕ) × IsPath needs c path d

-- a number for each clock, that of a clock with which it is one; clocks that are tied have the same
pub record AreStreams (needs : List Need) (clocks : ℕ) (streams : List ℕ) : Type 0 where
  pub all : length streams ≡ clocks
  pub each : (c : ℕ) → c < clocks → AreOne needs c (slice_index streams c)
  pub tied : (c d : ℕ) → c < clocks → d < clocks → AreTied needs c d → slice_index streams c ≡ slice_index streams d

-- for each position of the clocks from a number on the stream of the clock
abbrev pub position_streams : (streams : List ℕ) → ℕ → List ClockShape → List ℕ
position_streams streams clock [] = []
position_streams streams clock (c ∷ cs) = replicate (position_count c) (slice_index streams clock) ++ position_streams streams (clock + 1) cs

-- the streams of variables by their numbers: this one for the origin, and then those of the positions of the clocks
abbrev pub variable_streams : (origin : ℕ) → (streams : List ℕ) → List ClockShape → List ℕ
variable_streams origin streams clocks = origin ∷ position_streams streams 0 clocks
