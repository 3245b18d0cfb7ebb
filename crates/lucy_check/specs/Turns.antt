-- How two words come again past the longer prefix, and which instants the periods bring together.
use Rattle.std.specs.Prelude.{ℕ, ◌+◌, ◌-◌, ◌*◌, ◌%◌, ◌<◌, ◌≤◌, ◌≡◌, ◌⊎◌, max, length}
use Rattle.std.specs.Int.{IsGcd}
use Rattle.lucy_word.specs.Bits.{Bits, ones_to, ones_in, most_bits}
use Rattle.lucy_check.specs.declared.turns.Turns.{Turns}

-- a turn is whole periods of a, and its prefix is over at the start
pub record IsTurn (a : Bits) (t : Turns) : Type 0 where
  pub start : length a.prefix ≤ t.start
  pub periods : ℕ
  pub turn : t.turn ≡ periods * length a.period
  pub gain : t.gain ≡ periods * ones_in a.period

-- the start is the length of the longer prefix, and a step is the period of b
pub record AreTurns (a b : Bits) (t : Turns) : Type 0 where
  pub start : t.start ≡ max (length a.prefix) (length b.prefix)
  pub turn : IsTurn a t
  pub step : t.step ≡ length b.period
  pub cost : t.cost ≡ ones_in b.period

-- a step is no longer than a turn; a round of steps ends where a turn ends; the classes are the greatest common divisor
pub record AreRounds (t : Turns) : Type 0 where
  pub some : 0 < t.step
  pub longer : t.step ≤ t.turn
  pub rounds : 0 < t.rounds
  pub together : (turns : ℕ) × (t.rounds * t.step ≡ turns * t.turn)
  pub classes : IsGcd t.turn t.step t.classes

-- the numbers are no greater than those of words
pub record AreShort (t : Turns) : Type 0 where
  pub start : t.start ≤ most_bits
  pub step : t.step ≤ most_bits
  pub turn : t.turn ≤ 2 * most_bits
  pub gain : t.gain ≤ t.turn
  pub rounds : t.rounds ≤ t.turn

-- an instant past the longer prefix, in the class of those that agree modulo the divisor
abbrev pub InClass : Turns → ℕ → ℕ → Type 0
InClass t class i = (t.start ≤ i) × ((i - t.start) % t.classes ≡ class)

-- the greatest count of a at a place and at more places, each a step further, less the cost of the steps to it
pub record IsBest (a : Bits) (t : Turns) (place best steps : ℕ) : Type 0 where
  pub reached : (m : ℕ) × (m < steps) × (ones_to a (t.start + place + m * t.step) ≡ best + m * t.cost)
  pub passed : (m : ℕ) → m < steps → ones_to a (t.start + place + m * t.step) ≤ best + m * t.cost

-- by so much the best at a place is above the count of b there; 0 where it is not, or the place is no place of the period of b
pub record IsLeadFrom (b : Bits) (t : Turns) (place best lead : ℕ) : Type 0 where
  pub reached : (lead ≡ 0) ⊎ ((place < t.step) × (best ≡ ones_to b (t.start + place) + lead))
  pub passed : place < t.step → best ≤ ones_to b (t.start + place) + lead
