-- How the play of an actor's firing ends.
use Rattle.std.specs.Prelude.{ℕ, ◌+◌, ◌≡◌, List, [], Option, Some, None, All, length, slice_index, drop}
use Rattle.lucy_net.specs.declared.net.Net.{Net}
use Rattle.lucy_net.specs.declared.settle.Wait.{Wait}
use Rattle.lucy_net.specs.Orders.{IsOrder}
use Rattle.lucy_net.specs.Instants.{slot}
use Rattle.lucy_net.specs.Play.{IsPlayedSoFar, CanBeginInstant}
use Rattle.lucy_net.specs.Waiting.{IsKnot}

-- the actor has done its firing, and none waits or is marked as one that does
pub record IsFiringOver (net : Net) (before first : ℕ) (steps depth : List ℕ) (waits : List Wait) : Type 0 where
  pub done : slice_index steps first ≡ length (slot net before first)
  pub depths : length depth ≡ length net.actors
  pub unmarked : (a : ℕ) → slice_index depth a ≡ 0
  pub none : waits ≡ []

-- it is over, or the actors that wait wait for each other from a place on; the events are a run in either case
abbrev pub IsFiringLeft : Net → ℕ → ℕ → List ℕ → List ℕ → List ℕ → List ℕ → List Wait → Option ℕ → Type 0
IsFiringLeft net before first events steps held depth waits None = IsPlayedSoFar net before events steps held × IsFiringOver net before first steps depth waits
IsFiringLeft net before first events steps held depth waits (Some place) = IsPlayedSoFar net before events steps held × IsKnot net before steps held (drop place waits)

-- all of these actors have done their firings, and none waits
pub record AreFiringsOver (net : Net) (before : ℕ) (firing steps depth : List ℕ) (waits : List Wait) : Type 0 where
  pub done : All (λ a. slice_index steps a ≡ length (slot net before a)) firing
  pub depths : length depth ≡ length net.actors
  pub unmarked : (a : ℕ) → slice_index depth a ≡ 0
  pub none : waits ≡ []

-- so of these actors: they are over, or those that wait wait for each other from a place on
abbrev pub AreFiringsLeft : Net → ℕ → List ℕ → List ℕ → List ℕ → List ℕ → List ℕ → List Wait → Option ℕ → Type 0
AreFiringsLeft net before firing events steps held depth waits None = IsPlayedSoFar net before events steps held × AreFiringsOver net before firing steps depth waits
AreFiringsLeft net before firing events steps held depth waits (Some place) = IsPlayedSoFar net before events steps held × IsKnot net before steps held (drop place waits)

-- the events are an order of the instant, after which the next one can begin; or actors wait for each other, from a place on
abbrev pub IsInstantLeft : Net → ℕ → List ℕ → List ℕ → List ℕ → List ℕ → List Wait → Option ℕ → Type 0
IsInstantLeft net before events steps held depth waits None = IsOrder net before events × CanBeginInstant net (before + 1) steps held depth × (waits ≡ [])
IsInstantLeft net before events steps held depth waits (Some place) = IsPlayedSoFar net before events steps held × IsKnot net before steps held (drop place waits)
