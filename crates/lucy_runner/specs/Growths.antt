-- What the two steps of a block more do to the parts: room for it, and then more to do.
use Rattle.std.specs.Prelude.{ℕ, ◌+◌, ◌-◌, ◌^◌, ◌<◌, ◌≤◌, ◌≡◌, List, [], ℤ, length, slice_get, slice_index_or, Some}
use Rattle.lucy_word.specs.Bits.{ones_to}
use Rattle.lucy_word.specs.Limits.{limit_number}
use Rattle.lucy_word.specs.declared.limit.Limit.TheVariants as limit
use Rattle.lucy_stream.specs.Items.{list_at}
use Rattle.lucy_net.specs.declared.kind.ActorKind.{ActorKind}
use Rattle.lucy_net.specs.declared.kind.ActorKind.TheVariants.{Input, Output}
use Rattle.lucy_worker.specs.declared.part.Part.{Part}
use Rattle.lucy_worker.specs.Growing.{HasSpared, HasSpare, IsExtended}
use Rattle.lucy_worker.specs.News.{HasItems}
use Rattle.lucy_worker.specs.Parts.{IsDone}

-- of the items that follow those of an input's actor, none for any other
abbrev pub added_for : ActorKind → List (List ℤ) → List ℤ
added_for (Input input) added = list_at added input
added_for kind added = []

-- an output puts out so many items more, all others none
abbrev pub room_for : ActorKind → ℕ → ℕ
room_for (Output output) firings = firings
room_for kind firings = 0

-- the part is done, its actor fires no less often in so many instants, and an input has with the items that follow one for each
-- firing
pub record MayGrow (added : List (List ℤ)) (instants : ℕ) (p : Part) : Type 0 where
  pub done : IsDone p
  pub more : p.state.quota ≤ ones_to p.actor.firing instants
  pub early : instants ≤ limit_number limit.Instants
  pub items : HasItems p.actor.kind (ones_to p.actor.firing instants) (length p.input.items + length (added_for p.actor.kind added))

-- there is room for the items that follow and for what the actor puts out in the new firings
abbrev pub HasSpace : List (List ℤ) → ℕ → Part → Type 0
HasSpace added instants p = HasSpare (length (added_for p.actor.kind added)) (room_for p.actor.kind (ones_to p.actor.firing instants - p.state.quota)) p

-- the same parts of a worker, perhaps with more room
pub record AreSpared (ps qs : List Part) : Type 0 where
  pub as_many : length qs ≡ length ps
  pub each : (k : ℕ) (d : Part) → k < length ps → HasSpared (slice_index_or ps k d) (slice_index_or qs k d)

-- the parts of a worker with more to do
pub record AreExtended (added : List (List ℤ)) (instants : ℕ) (ps qs : List Part) : Type 0 where
  pub as_many : length qs ≡ length ps
  pub each : (k : ℕ) (d : Part) → k < length ps → IsExtended (slice_index_or ps k d) (added_for (slice_index_or ps k d).actor.kind added) instants (slice_index_or qs k d)

-- each part of each worker has a property
abbrev pub OfEach : (Part → Type 0) → List (List Part) → Type 0
OfEach has crew = (s k : ℕ) (ps : List Part) (p : Part) → slice_get crew s ≡ Some ps → slice_get ps k ≡ Some p → has p

-- each worker has so few parts that their places are numbers of 32 bits
abbrev pub AreFew : List (List Part) → Type 0
AreFew crew = (s : ℕ) (ps : List Part) → slice_get crew s ≡ Some ps → length ps < 2 ^ 32

-- the same parts of all workers, perhaps with more room
pub record HaveSpared (crew spared : List (List Part)) : Type 0 where
  pub seats : length spared ≡ length crew
  pub each : (s : ℕ) (ps qs : List Part) → slice_get crew s ≡ Some ps → slice_get spared s ≡ Some qs → AreSpared ps qs

-- every part has more to do
pub record HaveGrown (crew grown : List (List Part)) (added : List (List ℤ)) (instants : ℕ) : Type 0 where
  pub seats : length grown ≡ length crew
  pub counts : (s : ℕ) (ps qs : List Part) → slice_get crew s ≡ Some ps → slice_get grown s ≡ Some qs → length qs ≡ length ps
  pub parts : (s k : ℕ) (ps qs : List Part) (p q : Part) → slice_get crew s ≡ Some ps → slice_get grown s ≡ Some qs →
      slice_get ps k ≡ Some p → slice_get qs k ≡ Some q → IsExtended p (added_for p.actor.kind added) instants q
