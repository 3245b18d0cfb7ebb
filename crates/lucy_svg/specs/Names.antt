-- By which stream a place of a node is told. Places count from 1.
use Rattle.std.specs.Prelude.{ℕ, ◌≡◌, ◌⊎◌, List, Option, Some}
use Rattle.std.specs.Option.{option_and_then, unwrap_or}
use Rattle.lucy_place.specs.declared.entry.PlaceKind.TheVariants.{Defined}
use Rattle.lucy_place.specs.declared.placed.PlacedNode.{PlacedNode}
use Rattle.lucy_place.specs.Standing.{at_one, IsNamed, Stands}

-- the stream has a name, and it stands at the place or is defined as what stands there
pub record IsToldBy (n : PlacedNode) (place stream : ℕ) : Type 0 where
  pub named : IsNamed n stream
  pub same : (stream ≡ place) ⊎ Stands n stream (Defined place)

-- the streams by which the places of a node are told, in order, where there are some
abbrev pub AreTold : PlacedNode → List (Option ℕ) → Type 0
AreTold n streams = (place stream : ℕ) → at_one streams place ≡ Some (Some stream) → IsToldBy n place stream

-- the stream by which a place is told, if there is one
abbrev pub stream_of : List (Option ℕ) → (place : ℕ) → Option ℕ
stream_of told place = option_and_then (λ stream. stream) (at_one told place)

-- the place whose name tells it: that of its stream, or else its own
abbrev pub told_by : List (Option ℕ) → (place : ℕ) → ℕ
told_by told place = unwrap_or (stream_of told place) place
