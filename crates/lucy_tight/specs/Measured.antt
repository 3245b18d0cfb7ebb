-- Words at which each buffer of a node has a size.
use Rattle.std.specs.Prelude.{ℕ, ◌<◌, List, length}
use Rattle.lucy_word.specs.Bits.{Bits}
use Rattle.lucy_word.specs.Adaptable.{IsAdaptable}
use Rattle.lucy_place.specs.declared.entry.PlaceKind.TheVariants.{Buffer}
use Rattle.lucy_place.specs.declared.placed.PlacedNode.{PlacedNode}
use Rattle.lucy_place.specs.Standing.{Stands}
use Rattle.lucy_need.specs.Meeting.{assigned}

-- each buffer is written on a word that is adaptable to the one that it is read on
abbrev pub AreAdaptable : PlacedNode → List Bits → Type 0
AreAdaptable n words =
    (p k e : ℕ) → Stands n p (Buffer k e) → (e < length words) × (p < length words) × IsAdaptable (assigned words e) (assigned words p)
