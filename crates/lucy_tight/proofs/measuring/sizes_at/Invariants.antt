use Rattle.std.proofs.Common.{◌≡◌, ℕ, Some, length}
use Rattle.std.specs.Prelude.{slice_get}
use Rattle.lucy_word.specs.Adaptable.{IsSize}
use Rattle.lucy_place.specs.declared.entry.PlaceKind.TheVariants.{Buffer}
use Rattle.lucy_place.specs.Standing.{Stands}
use Rattle.lucy_need.specs.Meeting.{assigned}
use Rattle.lucy_tight.proofs.measuring.sizes_at.Given as goal

abbrev pub invariant-each : goal.invariant-each
invariant-each l = (length l.sizes.items ≡ l.place-index)
    × ((j p k e size : ℕ) → slice_get l.node.buffers j ≡ Some p → slice_get l.sizes.items j ≡ Some size → Stands l.node p (Buffer k e) → IsSize (assigned l.words e) (assigned l.words p) size)
