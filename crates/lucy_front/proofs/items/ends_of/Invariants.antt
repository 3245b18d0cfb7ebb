use Rattle.std.proofs.Common.{◌≡◌, Some}
use Rattle.std.specs.Prelude.{slice_get, slice_index}
use Rattle.lucy_place.specs.declared.placed.PlacedNode.{PlacedNode}
use Rattle.lucy_front.specs.Ends.{AreEndsTo}
use Rattle.lucy_front.proofs.items.ends_of.Given as goal

abbrev pub invariant-calls : goal.invariant-calls
invariant-calls l = (n : PlacedNode) → slice_get l.placed.nodes l.node ≡ Some n → AreEndsTo l.placed.nodes n l.site-index l.ends.items × (l.end ≡ slice_index l.ends.items l.site-index)
