use Rattle.std.proofs.Common.{ℕ, ◌<◌, ◌≡◌, Some}
use Rattle.std.specs.Prelude.{slice_get}
use Rattle.lucy_freeze.specs.Frozen.{IsReadFor}
use Rattle.lucy_freeze.specs.Images.{renumbering_of, pair_of}
use Rattle.lucy_freeze.proofs.same.are_read.Given as goal

abbrev pub invariant-each : goal.invariant-each
invariant-each l =
    (k place read : ℕ) → k < l.i → slice_get l.places k ≡ Some place → slice_get l.reads k ≡ Some read
    → IsReadFor (renumbering_of l.images) (pair_of l.both) place read
