use Rattle.std.proofs.Common.{ℕ, ◌≤◌}
use Rattle.lucy_freeze.specs.Frozen.{IsFrozenPlace}
use Rattle.lucy_freeze.specs.Images.{renumbering_of, pair_of}
use Rattle.lucy_freeze.proofs.node.are_frozen_places.Given as goal

abbrev pub invariant-each : goal.invariant-each
invariant-each l = (place : ℕ) → 1 ≤ place → place ≤ l.i → IsFrozenPlace (renumbering_of l.images) (pair_of l.both) place
