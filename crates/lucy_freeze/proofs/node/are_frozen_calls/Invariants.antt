use Rattle.std.proofs.Common.{ℕ, ◌≤◌}
use Rattle.lucy_freeze.specs.Frozen.{IsFrozenCall}
use Rattle.lucy_freeze.specs.Images.{renumbering_of, pair_of}
use Rattle.lucy_freeze.proofs.node.are_frozen_calls.Given as goal

abbrev pub invariant-each : goal.invariant-each
invariant-each l = (call : ℕ) → 1 ≤ call → call ≤ l.i → IsFrozenCall (renumbering_of l.images) (pair_of l.both) call
