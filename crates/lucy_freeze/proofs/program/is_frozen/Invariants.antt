use Rattle.std.proofs.Common.{ℕ, ◌<◌}
use Rattle.lucy_freeze.specs.Frozen.{IsFrozenAt}
use Rattle.lucy_freeze.proofs.program.is_frozen.Given as goal

abbrev pub invariant-each : goal.invariant-each
invariant-each l = (i : ℕ) → i < l.node → IsFrozenAt l.placed.nodes l.clocks l.frozen.nodes l.frozen_clocks i
