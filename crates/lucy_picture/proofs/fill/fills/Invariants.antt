use Rattle.std.proofs.Common.{ℕ, ◌≡◌, ◌+◌, length, Some}
use Rattle.std.specs.Prelude.{slice_get}
use Rattle.lucy_picture.specs.declared.fill.Fill.{Fill}
use Rattle.lucy_picture.specs.Charts.{IsFill}
use Rattle.lucy_picture.proofs.fill.fills.Given as goal

abbrev pub invariant-each : goal.invariant-each
invariant-each l = (length l.fills.items ≡ l.i) × ((k : ℕ) (f : Fill) → slice_get l.fills.items k ≡ Some f → IsFill l.node l.clock l.shown (k + 1) f)
