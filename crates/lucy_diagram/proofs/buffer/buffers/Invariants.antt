use Rattle.std.proofs.Common.{ℕ, ◌≡◌, ◌+◌, length, Some}
use Rattle.std.specs.Prelude.{slice_get}
use Rattle.lucy_diagram.specs.declared.buffer.DrawnBuffer.{DrawnBuffer}
use Rattle.lucy_diagram.specs.Diagrams.{IsDrawnBuffer}
use Rattle.lucy_diagram.proofs.buffer.buffers.Given as goal

abbrev pub invariant-each : goal.invariant-each
invariant-each l = (length l.buffers.items ≡ l.i) × ((k : ℕ) (b : DrawnBuffer) → slice_get l.buffers.items k ≡ Some b → IsDrawnBuffer l.node l.clock (k + 1) b)
