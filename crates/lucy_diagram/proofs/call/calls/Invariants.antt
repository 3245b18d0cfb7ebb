use Rattle.std.proofs.Common.{ℕ, ◌≡◌, ◌+◌, length, Some}
use Rattle.std.specs.Prelude.{slice_get}
use Rattle.lucy_diagram.specs.declared.call.DrawnCall.{DrawnCall}
use Rattle.lucy_diagram.specs.Diagrams.{IsDrawnCall}
use Rattle.lucy_diagram.proofs.call.calls.Given as goal

abbrev pub invariant-each : goal.invariant-each
invariant-each l = (length l.calls.items ≡ l.i) × ((k : ℕ) (call : DrawnCall) → slice_get l.calls.items k ≡ Some call → IsDrawnCall l.placed.nodes l.node (k + 1) call)
