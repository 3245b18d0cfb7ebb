use Rattle.std.proofs.Common.{ℕ, ◌≡◌, ◌<◌, Some}
use Rattle.std.specs.List.{slice_get}
use Rattle.lucy_lines.specs.declared.output.OutputSpec.{OutputSpec as Output}
use Rattle.lucy_lines.specs.Walks.{FitsRoom}
use Rattle.lucy_lines.proofs.writer.room_for.Given as goal

abbrev pub invariant-loop-output : goal.invariant-loop-output
invariant-loop-output l = (k : ℕ) (o : Output) → k < l.output-index → slice_get l.outputs k ≡ Some o → FitsRoom o l.room
