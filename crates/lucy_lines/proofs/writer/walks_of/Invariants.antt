use Rattle.std.proofs.Common.{ℕ, ◌≡◌, Some, length}
use Rattle.std.specs.List.{slice_get}
use Rattle.lucy_lines.specs.declared.output.OutputSpec.{OutputSpec as Output}
use Rattle.lucy_lines.specs.Walks.{WalkState, IsWalkedTo}
use Rattle.lucy_lines.proofs.writer.walks_of.Given as goal

abbrev pub invariant-loop-output : goal.invariant-loop-output
invariant-loop-output l = record {
  count : length l.walks.items ≡ l.output-index;
  each : (k : ℕ) (o : Output) (w : WalkState) → slice_get l.outputs k ≡ Some o → slice_get l.walks.items k ≡ Some w → IsWalkedTo 0 o w;
}
