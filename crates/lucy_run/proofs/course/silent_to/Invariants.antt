use Rattle.std.proofs.Common.{ℕ, ◌≡◌, ◌<◌, ◌≤◌}
use Rattle.std.specs.Prelude.{Some, slice_get}
use Rattle.lucy_word.specs.Bits.{ones_to}
use Rattle.lucy_lines.specs.declared.output.OutputSpec.{OutputSpec}
use Rattle.lucy_run.proofs.course.silent_to.Given as goal

-- the outputs so far are silent
abbrev pub invariant-each : goal.invariant-each
invariant-each l = record {
  from : l.from ≤ l.last;
  most : l.last ≤ l.most;
  silent : (i : ℕ) (o : OutputSpec) → i < l.output-index → slice_get l.outputs i ≡ Some o → ones_to o.word l.last ≡ ones_to o.word l.from;
}
