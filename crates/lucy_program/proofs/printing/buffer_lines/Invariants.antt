use Rattle.std.proofs.Common.{◌≡◌, ◌+◌, ◌++◌, drop}
use Rattle.lucy_need.specs.Meeting.{assigned}
use Rattle.lucy_program.specs.Report.{buffer_lines}
use Rattle.lucy_program.proofs.printing.buffer_lines.Given as goal

abbrev pub invariant-each : goal.invariant-each
invariant-each l =
    l.out.items ++ buffer_lines l.node (assigned l.words) (1 + l.i) (drop l.i l.buffers) (drop l.i l.sizes)
    ≡ l.initial.out.items ++ buffer_lines l.node (assigned l.words) 1 l.buffers l.sizes
