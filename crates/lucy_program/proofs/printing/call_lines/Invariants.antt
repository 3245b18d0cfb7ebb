use Rattle.std.proofs.Common.{◌≡◌, ◌+◌, ◌++◌, drop}
use Rattle.lucy_need.specs.Meeting.{assigned}
use Rattle.lucy_program.specs.Report.{call_lines}
use Rattle.lucy_program.proofs.printing.call_lines.Given as goal

abbrev pub invariant-each : goal.invariant-each
invariant-each l =
    l.out.items ++ call_lines l.placed.nodes l.node (assigned l.words) (1 + l.i) (drop l.i l.node.calls)
    ≡ l.initial.out.items ++ call_lines l.placed.nodes l.node (assigned l.words) 1 l.node.calls
