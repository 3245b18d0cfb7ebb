use Rattle.std.proofs.Common.{◌≡◌, ◌++◌, drop}
use Rattle.lucy_program.specs.Report.{node_reports, report}
use Rattle.lucy_program.proofs.printing.all_lines.Given as goal

abbrev pub invariant-each : goal.invariant-each
invariant-each l = l.out.items ++ node_reports l.placed.nodes (drop l.number l.placed.nodes) (drop l.number l.typed) (drop l.number l.clocks) ≡ report l.placed.nodes l.typed l.clocks
