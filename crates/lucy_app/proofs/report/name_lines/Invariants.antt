use Rattle.std.proofs.Common.{◌≡◌, ◌+◌, [], ◌++◌, drop}
use Rattle.lucy_types.specs.Tables.{table_at}
use Rattle.lucy_program.specs.Report.{name_lines}
use Rattle.lucy_app.proofs.report.name_lines.Given as goal

abbrev pub invariant-each : goal.invariant-each
invariant-each l =
    l.out.items ++ name_lines l.main (λ place. []) (1 + l.i) (drop l.i l.entries) (drop l.i (table_at l.typed l.node))
    ≡ l.initial.out.items ++ name_lines l.main (λ place. []) 1 l.entries (table_at l.typed l.node)
