use Rattle.std.proofs.Common.{◌≡◌, ◌++◌, drop}
use Rattle.lucy_app.specs.Report.{type_report}
use Rattle.lucy_app.proofs.report.report.Given as goal

abbrev pub invariant-each : goal.invariant-each
invariant-each l = l.out.items ++ type_report (drop l.number l.placed.nodes) (drop l.number l.typed) ≡ type_report l.placed.nodes l.typed
