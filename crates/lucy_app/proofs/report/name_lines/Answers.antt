use Rattle.std.proofs.Common.{[]}
use Rattle.lucy_types.specs.Tables.{table_at}
use Rattle.lucy_program.proofs.ReportLaws.{names_more}
use Rattle.lucy_app.proofs.report.name_lines.Goals as goal

pub each-preserved : goal.each-preserved
each-preserved c =
    let l = c.each in
    names_more c.args.main (λ place. []) c.args.entries.now (table_at c.args.typed.now c.args.node) l.i c.index-entries-i.result c.at-ty.result l.out.items _ _ c.each-test.true c.index-entries-i.is c.at-ty.ensures
    c.in_ok-name_line.ensures l.invariant
