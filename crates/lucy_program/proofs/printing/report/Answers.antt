use Rattle.std.proofs.Common.{sym, subst}
use Rattle.lucy_program.specs.Report.{IsReportable}
use Rattle.lucy_program.proofs.AcceptedLaws.{reportable}
use Rattle.lucy_program.proofs.printing.report.Goals as goal

pub all_lines-requires : goal.all_lines-requires
all_lines-requires c =
    let (ops, text, options, is) = c.requires in
    let a = c.args.accepted.now in
    subst (IsReportable a.placed.nodes a.typed) (sym c.deref.ensures.value) (reportable ops options text a is)
