use Rattle.std.proofs.Common.{◌++◌, ap, sym, ◌∙◌}
use Rattle.std.specs.Prelude.{codes}
use Rattle.lucy_program.specs.Names.{of_one}
use Rattle.lucy_tight.specs.Report.{size_text}
use Rattle.lucy_tight.proofs.ReportLaws.{two_new}
use Rattle.lucy_tight.proofs.report.report_fixed.Goals as goal

pub returns : goal.returns
returns c =
    let n = c.node-found.result.now in
    two_new (size_text n c.args.buffer c.args.size) (codes "fixed\n") c.new-out.result.items
    c.put_size.new.out.items c.bytes.new.out.items c.new-out.ensures.items c.in_ok-put_size.ensures c.in_ok-bytes.ensures
    ∙ sym (ap (of_one (λ m. size_text m c.args.buffer c.args.size ++ codes "fixed\n")) c.node-found.ensures.is)
