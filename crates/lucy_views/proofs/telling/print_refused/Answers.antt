use Rattle.std.proofs.Common.{inl, ◌∙◌}
use Rattle.lucy_views.proofs.Sinks.{printed_so}
use Rattle.lucy_views.proofs.telling.print_refused.Goals as goal

pub returns-in-Ok-clause-prints : goal.returns-in-Ok-clause-prints
returns-in-Ok-clause-prints g c =
    inl (printed_so c.args.refusal.now c.program_status.result _ c.deref.result.now _ _ _ _ _ c.program_status.ensures.is (c.deref.ensures.value ∙ c.in-Ok.ensures)
    c.print_with.ensures.prints)
