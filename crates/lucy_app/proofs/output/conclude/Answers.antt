use Rattle.lucy_app.proofs.Sinks.{tells_write_fault}
use Rattle.lucy_app.proofs.output.conclude.Goals as goal

pub returns-in-WriteFault-clause-told : goal.returns-in-WriteFault-clause-told
returns-in-WriteFault-clause-told g c = tells_write_fault _ _ _ _ c.in-WriteFault.is c.tell.ensures.told
