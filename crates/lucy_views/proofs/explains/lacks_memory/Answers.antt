use Rattle.std.proofs.Common.{refl}
use Rattle.lucy_views.proofs.Texts.{lacks_so}
use Rattle.lucy_views.proofs.explains.lacks_memory.Goals as goal

pub returns-in-Some : goal.returns-in-Some
returns-in-Some c = lacks_so c.args.refusal.now _ c.program_status.result _ c.in-Some.is c.program_status.ensures.is refl
