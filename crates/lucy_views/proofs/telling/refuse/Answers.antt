use Rattle.lucy_views.specs.declared.failure.Failure.TheVariants.{Program}
use Rattle.lucy_views.proofs.Sinks.{tells_as, tells_lost, tells_fault}
use Rattle.lucy_views.proofs.telling.refuse.Goals as goal

pub returns-in-Program-clause-told : goal.returns-in-Program-clause-told
returns-in-Program-clause-told g c = tells_as _ (Program c.in-Program.reason) _ _ _ c.in-Program.is c.refuse_program.ensures.told

pub returns-in-Lacks-clause-told : goal.returns-in-Lacks-clause-told
returns-in-Lacks-clause-told g c = tells_lost _ c.in-Lacks.missing _ _ _ _ c.in-Lacks.is c.line.ensures c.tell.ensures.told

pub returns-in-ReadFault-clause-told : goal.returns-in-ReadFault-clause-told
returns-in-ReadFault-clause-told g c = tells_fault _ _ _ _ c.in-ReadFault.is c.tell-in-ReadFault.ensures.told
