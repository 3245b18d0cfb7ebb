use Rattle.lucy_app.proofs.Sinks.{tells_fault, tells_missing, tells_lost}
use Rattle.lucy_app.proofs.output.refuse.Goals as goal

pub returns-in-NoInstants-clause-told : goal.returns-in-NoInstants-clause-told
returns-in-NoInstants-clause-told g c = tells_missing _ _ _ _ c.in-NoInstants.is c.tell.ensures.told

pub returns-in-NoBuffer-clause-told : goal.returns-in-NoBuffer-clause-told
returns-in-NoBuffer-clause-told g c = tells_lost _ _ _ _ c.in-NoBuffer.is c.tell-in-NoBuffer.ensures.told

pub returns-in-ReadFault-clause-told : goal.returns-in-ReadFault-clause-told
returns-in-ReadFault-clause-told g c = tells_fault _ _ _ _ c.in-ReadFault.is c.tell-in-ReadFault.ensures.told
