use Rattle.std.proofs.Common.{refl}
use Rattle.lucy_views.proofs.Sinks.{said_fault, said_print}
use Rattle.lucy_views.proofs.telling.tell_text.Goals as goal

pub returns-then-is_fault-clause-ends : goal.returns-then-is_fault-clause-ends
returns-then-is_fault-clause-ends g c = said_fault c.args.is_fault c.args.text.now _ _ _ _ _ c.if-is_fault.true refl c.tell.ensures.told

pub returns-clause-ends : goal.returns-clause-ends
returns-clause-ends g c = said_print c.args.is_fault c.args.text.now _ _ _ _ _ c.if-is_fault.false c.print.ensures.prints
