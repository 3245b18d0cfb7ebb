use Rattle.lucy_worker.proofs.CountLaws.{all_ready}
use Rattle.lucy_worker.proofs.worker.Worker.new.Goals as goal

pub invariant_of-result : goal.invariant_of-result
invariant_of-result c = all_ready c.args.parts.items c.requires.new c.requires.few
