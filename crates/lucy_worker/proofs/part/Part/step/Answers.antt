use Rattle.lucy_host.specs.Host.{lent}
use Rattle.lucy_host.specs.Operators.{kinds_of}
use Rattle.lucy_worker.proofs.Runs.{stays}
use Rattle.lucy_worker.proofs.part.Part.step.Goals as goal

pub take-requires-clause-next : goal.take-requires-clause-next
take-requires-clause-next g c = c.next_end_move.ensures.take _ c.in-Take.is

pub give-requires-clause-next : goal.give-requires-clause-next
give-requires-clause-next g c k l = c.next_end_move.ensures.give _ c.in-Give.is

pub returns-in-Take-clause-run : goal.returns-in-Take-clause-run
returns-in-Take-clause-run g c = c.take.ensures.run (kinds_of (lent c.args.host.now))

pub returns-in-Done-clause-run : goal.returns-in-Done-clause-run
returns-in-Done-clause-run g c = stays (kinds_of (lent c.args.host.now)) c.args.self.now
