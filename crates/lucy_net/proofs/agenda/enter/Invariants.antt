use Rattle.lucy_net.specs.Faults.{rows_of}
use Rattle.lucy_net.specs.Agenda.{AreEntered}
use Rattle.lucy_net.proofs.agenda.enter.Given as goal

abbrev pub invariant-loop-before : goal.invariant-loop-before
invariant-loop-before l = AreEntered l.actor l.number l.before (rows_of l.initial.rows) (rows_of l.rows)
