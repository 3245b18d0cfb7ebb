use Rattle.lucy_program.proofs.AcceptedLaws.{text_proper, text_operators, clocked, reportable}
use Rattle.lucy_program.proofs.BoundedLaws.{bounded}
use Rattle.lucy_program.proofs.laws.accepted_programs_are_clocked.Goals as goal

pub returns-clause-proper : goal.returns-clause-proper
returns-clause-proper c = λ ops o text a is. text_proper ops o text a.placed is.clocked.program.program

pub returns-clause-operators : goal.returns-clause-operators
returns-clause-operators c = λ ops o text a is. text_operators ops o text a.placed is.clocked.program.program

pub returns-clause-clocked : goal.returns-clause-clocked
returns-clause-clocked c = λ ops o text a is. clocked a.placed.nodes a.clocks.items is.clocked.clocks

pub returns-clause-reportable : goal.returns-clause-reportable
returns-clause-reportable c = λ ops o text a is. reportable ops o text a is

pub returns-clause-bounded : goal.returns-clause-bounded
returns-clause-bounded c = λ ops o text a is. bounded ops o text a is
