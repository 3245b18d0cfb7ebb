use Rattle.lucy_front.proofs.clocking.node_clock.Goals as goal

pub returns-in-None-clause-refused : goal.returns-in-None-clause-refused
returns-in-None-clause-refused c = λ n e. c.handed_clock.ensures.refused c.args.options.now n e
