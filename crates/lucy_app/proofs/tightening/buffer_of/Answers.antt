use Rattle.lucy_app.proofs.TightOut.{buffer_out}
use Rattle.lucy_app.proofs.tightening.buffer_of.Goals as goal

pub returns-clause-outcome : goal.returns-clause-outcome
returns-clause-outcome c =
    buffer_out c.args.accepted.now c.args.options.now c.args.name.now c.args.buffer c.in-Some.node _ c.in-Some.ensures.some.0 c.in-Some.ensures.some.1
    c.print_of.ensures.outcome
