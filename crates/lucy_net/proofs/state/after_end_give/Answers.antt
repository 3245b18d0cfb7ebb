use Rattle.lucy_net.proofs.StateLaws.{gave_on}
use Rattle.lucy_net.proofs.state.after_end_give.Goals as goal

pub returns : goal.returns
returns c instants n took is = gave_on c.args.actor.now instants n took c.args.state.now c.step_on.new.state c.requires.usable is c.requires.next.1.going c.step_on.ensures
