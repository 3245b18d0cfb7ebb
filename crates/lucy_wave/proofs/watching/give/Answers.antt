use Rattle.lucy_wave.proofs.GiveLaws.{give_set}
use Rattle.lucy_wave.proofs.watching.give.Goals as goal

pub returns : goal.returns
returns c = give_set c.args.actors.now c.args.number c.args.ring c.index-actors-number.result c.index-actors-number-2.result c.in_ok-more.more c.requires c.in_ok-more.ensures
