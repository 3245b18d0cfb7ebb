use Rattle.rtrb.specs.Ring.{sent}
use Rattle.lucy_ring.proofs.Order.{handed_on}
use Rattle.lucy_ring.proofs.meeting.bring_together.Goals as goal

pub returns-clause-fifo : goal.returns-clause-fifo
returns-clause-fifo c =
    let h = handed_on c.look.new.taker (sent c.look.new.giver.items) c.look.new.giver.side.items c.gather.ensures.front in
    cc
