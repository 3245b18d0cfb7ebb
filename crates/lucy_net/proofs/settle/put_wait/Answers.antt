use Rattle.std.proofs.Common.{set, ap, arith}
use Rattle.lucy_net.proofs.SettleLaws.{pushed_length}
use Rattle.lucy_net.proofs.settle.put_wait.Goals as goal

pub returns : goal.returns
returns c =
    let last = c.in_ok-push.ensures.items in
    let count = pushed_length c.args.waits.now.items c.push.new.self.items (record { actor = c.args.actor; ring = c.args.ring }) c.len.result last (omega arith) in
    record { last = last; marked = ap (set c.args.depth.now c.args.actor) count }
