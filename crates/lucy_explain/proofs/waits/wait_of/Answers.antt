use Rattle.std.proofs.Common.{◌-◌, arith}
use Rattle.lucy_explain.proofs.WaitLaws.{wait_is}
use Rattle.lucy_explain.proofs.waits.wait_of.Goals as goal

pub returns : goal.returns
returns c =
    let written = c.in-Some.written in
    let reached = c.in-Some-index.reached in
    wait_is c.args.write.now c.args.read.now c.args.item written reached (reached - written) c.in-Some.ensures.some c.in-Some-index.ensures.some (omega arith)
