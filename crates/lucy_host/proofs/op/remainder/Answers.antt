use Rattle.std.proofs.Common.{arith, ap, of_z, w64, to_z-of_z}
use Rattle.lucy_host.proofs.OpLaws.{remainder_is}
use Rattle.lucy_host.proofs.op.remainder.Goals as goal

pub returns-else-b-eq0 : goal.returns-else-b-eq0
returns-else-b-eq0 c =
    let is = remainder_is c.args.a c.args.b c.ranges.a (λ e. c.if-b-eq0.false (ap (of_z w64) e)) in
    grind (arith, to_z-of_z)
