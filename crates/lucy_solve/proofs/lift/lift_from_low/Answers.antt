use Rattle.std.proofs.Common.{arith}
use Rattle.lucy_solve.proofs.Sweeps.{swept_lift}
use Rattle.lucy_solve.proofs.lift.lift_from_low.Goals as goal

pub returns-then-lift : goal.returns-then-lift
returns-then-lift c = record {
  swept = swept_lift _ c.list-list.result.now _ _ _ c.args.position _ c.list-list.ensures.list c.requires.within (let low = c.if-values-list-gt-LOW.false in omega arith) c.if-lift.ensures.reached c.if-lift.ensures.raised;
}
