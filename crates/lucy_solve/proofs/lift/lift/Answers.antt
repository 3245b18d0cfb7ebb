use Rattle.std.proofs.Common.{arith}
use Rattle.lucy_solve.proofs.Raises.{raise_most, raised_step}
use Rattle.lucy_solve.proofs.lift.lift.Goals as goal

pub returns-then-has-wanted-clause-reached : goal.returns-then-has-wanted-clause-reached
returns-then-has-wanted-clause-reached c =
    let m = raise_most _ c.list.result.now c.args.position c.shifted.result c.list.ensures.list c.list.ensures.proper c.requires.inside c.shifted.ensures.is in
    (raised_step _ _ _ _ _ _ c.list.ensures.list c.list.ensures.proper c.requires.reached c.requires.inside (omega arith) (omega arith)).0

pub returns-then-has-wanted-clause-raised : goal.returns-then-has-wanted-clause-raised
returns-then-has-wanted-clause-raised c =
    let m = raise_most _ c.list.result.now c.args.position c.shifted.result c.list.ensures.list c.list.ensures.proper c.requires.inside c.shifted.ensures.is in
    (raised_step _ _ _ _ _ _ c.list.ensures.list c.list.ensures.proper c.requires.reached c.requires.inside (omega arith) (omega arith)).1
