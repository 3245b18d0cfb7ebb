use Rattle.std.proofs.Common.{refl, arith}
use Rattle.lucy_results.proofs.HorizonLaws.{place_some, last_before, last_most, last_all}
use Rattle.lucy_results.proofs.instants.last_within.Goals as goal

pub returns-then-items-most-clause-exact : goal.returns-then-items-most-clause-exact
returns-then-items-most-clause-exact c = (last_all c.args.word.now c.args.items c.args.most (omega arith)).exact

pub overflow_sub-place : goal.overflow_sub-place
overflow_sub-place c = place_some c.args.word.now c.args.items c.in-Some.place c.in-Some.ensures.some

pub returns-in-Some-clause-exact : goal.returns-in-Some-clause-exact
returns-in-Some-clause-exact c = (last_before c.args.word.now c.args.items c.args.most c.in-Some.place c.min.result c.in-Some.ensures.some c.min.ensures).exact

pub returns-in-None-clause-exact : goal.returns-in-None-clause-exact
returns-in-None-clause-exact c =
    let (place, h, far) = c.in-None.ensures.none.0 refl in
    (last_most c.args.word.now c.args.items c.args.most place h (omega (arith, far))).exact
