use Rattle.lucy_explain.proofs.StreamLaws.{join_same, join_more}
use Rattle.lucy_explain.proofs.streams.join.Goals as goal

pub returns-in-Some : goal.returns-in-Some
returns-in-Some c = λ needs clocks upto need h at is.
    let pair = c.in-Some.ensures in
    join_more needs clocks upto need c.args.streams.now c.args.one c.args.two c.in-Some.old c.in-Some.new c.rename.new.streams h at is pair.0 pair.1 pair.2 pair.3 c.rename.auto.streams c.rename.ensures

pub returns-in-None : goal.returns-in-None
returns-in-None c = λ needs clocks upto need h at is. join_same needs clocks upto need c.args.streams.now c.args.one c.args.two h at is c.in-None.ensures
