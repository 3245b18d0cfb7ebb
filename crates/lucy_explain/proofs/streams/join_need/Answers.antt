use Rattle.lucy_explain.proofs.StreamLaws.{join_none}
use Rattle.lucy_explain.proofs.streams.join_need.Goals as goal

pub returns-in-Some : goal.returns-in-Some
returns-in-Some c = λ needs clocks upto h at. c.join.ensures needs clocks upto c.args.need.now h at c.in-Some.ensures

pub returns-in-None : goal.returns-in-None
returns-in-None c = λ needs clocks upto h at. join_none needs clocks upto c.args.need.now c.args.streams.now h at c.in-None.ensures
