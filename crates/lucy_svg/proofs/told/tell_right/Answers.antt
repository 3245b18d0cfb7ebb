use Rattle.lucy_svg.proofs.ToldLaws.{told_right}
use Rattle.lucy_svg.proofs.told.tell_right.Goals as goal

pub returns : goal.returns
returns c = λ n at before. told_right n c.args.entry.now _ _ _ _ at c.in-Some.ensures.0 c.in-Some.ensures.1 before c.tell.ensures
