use Rattle.std.proofs.Common.{sym, subst}
use Rattle.lucy_solve.specs.System.{DifferenceSystem, Solves}
use Rattle.lucy_shape.specs.Inequalities.{system_of}
use Rattle.lucy_explain.proofs.ChainLaws.{least}
use Rattle.lucy_explain.proofs.reason.reasons_are_least.Goals as goal

pub returns : goal.returns
returns c = λ needs shape r words fits is w xs fitting positions meets.
    let solves : Solves (system_of needs shape) xs = (c.shape_laws.ensures.meeting needs shape w xs words fits fitting positions).0 meets in
    least r.diffs r.chain.items r.variable r.instant is.chain xs (subst (λ (s : DifferenceSystem). Solves s xs) (sym is.of_needs) solves)
