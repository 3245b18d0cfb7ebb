use Rattle.std.proofs.Common.{arith}
use Rattle.lucy_solve.proofs.Passes.{within_forest, room_falls}
use Rattle.lucy_solve.proofs.Earliest.{settled}
use Rattle.lucy_solve.proofs.Circles.{refuses}
use Rattle.lucy_solve.proofs.solver.settle.Goals as goal

pub returns-in-Some-clause-settled : goal.returns-in-Some-clause-settled
returns-in-Some-clause-settled c =
    refuses _ _ _ _ c.in_ok-sweep.ensures.swept.reached c.requires.proper c.requires.few (rw c.in-Some.is at c.in_ok-cycle.ensures)

pub passes-smaller : goal.passes-smaller
passes-smaller c =
    let risen = c.pass.ensures.passed.risen c.passes-test.true in
    let grown = c.in_ok-sweep.ensures.swept.grown in
    room_falls _ c.passes.values _ _ c.in_ok-sweep.ensures.swept.reached (rw c.in_default.is at c.in_ok-cycle.ensures) c.requires.proper (omega arith)

pub passes-preserved : goal.passes-preserved
passes-preserved c =
    (c.in_ok-sweep.ensures.swept.reached, within_forest _ _ _ c.in_ok-sweep.ensures.swept.reached (rw c.in_default.is at c.in_ok-cycle.ensures) c.requires.proper)

pub returns-clause-settled : goal.returns-clause-settled
returns-clause-settled c = settled _ _ _ _ _ c.pass.ensures.reached c.requires.proper c.passes-test.ensures.passed
