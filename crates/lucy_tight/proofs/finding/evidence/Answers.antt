use Rattle.std.proofs.Common.{subst, arith}
use Rattle.lucy_solve.specs.Outcomes.{IsOutcome}
use Rattle.lucy_shape.specs.Sized.{sized_system}
use Rattle.lucy_tight.proofs.finding.evidence.Goals as goal

pub returns-in-Earliest-clause-cycle : goal.returns-in-Earliest-clause-cycle
returns-in-Earliest-clause-cycle c some =
    let below = c.saturating_sub.result in
    let found = subst (IsOutcome (sized_system c.args.needs.now c.args.shape.now c.args.from c.args.to below)) c.in-Earliest.is c.in_ok-diffs.ensures.outcome in
    absurd (c.requires.least.none below (omega (arith, c.saturating_sub.ensures, some)) _ found.solves)
