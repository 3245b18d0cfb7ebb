use Rattle.std.proofs.Common.{subst}
use Rattle.lucy_solve.specs.Outcomes.{IsOutcome}
use Rattle.lucy_inference.proofs.Steps.{no_clocks}
use Rattle.lucy_inference.proofs.inferring.shaped.Goals as goal

pub returns-in-Cycle-clause-refused : goal.returns-in-Cycle-clause-refused
returns-in-Cycle-clause-refused c =
    no_clocks c.args.needs.now c.args.shape c.in_ok-diffs.diffs c.in-Cycle.cycle c.requires.words c.requires.shape c.in_ok-diffs.ensures.list c.in_ok-diffs.ensures.ready
    (subst (IsOutcome c.in_ok-diffs.diffs) c.in-Cycle.is c.in_ok-positions.ensures.is)
