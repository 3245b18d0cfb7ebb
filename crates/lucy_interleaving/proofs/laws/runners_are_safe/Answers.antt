use Rattle.lucy_interleaving.specs.Runners.{IsSafeOnItsInputs}
use Rattle.lucy_interleaving.proofs.RunnerLaws.{on_its_inputs, if_made}
use Rattle.lucy_interleaving.proofs.laws.runners_are_safe.Goals as goal

pub returns : goal.returns
returns c =
    let accepted = c.accepted_programs_are_clocked.ensures in
    let safe : IsSafeOnItsInputs c.args.runner.now = on_its_inputs accepted.proper accepted.clocked c.args.runner.now c.is_reached.ensures.state c.is_reached.ensures.rings in
    record { made = if_made accepted.proper c.args.runner.now safe; kept = safe }
