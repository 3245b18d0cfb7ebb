use Rattle.lucy_runner.specs.Homes.{crew_by}
use Rattle.lucy_results.proofs.PlayLaws.{played_first, first_is}
use Rattle.lucy_results.proofs.workers.run_core.Goals as goal

pub returns-clause-played : goal.returns-clause-played
returns-clause-played g c =
    let run = c.go.ensures.run in
    played_first c.args.placed.now.nodes c.args.clocks.now c.args.core c.in_ok-runner.runner c.go.new.self run.0 c.in_ok-runner.ensures.first run.2 c.go.ensures.finished c.requires.flat c.requires.inputs c.requires.params

pub returns-clause-is : goal.returns-clause-is
returns-clause-is g c =
    let run = c.go.ensures.run in
    first_is c.args.placed.now.nodes c.args.clocks.now c.args.core c.in_ok-runner.runner c.go.new.self run.0 c.in_ok-runner.ensures.first run.2 c.go.ensures.before (crew_by c.args.workers c.args.homes.now) c.go.ensures.crew c.in_ok-runner.ensures.crew c.requires.inputs
