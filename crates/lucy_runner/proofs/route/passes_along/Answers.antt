use Rattle.std.proofs.Common.{length, arith}
use Rattle.lucy_host.specs.Host.{lent}
use Rattle.lucy_host.specs.Operators.{kinds_of}
use Rattle.lucy_runner.specs.Crews.{crew_of}
use Rattle.lucy_runner.proofs.RunLaws.{none_run, runs_on, served_on}
use Rattle.lucy_runner.proofs.route.passes_along.Goals as goal

pub loop-more-init : goal.loop-more-init
loop-more-init g c = (none_run (kinds_of (lent c.args.host.now)) (crew_of c.args.seats.now), omega arith)

pub pass_along-more-requires-clause-served : goal.pass_along-more-requires-clause-served
pass_along-more-requires-clause-served g c κs within =
    served_on (kinds_of (lent c.args.host.now)) (length (lent c.args.host.now)) (crew_of c.args.seats.now) (crew_of c.loop-more.seats) c.loop-more.moves c.loop-more.invariant.0 c.requires.served

pub loop-more-preserved : goal.loop-more-preserved
loop-more-preserved g c =
    let few = c.pass_along-more.ensures.few in (
      runs_on (kinds_of (lent c.args.host.now)) (crew_of c.args.seats.now) (crew_of c.loop-more.seats) (crew_of c.pass_along-more.new.seats) c.loop-more.moves c.pass_along-more.result c.loop-more.invariant.0 c.pass_along-more.ensures.run,
      omega arith,
    )
