use Rattle.std.proofs.Common.{ap}
use Rattle.lucy_host.specs.Host.{lent}
use Rattle.lucy_app.specs.World.{bytes_of}
use Rattle.lucy_views.proofs.Runs.{unrun, ran}
use Rattle.lucy_views.proofs.waves.wave.Goals as goal

pub returns-in-Ok-clause-ends : goal.returns-in-Ok-clause-ends
returns-in-Ok-clause-ends g c =
    let (taken, stop, read, asked, left) = c.wave-ending.ensures.ends in
    ran c.args.words c.ops.result.now (lent c.args.host.now) c.ops.ensures (bytes_of c.args.fetched) c.runnable.result c.runnable.ensures.accepting
    _ _ _ _ _ _ _ c.in-Ok.program _ c.in-Ok.is (λ none. ap g.I.Source.seen (c.wave-ending.ensures.unread none)) taken stop read asked left c.conclude.ensures.told

pub returns-in-Err-clause-ends : goal.returns-in-Err-clause-ends
returns-in-Err-clause-ends g c =
    unrun c.args.words c.ops.result.now (lent c.args.host.now) c.ops.ensures (bytes_of c.args.fetched) c.runnable.result c.runnable.ensures.accepting
    _ _ _ _ _ c.in-Err.failure c.in-Err.is c.refuse.ensures.told
