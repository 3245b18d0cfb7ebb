use Rattle.std.proofs.Common.{refl}
use Rattle.lucy_run.proofs.engine.ClosureEngineEngine.play.Goals as goal

pub returns-clause-played : goal.returns-clause-played
returns-clause-played g c =
    (c.requires.plays c.args.alloc c.args.accepted c.args.host c.args.inputs c.args.instants c.args.workers refl c.requires.can).1
    c.call.result c.call.ensures
