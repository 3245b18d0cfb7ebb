use Rattle.lucy_views.specs.Meets.{options_of}
use Rattle.lucy_views.proofs.Runs.{unfetched, fetched_so}
use Rattle.lucy_views.proofs.waves.runnable.Goals as goal

pub returns-in-Ok-clause-accepting : goal.returns-in-Ok-clause-accepting
returns-in-Ok-clause-accepting c =
    fetched_so c.args.ops.now (options_of c.args.words.program) c.args.words.instants c.args.fetched c.in-Ok.text _ c.in-Ok.is c.deref.ensures.value
    c.runnable_text.result c.runnable_text.ensures.accepting

pub returns-in-Err-clause-accepting : goal.returns-in-Err-clause-accepting
returns-in-Err-clause-accepting c =
    unfetched c.args.ops.now (options_of c.args.words.program) c.args.words.instants c.args.fetched c.in-Err.error _ c.in-Err.is c.from.ensures
