use Rattle.lucy_views.specs.Meets.{options_of}
use Rattle.lucy_views.proofs.Runs.{unaccepted, given_so}
use Rattle.lucy_views.proofs.waves.runnable_text.Goals as goal

pub returns-in-Ok-clause-accepting : goal.returns-in-Ok-clause-accepting
returns-in-Ok-clause-accepting c =
    given_so c.args.ops.now (options_of c.args.words.program) c.args.words.instants c.args.text.now c.in-Ok.program c.given.result c.in-Ok.ensures.ok
    c.given.ensures.ok c.given.ensures.lacks

pub returns-in-Err-clause-accepting : goal.returns-in-Err-clause-accepting
returns-in-Err-clause-accepting c =
    unaccepted c.args.ops.now (options_of c.args.words.program) c.args.words.instants c.args.text.now c.in-Err.failure c.in-Err.ensures.refused
