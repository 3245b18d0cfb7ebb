use Rattle.lucy_explain.proofs.fullness.why.Goals as goal

pub filled-requires-clause-accepted : goal.filled-requires-clause-accepted
filled-requires-clause-accepted c = let a = c.requires.accepted in (a.0, c.args.options.now, c.args.text.now, a.1)
