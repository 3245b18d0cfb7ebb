use Rattle.lucy_app.proofs.Played.{plays_as_run}
use Rattle.lucy_app.proofs.laws.suited_plays_are_done.Goals as goal

pub returns : goal.returns
returns c = λ command asked asked' before after status ends none suits.
    c.suited_commands_are_done.ensures command before after status (plays_as_run command asked asked' before after status ends none) none suits
