use Rattle.lucy_app.proofs.Suited.{suited_done}
use Rattle.lucy_app.proofs.laws.suited_commands_are_done.Goals as goal

pub returns : goal.returns
returns c = suited_done c.one_cut.ensures c.one_horizon.ensures c.faultless_runs_are_done.ensures.run c.faultless_runs_are_done.ensures.interpretation c.faultless_runs_are_done.ensures.replay
    c.faultless_runs_are_done.ensures.trace
    c.one_tightest.ensures
