use Rattle.lucy_run.proofs.WholeLaws.{run_whole, kahn_whole}
use Rattle.lucy_run.proofs.ReplayLaws.{replay_whole}
use Rattle.lucy_run.proofs.TraceOnce.{trace_whole}
use Rattle.lucy_run.proofs.laws.faultless_runs_are_done.Goals as goal

pub returns-clause-run : goal.returns-clause-run
returns-clause-run c = run_whole c.one_cut.ensures c.cut_in_pieces.ensures c.one_horizon.ensures

pub returns-clause-interpretation : goal.returns-clause-interpretation
returns-clause-interpretation c = kahn_whole c.one_cut.ensures c.cut_in_pieces.ensures c.one_horizon.ensures

pub returns-clause-replay : goal.returns-clause-replay
returns-clause-replay c = replay_whole c.one_cut.ensures c.cut_in_pieces.ensures c.one_horizon.ensures

pub returns-clause-trace : goal.returns-clause-trace
returns-clause-trace c = trace_whole c.one_cut.ensures c.cut_in_pieces.ensures c.one_horizon.ensures
