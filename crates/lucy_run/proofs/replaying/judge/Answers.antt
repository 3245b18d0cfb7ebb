use Rattle.std.proofs.Common.{refl}
use Rattle.lucy_run.proofs.ReplayLaws.{judged_run}
use Rattle.lucy_run.proofs.replaying.judge.Goals as goal

pub returns-clause-left : goal.returns-clause-left
returns-clause-left g c words given lists fault ends =
    let run = c.in_ok-replay.ensures.exact.0 refl in
    judged_run c.args.core.now c.args.placed.now.nodes c.args.outputs.now c.args.picks.now c.replay.new.core c.requires.unbegun run (c.is_reached.ensures.events c.args.picks.now run)
    c.replay.ensures.done c.args.ending c.print.result _ _ c.print.ensures.left words given lists fault ends
