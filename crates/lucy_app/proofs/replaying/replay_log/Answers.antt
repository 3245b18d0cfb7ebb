use Rattle.std.proofs.Common.{ap}
use Rattle.lucy_host.specs.Host.{lent}
use Rattle.lucy_app.specs.Outcomes.{bytes_of}
use Rattle.lucy_app.proofs.Replays.{log_refused_so, picks_read, judged_ended, judged_refused}
use Rattle.lucy_app.proofs.replaying.replay_log.Goals as goal

pub returns-in-Err-clause-ends : goal.returns-in-Err-clause-ends
returns-in-Err-clause-ends g c =
    log_refused_so (lent c.args.host.now) c.args.accepted c.args.instants (bytes_of c.args.fetched) c.picks.result c.in-Err.refusal c.in-Err.is c.picks.ensures.read _ _ _ _ _ c.refuse.ensures.told

pub returns-in-Ok-replay-clause-ends : goal.returns-in-Ok-replay-clause-ends
returns-in-Ok-replay-clause-ends g c =
    let (taken, stop, read, asked, left) = c.replay.ensures.ends in
    let picks = picks_read (bytes_of c.args.fetched) c.deref.result.now c.in-Ok.picks.items c.deref.ensures.value c.in-Ok.ensures.read in
    judged_ended (lent c.args.host.now) c.args.accepted c.args.instants (bytes_of c.args.fetched) c.deref.result.now picks taken stop c.replay.result c.in-Ok-replay.ending c.in-Ok-replay.is _ _ _ _ _ _ _
    (λ none. ap g.I.Source.seen (c.replay.ensures.unread none)) read asked left c.conclude.ensures.told

pub returns-clause-ends : goal.returns-clause-ends
returns-clause-ends g c =
    let (taken, stop, read, asked, left) = c.replay.ensures.ends in
    let picks = picks_read (bytes_of c.args.fetched) c.deref.result.now c.in-Ok.picks.items c.deref.ensures.value c.in-Ok.ensures.read in
    judged_refused (lent c.args.host.now) c.args.accepted c.args.instants (bytes_of c.args.fetched) c.deref.result.now picks taken stop c.replay.result c.in-Err-replay.error c.from.result c.in-Err-replay.is
    c.from.ensures _ _ _ _ _ _ _ (λ none. ap g.I.Source.seen (c.replay.ensures.unread none)) read asked left c.refuse-in-Err-replay.ensures.told
