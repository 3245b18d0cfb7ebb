use Rattle.std.proofs.Common.{ap, ◌∷◌, []}
use Rattle.lucy_host.specs.Host.{lent}
use Rattle.lucy_host.specs.Operators.{kinds_of}
use Rattle.lucy_run.specs.Owes.{OwesRun, LinesAllow}
use Rattle.lucy_run.specs.Engines.{FailsInPiece}
use Rattle.lucy_run.proofs.FedLaws.{owed_allowed}
use Rattle.lucy_app.specs.Commands.{inferring_options}
use Rattle.lucy_app.specs.Outcomes.{bytes_of}
use Rattle.lucy_app.proofs.RunEnds.{runnable_so, refused_so, unrun}
use Rattle.lucy_app.proofs.Played.{asks_nothing, played}
use Rattle.lucy_app.proofs.playing.play.Goals as goal

pub returns-in-Ok-clause-ends : goal.returns-in-Ok-clause-ends
returns-in-Ok-clause-ends g c =
    let (taken, stop, read, bytes, left) = c.run_by-ending.ensures.ends in
    let o = inferring_options c.args.words.scale c.args.words.lead in
    let runnable = runnable_so c.ops.result.now (lent c.args.host.now) c.inferring-options.result o c.args.words.instants
    (bytes_of c.args.fetched ∷ []) c.accepted.result c.ops.ensures c.inferring-options.ensures.is c.accepted.ensures.accepting
    c.in-Ok.accepted c.in-Ok.is in
    played (kinds_of (lent c.args.host.now)) (lent c.args.host.now) o c.args.words.instants c.args.words.workers
    (bytes_of c.args.fetched ∷ []) c.in-Ok.accepted runnable (g.N.Engine.asked c.args.engine.now) (g.N.Engine.asked c.run_by-ending.new.engine)
    _ _ _ _ _ _ _ _ (λ none. ap g.I.Source.seen (c.run_by-ending.ensures.unread none)) taken stop read bytes left c.conclude.ensures.told

pub returns-in-Err-clause-ends : goal.returns-in-Err-clause-ends
returns-in-Err-clause-ends g c =
    let asked = g.N.Engine.asked c.args.engine.now in
    let o = inferring_options c.args.words.scale c.args.words.lead in
    let (taken, stop, read, reads, ends) = unrun (λ taken stop a. OwesRun (kinds_of (lent c.args.host.now)) a c.args.words.instants taken stop)
    (λ taken stop a. LinesAllow (kinds_of (lent c.args.host.now)) a c.args.words.instants taken stop)
    (λ taken stop a out out'. FailsInPiece a c.args.words.instants c.args.words.workers taken stop asked asked out out')
    (λ taken stop a. owed_allowed (kinds_of (lent c.args.host.now)) a c.args.words.instants taken stop) c.ops.result.now (lent c.args.host.now)
    c.inferring-options.result o c.args.words.instants (bytes_of c.args.fetched ∷ [])
    c.accepted.result c.ops.ensures c.inferring-options.ensures.is c.accepted.ensures.accepting
    (g.I.Source.seen c.args.input.now) (g.O.Sink.seen c.args.out.now) (g.E.Sink.seen c.args.err.now) (g.E.Sink.seen c.refuse.new.err)
    c.refuse.result c.in-Err.refusal c.in-Err.is c.refuse.ensures.told in
    let refused = refused_so c.ops.result.now (lent c.args.host.now) c.inferring-options.result o c.args.words.instants
    (bytes_of c.args.fetched ∷ []) c.accepted.result c.ops.ensures c.inferring-options.ensures.is c.accepted.ensures.accepting
    c.in-Err.refusal c.in-Err.is in
    let asks = asks_nothing (lent c.args.host.now) o c.args.words.instants c.args.words.workers taken stop (bytes_of c.args.fetched ∷ []) asked
    c.in-Err.refusal (g.E.Sink.seen c.args.err.now) (g.E.Sink.seen c.refuse.new.err) c.refuse.result refused c.refuse.ensures.told in
    (taken, stop, read, reads, asks, ends)
