use Rattle.std.proofs.Common.{Err, ap, sym, refl, ◌∙◌}
use Rattle.lucy_host.specs.Host.{lent}
use Rattle.lucy_host.specs.Operators.{kinds_of}
use Rattle.lucy_run.specs.Owes.{heading}
use Rattle.lucy_run.proofs.AcceptedLaws.{can_run}
use Rattle.lucy_run.proofs.EndsLaws.{run_unplayed}
use Rattle.lucy_run.proofs.RunLaws.{begun_along, no_inputs, written, under_way, last_words, some_given, whole, failed, out_of_memory}
use Rattle.lucy_run.proofs.running.play_course.Goals as goal

pub returns-in-Err-clause-ends : goal.returns-in-Err-clause-ends
returns-in-Err-clause-ends g c a pace was r head =
    run_unplayed (kinds_of (lent c.args.host.now)) a pace.instants pace.block (g.I.Source.seen c.args.source.now) was (g.O.Sink.seen c.args.out.now) (heading a) refl head

pub play-requires-clause-kinds : goal.play-requires-clause-kinds
play-requires-clause-kinds g c κs within =
    let (a, pace, r) = c.requires.begun in
    let can = can_run _ r.accepted.0 r.accepted.1 a r.accepted.2 (kinds_of (lent c.args.host.now)) in
    let along = begun_along (kinds_of (lent c.args.host.now)) a pace can (g.I.Source.seen c.args.source.now) a.clocks.items refl c.args.course.now r.begun in
    sym along.run.kinds

pub play-requires-clause-written : goal.play-requires-clause-written
play-requires-clause-written g c κs within =
    let (a, pace, r) = c.requires.begun in
    let can = can_run _ r.accepted.0 r.accepted.1 a r.accepted.2 (kinds_of (lent c.args.host.now)) in
    written (kinds_of (lent c.args.host.now)) a pace can (g.I.Source.seen c.args.source.now) a.clocks.items refl c.args.course.now r.begun
    c.instant_by_instant.ensures c.args.outputs.now r.outputs_are c.in-Ok.writer c.in-Ok.ensures.new (g.O.Sink.seen c.args.out.now)

pub end-requires-clause-under_way : goal.end-requires-clause-under_way
end-requires-clause-under_way g c =
    let (a, pace, r) = c.requires.begun in
    let can = can_run _ r.accepted.0 r.accepted.1 a r.accepted.2 (kinds_of (lent c.args.host.now)) in
    under_way (kinds_of (lent c.args.host.now)) a pace can (g.I.Source.seen c.args.source.now) a.clocks.items refl c.args.course.now r.begun
    c.instant_by_instant.ensures c.args.outputs.now r.outputs_are c.in-Ok.writer c.in-Ok.ensures.new (g.O.Sink.seen c.args.out.now)
    (g.I.Source.seen c.play.new.source) (g.O.Sink.seen c.play.new.out) c.play.new.course c.play.new.writer c.play.result c.play.ensures.plays c.play.ensures.given c.in-Ok-play.is

pub end-requires-clause-given : goal.end-requires-clause-given
end-requires-clause-given g c =
    let (a, pace, r) = c.requires.begun in
    let can = can_run _ r.accepted.0 r.accepted.1 a r.accepted.2 (kinds_of (lent c.args.host.now)) in
    some_given (kinds_of (lent c.args.host.now)) a pace can (g.I.Source.seen c.args.source.now) a.clocks.items refl c.args.course.now r.begun
    c.instant_by_instant.ensures c.args.outputs.now r.outputs_are c.in-Ok.writer c.in-Ok.ensures.new (g.O.Sink.seen c.args.out.now)
    (g.I.Source.seen c.play.new.source) (g.O.Sink.seen c.play.new.out) c.play.new.course c.play.new.writer c.play.result c.play.ensures.plays c.play.ensures.given c.in-Ok-play.is r.given

pub returns-in-Ok-play-clause-ends : goal.returns-in-Ok-play-clause-ends
returns-in-Ok-play-clause-ends g c a pace was r head =
    let can = can_run _ r.accepted.0 r.accepted.1 a r.accepted.2 (kinds_of (lent c.args.host.now)) in
    whole (kinds_of (lent c.args.host.now)) a pace can (g.I.Source.seen c.args.source.now) a.clocks.items refl c.args.course.now r.begun
    c.instant_by_instant.ensures c.args.outputs.now r.outputs_are c.in-Ok.writer c.in-Ok.ensures.new (g.O.Sink.seen c.args.out.now)
    (g.I.Source.seen c.play.new.source) (g.O.Sink.seen c.play.new.out) c.play.new.course c.play.new.writer c.play.result c.play.ensures.plays c.play.ensures.given
    (g.I.Source.seen c.end.new.source) c.end.result c.end.ensures.over c.in-Ok-play.is c.lines_go_on.ensures.agree was (heading a) refl head

pub returns-in-Ok-play-clause-unread : goal.returns-in-Ok-play-clause-unread
returns-in-Ok-play-clause-unread g c a pace r none =
    let can = can_run _ r.accepted.0 r.accepted.1 a r.accepted.2 (kinds_of (lent c.args.host.now)) in
    let words = no_inputs (kinds_of (lent c.args.host.now)) a pace can (g.I.Source.seen c.args.source.now) a.clocks.items refl c.args.course.now r.begun none in
    let later = last_words (kinds_of (lent c.args.host.now)) a pace can (g.I.Source.seen c.args.source.now) a.clocks.items refl c.args.course.now r.begun
    c.instant_by_instant.ensures c.args.outputs.now r.outputs_are c.in-Ok.writer c.in-Ok.ensures.new (g.O.Sink.seen c.args.out.now)
    (g.I.Source.seen c.play.new.source) (g.O.Sink.seen c.play.new.out) c.play.new.course c.play.new.writer c.play.result c.play.ensures.plays c.play.ensures.given c.in-Ok-play.is none in
    c.end.ensures.unread later ∙ c.play.ensures.unread words

pub returns-in-Err-Failed-clause-ends : goal.returns-in-Err-Failed-clause-ends
returns-in-Err-Failed-clause-ends g c a pace was r head =
    let can = can_run _ r.accepted.0 r.accepted.1 a r.accepted.2 (kinds_of (lent c.args.host.now)) in
    failed (kinds_of (lent c.args.host.now)) a pace can (g.I.Source.seen c.args.source.now) a.clocks.items refl c.args.course.now r.begun
    c.instant_by_instant.ensures c.args.outputs.now r.outputs_are c.in-Ok.writer c.in-Ok.ensures.new (g.O.Sink.seen c.args.out.now)
    (g.I.Source.seen c.play.new.source) (g.O.Sink.seen c.play.new.out) c.play.new.course c.play.new.writer c.play.result c.play.ensures.plays c.play.ensures.given
    was (heading a) refl head c.lines_go_on.ensures.blocks c.lines_go_on.ensures.agree (c.in-Err-Failed.is ∙ ap Err c.in-Err-Failed.field-0-is)

pub returns-in-Err-Failed-clause-unread : goal.returns-in-Err-Failed-clause-unread
returns-in-Err-Failed-clause-unread g c a pace r none =
    let can = can_run _ r.accepted.0 r.accepted.1 a r.accepted.2 (kinds_of (lent c.args.host.now)) in
    c.play.ensures.unread (no_inputs (kinds_of (lent c.args.host.now)) a pace can (g.I.Source.seen c.args.source.now) a.clocks.items refl c.args.course.now r.begun none)

pub returns-clause-ends : goal.returns-clause-ends
returns-clause-ends g c a pace was r head =
    let can = can_run _ r.accepted.0 r.accepted.1 a r.accepted.2 (kinds_of (lent c.args.host.now)) in
    out_of_memory (kinds_of (lent c.args.host.now)) a pace can (g.I.Source.seen c.args.source.now) a.clocks.items refl c.args.course.now r.begun
    c.instant_by_instant.ensures c.args.outputs.now r.outputs_are c.in-Ok.writer c.in-Ok.ensures.new (g.O.Sink.seen c.args.out.now)
    (g.I.Source.seen c.play.new.source) (g.O.Sink.seen c.play.new.out) c.play.new.course c.play.new.writer c.play.result c.play.ensures.plays c.play.ensures.given
    was (heading a) refl head c.lines_go_on.ensures.blocks (c.in-Err-OutOfMemory.is ∙ ap Err c.in-Err-OutOfMemory.field-0-is)

pub returns-clause-unread : goal.returns-clause-unread
returns-clause-unread g c a pace r none =
    let can = can_run _ r.accepted.0 r.accepted.1 a r.accepted.2 (kinds_of (lent c.args.host.now)) in
    c.play.ensures.unread (no_inputs (kinds_of (lent c.args.host.now)) a pace can (g.I.Source.seen c.args.source.now) a.clocks.items refl c.args.course.now r.begun none)
