use Rattle.std.proofs.Common.{◌≡◌, ℕ, length, ap, sym, ◌∙◌, arith}
use Rattle.lucy_core.specs.Seen.{Seen}
use Rattle.lucy_trace.proofs.CatchingLaws.{HasRuns}
use Rattle.lucy_trace.proofs.FollowingLaws.{none_printed, printing_stops, whole_written, whole_fails, whole_stops}
use Rattle.lucy_trace.proofs.following.trace.Goals as goal

pub returns-in_err-counts-clause-out_of_memory : goal.returns-in_err-counts-clause-out_of_memory
returns-in_err-counts-clause-out_of_memory g c = λ e.
    (let first : Seen = c.args.core.now in
    let runs : HasRuns first = record { counts = c.runs_go_on.ensures.counts; actors = c.runs_go_on.ensures.actors; joined = c.runs_go_on.ensures.joined } in
    let sink = g.K.Sink.seen c.args.out.now in
    whole_stops first sink sink c.events_go_by_the_net.ensures runs c.requires.unbegun
    (printing_stops first first sink sink c.runs_go_on.ensures.joined (none_printed first sink) c.runs_go_on.ensures.end))

pub returns-clause-ok : goal.returns-clause-ok
returns-clause-ok g c =
    let first : Seen = c.args.core.now in
    let runs : HasRuns first = record { counts = c.runs_go_on.ensures.counts; actors = c.runs_go_on.ensures.actors; joined = c.runs_go_on.ensures.joined } in
    whole_written first (g.K.Sink.seen c.args.out.now) (g.K.Sink.seen c.trace_on.new.out) c.events_go_by_the_net.ensures runs c.requires.unbegun c.trace_on.result c.trace_on.ensures.ok

pub returns-clause-failed : goal.returns-clause-failed
returns-clause-failed g c = λ e.
    (let first : Seen = c.args.core.now in
    let runs : HasRuns first = record { counts = c.runs_go_on.ensures.counts; actors = c.runs_go_on.ensures.actors; joined = c.runs_go_on.ensures.joined } in
    whole_fails first (g.K.Sink.seen c.args.out.now) (g.K.Sink.seen c.trace_on.new.out) c.events_go_by_the_net.ensures runs c.requires.unbegun (c.trace_on.ensures.failed e))

pub returns-clause-out_of_memory : goal.returns-clause-out_of_memory
returns-clause-out_of_memory g c = λ e.
    (let first : Seen = c.args.core.now in
    let runs : HasRuns first = record { counts = c.runs_go_on.ensures.counts; actors = c.runs_go_on.ensures.actors; joined = c.runs_go_on.ensures.joined } in
    whole_stops first (g.K.Sink.seen c.args.out.now) (g.K.Sink.seen c.trace_on.new.out) c.events_go_by_the_net.ensures runs c.requires.unbegun (c.trace_on.ensures.out_of_memory e))
