use Rattle.std.proofs.Common.{[], ◌∷◌, refl, ap, sym, inl, inr}
use Rattle.lucy_host.specs.Host.{lent}
use Rattle.lucy_command.specs.Named.{named, kahn_named}
use Rattle.lucy_app.specs.Outcomes.{bytes_of, made_given}
use Rattle.lucy_app.specs.World.{Given}
use Rattle.lucy_app.proofs.RunEnds.{run_met, kahn_met, trace_met}
use Rattle.lucy_app.proofs.Sinks.{ends_some, ends_with, ends_as}
use Rattle.lucy_app.proofs.carrying.carry_out.Goals as goal

pub returns-in-Order-clause-ends : goal.returns-in-Order-clause-ends
returns-in-Order-clause-ends g c =
    let read = c.answer-outcome.ensures.outcome in
    ends_some _ _ (record { fetched = []; taken = read.0; stop = read.1; operators = lent c.args.host.now }) c.answer-outcome.result _ _ _ (ap named (sym c.in-Order.is))
    (record { shelf = refl; source = read.2; unread = inr tt; operators = refl }) refl tt read.3 c.finish.ensures.delivers

pub returns-in-Show-clause-ends : goal.returns-in-Show-clause-ends
returns-in-Show-clause-ends g c = c.look.ensures.ends _

pub returns-in-Run-clause-ends : goal.returns-in-Run-clause-ends
returns-in-Run-clause-ends g c =
    let read = c.run.ensures.ends in
    let given : Given = record { fetched = bytes_of c.fetch-fetched.result ∷ []; taken = read.0; stop = read.1; operators = lent c.args.host.now } in
    ends_with _ _ given _ _ _ (ap named (sym c.in-Run.is))
    (record { shelf = (_, c.fetch-fetched.ensures.fetched, refl); source = read.2; unread = read.3; operators = refl }) (run_met (record { file = c.in-Run.words.file.now; scale = c.in-Run.words.scale; lead = c.in-Run.words.lead; instants = c.in-Run.words.instants }) c.in-Run.words.workers c.in-Run.words.block given _ _ _ _ _ read.4)

pub returns-in-Kahn-clause-ends : goal.returns-in-Kahn-clause-ends
returns-in-Kahn-clause-ends g c =
    let read = c.kahn.ensures.ends in
    let given : Given = record { fetched = bytes_of c.fetch-fetched-in-Kahn.result ∷ []; taken = read.0; stop = read.1; operators = lent c.args.host.now } in
    ends_with _ _ given _ _ _ (ap named (sym c.in-Kahn.is))
    (record { shelf = (_, c.fetch-fetched-in-Kahn.ensures.fetched, refl); source = read.2; unread = read.3; operators = refl }) (kahn_met _ (kahn_named c.in-Kahn.words) given _ _ _ _ _ read.4)

pub returns-in-Make-clause-ends : goal.returns-in-Make-clause-ends
returns-in-Make-clause-ends g c =
    ends_with _ _ (made_given (lent c.args.host.now)) _ _ _ (ap named (sym c.in-Make.is)) (record { shelf = refl; source = (refl, refl, refl); unread = inl refl; operators = refl }) c.make.ensures.ends

pub returns-in-Replay-clause-ends : goal.returns-in-Replay-clause-ends
returns-in-Replay-clause-ends g c = ends_as _ _ _ _ _ (ap named (sym c.in-Replay.is)) c.replay.ensures.ends

pub returns-in-Trace-clause-ends : goal.returns-in-Trace-clause-ends
returns-in-Trace-clause-ends g c =
    let read = c.trace.ensures.ends in
    let given : Given = record {
      fetched = bytes_of c.fetch-fetched-in-Trace.result ∷ [];
      taken = read.0;
      stop = read.1;
      operators = lent c.args.host.now;
    } in
    ends_with _ _ given _ _ _ (ap named (sym c.in-Trace.is))
    (record { shelf = (_, c.fetch-fetched-in-Trace.ensures.fetched, refl); source = read.2; unread = read.3; operators = refl })
    (trace_met _ (record { file = c.in-Trace.words.file.now; scale = c.in-Trace.words.scale; lead = c.in-Trace.words.lead; instants = c.in-Trace.words.instants }) c.in-Trace.words.workers given _ _ _ _ _ read.4)
