use Rattle.std.proofs.Common.{[], ◌∷◌, refl, ap, sym, inl}
use Rattle.lucy_host.specs.Host.{lent}
use Rattle.lucy_text.specs.Sources.{Unread}
use Rattle.lucy_command.specs.Named.{named}
use Rattle.lucy_app.specs.Outcomes.{bytes_of}
use Rattle.lucy_app.specs.World.{Given}
use Rattle.lucy_app.proofs.Outcomes.{report_met, check_met, tight_met}
use Rattle.lucy_app.proofs.Sinks.{ends_some}
use Rattle.lucy_app.proofs.looking.look.Goals as goal

pub returns-in-Show-clause-ends : goal.returns-in-Show-clause-ends
returns-in-Show-clause-ends g c source =
    ends_some _ _ (record { fetched = bytes_of c.fetch-fetched.result ∷ []; taken = []; stop = Unread; operators = lent c.args.host.now }) c.answer.result _ _ _ (ap named (sym c.in-Show.is))
    (record { shelf = (_, c.fetch-fetched.ensures.fetched, refl); source = (refl, refl, refl); unread = inl refl; operators = refl }) refl tt c.answer.ensures.outcome c.finish.ensures.delivers

pub returns-in-Types-clause-ends : goal.returns-in-Types-clause-ends
returns-in-Types-clause-ends g c source =
    ends_some _ _ (record { fetched = bytes_of c.fetch-fetched-in-Types.result ∷ []; taken = []; stop = Unread; operators = lent c.args.host.now }) c.answer-in-Types.result _ _ _ (ap named (sym c.in-Types.is))
    (record { shelf = (_, c.fetch-fetched-in-Types.ensures.fetched, refl); source = (refl, refl, refl); unread = inl refl; operators = refl })
    refl tt (report_met _ _ (bytes_of c.fetch-fetched-in-Types.result ∷ []) _ c.ops.ensures c.answer-in-Types.ensures.outcome) c.finish-in-Types.ensures.delivers

pub returns-in-Check-clause-ends : goal.returns-in-Check-clause-ends
returns-in-Check-clause-ends g c source =
    ends_some _ _ (record { fetched = bytes_of c.fetch-fetched-in-Check.result ∷ []; taken = []; stop = Unread; operators = lent c.args.host.now }) c.answer-answer.result _ _ _ (ap named (sym c.in-Check.is))
    (record { shelf = (_, c.fetch-fetched-in-Check.ensures.fetched, refl); source = (refl, refl, refl); unread = inl refl; operators = refl })
    refl tt (check_met _ _ _ _ (bytes_of c.fetch-fetched-in-Check.result ∷ []) _ c.ops-in-Check.ensures c.written.ensures.is c.answer-answer.ensures.outcome) c.finish-in-Check.ensures.delivers

pub returns-in-Clocks-clause-ends : goal.returns-in-Clocks-clause-ends
returns-in-Clocks-clause-ends g c source =
    ends_some _ _ (record { fetched = bytes_of c.fetch-fetched-in-Clocks.result ∷ []; taken = []; stop = Unread; operators = lent c.args.host.now }) c.answer-answer-in-Clocks.result _ _ _ (ap named (sym c.in-Clocks.is))
    (record { shelf = (_, c.fetch-fetched-in-Clocks.ensures.fetched, refl); source = (refl, refl, refl); unread = inl refl; operators = refl })
    refl tt (check_met _ _ _ _ (bytes_of c.fetch-fetched-in-Clocks.result ∷ []) _ c.ops-in-Clocks.ensures c.inferring-options.ensures.is c.answer-answer-in-Clocks.ensures.outcome) c.finish-in-Clocks.ensures.delivers

pub returns-in-Tighten-clause-ends : goal.returns-in-Tighten-clause-ends
returns-in-Tighten-clause-ends g c source =
    let fetched = bytes_of c.fetch-fetched-in-Tighten.result ∷ [] in
    let given : Given = record { fetched = fetched; taken = []; stop = Unread; operators = lent c.args.host.now } in
    ends_some _ _ given c.answer-answer-in-Tighten.result _ _ _ (ap named (sym c.in-Tighten.is))
    (record { shelf = (_, c.fetch-fetched-in-Tighten.ensures.fetched, refl); source = (refl, refl, refl); unread = inl refl; operators = refl })
    refl tt (tight_met _ _ _ c.in-Tighten.words.node.now c.in-Tighten.words.buffer fetched _ c.ops-in-Tighten.ensures c.answer-answer-in-Tighten.ensures.outcome) c.finish-in-Tighten.ensures.delivers
