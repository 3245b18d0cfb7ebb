use Rattle.std.proofs.Common.{[], ◌∷◌, refl, inl}
use Rattle.lucy_host.specs.Host.{lent}
use Rattle.lucy_text.specs.Sources.{Unread}
use Rattle.lucy_command.specs.Commands.{ProgramWords, Replay}
use Rattle.lucy_app.specs.Commands.{inferring_options}
use Rattle.lucy_app.specs.World.{Given}
use Rattle.lucy_app.specs.Outcomes.{bytes_of}
use Rattle.lucy_app.proofs.Sinks.{ends_with}
use Rattle.lucy_app.proofs.Replays.{read_nothing, accepting_moves, unlogged, logged_ends, reads_source}
use Rattle.lucy_app.proofs.replaying.replay.Goals as goal

pub returns-in-Err-clause-ends : goal.returns-in-Err-clause-ends
returns-in-Err-clause-ends g c =
    let words : ProgramWords = record { file = c.args.words.file.now; scale = c.args.words.scale; lead = c.args.words.lead; instants = c.args.words.instants } in
    let name = c.args.words.log.now in
    let ops = lent c.args.host.now in
    let file = bytes_of c.fetch-file.result in
    let accepting = accepting_moves c.ops.result.now ops c.inferring-options.result (inferring_options words.scale words.lead) words.instants (file ∷ []) c.accepted.result c.ops.ensures
    c.inferring-options.ensures.is c.accepted.ensures.accepting in
    let given : Given = record { fetched = file ∷ []; taken = []; stop = Unread; operators = ops } in
    ends_with _ (Replay words name) given _ _ _ refl
    (record { shelf = (_, c.fetch-file.ensures.fetched, refl); source = read_nothing _; unread = inl refl; operators = refl })
    (unlogged words name ops file c.accepted.result accepting c.in-Err.refusal c.in-Err.is _ _ _ _ _ refl c.refuse.ensures.told)

pub returns-in-Ok-clause-ends : goal.returns-in-Ok-clause-ends
returns-in-Ok-clause-ends g c =
    let words : ProgramWords = record { file = c.args.words.file.now; scale = c.args.words.scale; lead = c.args.words.lead; instants = c.args.words.instants } in
    let name = c.args.words.log.now in
    let ops = lent c.args.host.now in
    let file = bytes_of c.fetch-file.result in
    let log = bytes_of c.fetch-log.result in
    let accepting = accepting_moves c.ops.result.now ops c.inferring-options.result (inferring_options words.scale words.lead) words.instants (file ∷ []) c.accepted.result c.ops.ensures
    c.inferring-options.ensures.is c.accepted.ensures.accepting in
    let (taken, stop, read, behind, left) = c.replay_log.ensures.ends in
    let given : Given = record { fetched = file ∷ (log ∷ []); taken = taken; stop = stop; operators = ops } in
    ends_with _ (Replay words name) given _ _ _ refl
    (record {
      shelf = (_, c.fetch-file.ensures.fetched, (_, c.fetch-log.ensures.fetched, refl));
      source = read;
      unread = reads_source words name ops file c.accepted.result accepting c.in-Ok.accepted c.in-Ok.is log taken stop _ _ behind;
      operators = refl;
    })
    (logged_ends words name ops file c.accepted.result accepting c.in-Ok.accepted c.in-Ok.is log taken stop _ _ _ _ _ left)
