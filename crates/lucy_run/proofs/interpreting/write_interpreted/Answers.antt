use Rattle.std.proofs.Common.{ap, sym, refl, ◌∙◌, Err, length}
use Rattle.std.proofs.lemmas.Result.{IfErr-at_err}
use Rattle.lucy_host.specs.Host.{lent}
use Rattle.lucy_host.specs.Operators.{kinds_of}
use Rattle.lucy_results.specs.Running.{RefusesStreams}
use Rattle.lucy_results.specs.Streams.{param_words}
use Rattle.lucy_results.proofs.StreamLaws.{params_count}
use Rattle.lucy_run.specs.Owes.{most_instants}
use Rattle.lucy_run.proofs.HorizonLaws.{some_horizon}
use Rattle.lucy_run.proofs.EndsLaws.{on_ok, refused_ends, lines_interpreted, interpreted_failed}
use Rattle.lucy_run.proofs.interpreting.write_interpreted.Goals as goal

pub extent_of-requires-clause-lists : goal.extent_of-requires-clause-lists
extent_of-requires-clause-lists g c =
    sym (ap length c.param_words-words.ensures.words ∙ params_count c.args.placed.now.nodes c.args.clocks.now ∙ c.requires.inputs)

pub returns-in-Err-clause-ends : goal.returns-in-Err-clause-ends
returns-in-Err-clause-ends g c =
    let (horizon, is) = some_horizon (param_words c.args.placed.now.nodes c.args.clocks.now) c.args.feed.items (most_instants c.args.given) in
    (horizon, is, refl)

pub returns-in-Err-interpret-clause-ends : goal.returns-in-Err-interpret-clause-ends
returns-in-Err-interpret-clause-ends g c =
    let kinds = kinds_of (lent c.args.host.now) in
    let words = c.param_words-words.result.now in
    let refused = IfErr-at_err (RefusesStreams kinds c.args.feed.items c.args.placed.now.nodes c.args.clocks.now c.in-Ok.extent.horizon) c.in-Err-interpret.is c.interpret.ensures.refused in
    let is = c.in-Ok.ensures.horizon in
    refused_ends kinds c.args.placed.now.nodes c.args.clocks.now c.args.outputs.now c.args.given c.args.feed.items c.args.feed.stop c.in-Ok.extent.horizon words c.in-Err-interpret.error _
    c.refused.result c.param_words-words.ensures.words is c.refused.ensures refused

pub returns-in-Ok-write_outputs-clause-ends : goal.returns-in-Ok-write_outputs-clause-ends
returns-in-Ok-write_outputs-clause-ends g c =
    let kinds = kinds_of (lent c.args.host.now) in
    let words = c.param_words-words.result.now in
    let is = c.in-Ok.ensures.horizon in
    lines_interpreted kinds c.args.placed.now.nodes c.args.clocks.now c.args.outputs.now c.args.given c.args.feed.items c.args.feed.stop c.in-Ok.extent.horizon c.interpret.result
    c.in-Ok-interpret.streams c.in-Ok-interpret.is c.interpret.ensures.ok c.interpret.ensures.turns.1 c.interpret.ensures.items words c.param_words-words.ensures.words is
    c.in-Ok.extent.ending _ _ c.in-Ok.ensures.ending (on_ok _ _ c.in-Ok-write_outputs.is c.write_outputs.ensures.ok)

pub returns-in-Err-Failed-clause-ends : goal.returns-in-Err-Failed-clause-ends
returns-in-Err-Failed-clause-ends g c =
    let kinds = kinds_of (lent c.args.host.now) in
    let words = c.param_words-words.result.now in
    let is = c.in-Ok.ensures.horizon in
    interpreted_failed kinds c.args.placed.now.nodes c.args.clocks.now c.args.outputs.now c.args.given c.args.feed.items c.args.feed.stop c.in-Ok.extent.horizon c.interpret.result
    c.in-Ok-interpret.streams c.in-Ok-interpret.is c.interpret.ensures.ok c.interpret.ensures.turns.1 c.interpret.ensures.items words c.param_words-words.ensures.words is
    c.in-Ok.extent.ending _ _ c.in-Ok.ensures.ending (c.write_outputs.ensures.failed (c.in-Err-Failed.is ∙ ap Err c.in-Err-Failed.field-0-is))

pub returns-clause-ends : goal.returns-clause-ends
returns-clause-ends g c =
    let (horizon, is) = some_horizon (param_words c.args.placed.now.nodes c.args.clocks.now) c.args.feed.items (most_instants c.args.given) in
    (horizon, is, ap g.O.Sink.seen (c.write_outputs.ensures.out_of_memory (c.in-Err-OutOfMemory.is ∙ ap Err c.in-Err-OutOfMemory.field-0-is)))
