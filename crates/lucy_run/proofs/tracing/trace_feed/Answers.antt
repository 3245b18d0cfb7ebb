use Rattle.std.proofs.Common.{◌≤◌, List, length, ap, sym, ◌∙◌, subst, arith}
use Rattle.lucy_word.specs.Bits.{Bits}
use Rattle.lucy_host.specs.Host.{lent}
use Rattle.lucy_results.specs.Streams.{param_words}
use Rattle.lucy_results.proofs.StreamLaws.{params_count}
use Rattle.lucy_run.specs.Owes.{most_instants, IsHorizonOf}
use Rattle.lucy_run.proofs.HorizonLaws.{some_horizon, few_most}
use Rattle.lucy_run.proofs.EndsLaws.{ends_whole}
use Rattle.lucy_run.proofs.TracingLaws.{front_nothing, left_so}
use Rattle.lucy_run.proofs.tracing.trace_feed.Goals as goal

pub extent_of-requires-clause-lists : goal.extent_of-requires-clause-lists
extent_of-requires-clause-lists g c =
    sym (ap length c.param_words-words.ensures.words ∙ params_count c.args.placed.now.nodes c.args.clocks.now ∙ c.requires.inputs)

pub trace_net-requires-clause-fixed : goal.trace_net-requires-clause-fixed
trace_net-requires-clause-fixed g c κs within =
    let nodes = c.args.placed.now.nodes in
    let horizon_is =
    subst (λ (ws : List Bits). IsHorizonOf ws c.args.given c.args.feed.items c.in-Ok.extent.horizon) c.param_words-words.ensures.words
    c.in-Ok.ensures.horizon in
    let early : c.in-Ok.extent.horizon ≤ 1048576 = omega (arith, horizon_is.within, few_most c.args.given c.requires.few) in
    c.nets_can_be_run.ensures.fixed nodes c.args.clocks.now c.args.net c.args.schedule c.args.feed.items (lent c.args.host.now)
    c.in-Ok.extent.horizon
    c.nodes.ensures.proper c.requires.known c.requires.flat c.requires.sound horizon_is.suffice early

pub trace_net-requires-clause-count : goal.trace_net-requires-clause-count
trace_net-requires-clause-count g c κs within =
    sym (ap length c.param_words-words.ensures.words ∙ params_count c.args.placed.now.nodes c.args.clocks.now ∙ c.requires.inputs)

pub trace_net-requires-clause-whole : goal.trace_net-requires-clause-whole
trace_net-requires-clause-whole g c κs within =
    ends_whole c.param_words-words.result.now c.args.given c.args.feed.items c.args.feed.stop c.in-Ok.extent.ending c.in-Ok.ensures.ending

pub returns-in-Ok-clause-left : goal.returns-in-Ok-clause-left
returns-in-Ok-clause-left g c =
    left_so c.args.net c.param_words-words.result.now (param_words c.args.placed.now.nodes c.args.clocks.now) c.args.given c.args.feed
    c.in-Ok.extent.horizon
    c.in-Ok.extent.ending _ _ c.trace_net.result c.param_words-words.ensures.words c.in-Ok.ensures.horizon c.in-Ok.ensures.ending
    c.trace_net.ensures.left

pub returns-in-Err-clause-left : goal.returns-in-Err-clause-left
returns-in-Err-clause-left g c =
    let (horizon, is) = some_horizon (param_words c.args.placed.now.nodes c.args.clocks.now) c.args.feed.items
    (most_instants c.args.given) in
    (horizon, is, front_nothing _ _)
