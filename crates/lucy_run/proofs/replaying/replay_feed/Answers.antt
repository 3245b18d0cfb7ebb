use Rattle.std.proofs.Common.{◌≤◌, List, length, ap, sym, refl, ◌∙◌, subst, arith}
use Rattle.lucy_word.specs.Bits.{Bits}
use Rattle.lucy_host.specs.Host.{lent}
use Rattle.lucy_host.specs.Operators.{Operator}
use Rattle.lucy_core.specs.Seen.{Seen, CanMakeCore, done_of, first_seen}
use Rattle.lucy_results.specs.Streams.{param_words}
use Rattle.lucy_results.proofs.StreamLaws.{params_count}
use Rattle.lucy_results.proofs.OutputLaws.{first_unbegun}
use Rattle.lucy_run.specs.Owes.{most_instants, IsHorizonOf}
use Rattle.lucy_run.specs.Steps.{JudgesFrom, LeavesJudged}
use Rattle.lucy_run.proofs.HorizonLaws.{some_horizon, few_most}
use Rattle.lucy_run.proofs.EndsLaws.{ends_whole}
use Rattle.lucy_run.proofs.replaying.replay_feed.Goals as goal

pub extent_of-requires-clause-lists : goal.extent_of-requires-clause-lists
extent_of-requires-clause-lists g c =
    sym (ap length c.param_words-words.ensures.words ∙ params_count c.args.placed.now.nodes c.args.clocks.now ∙ c.requires.inputs)

pub returns-in-Err-clause-left : goal.returns-in-Err-clause-left
returns-in-Err-clause-left g c =
    let (horizon, is) = some_horizon (param_words c.args.placed.now.nodes c.args.clocks.now) c.args.feed.items (most_instants c.args.given) in
    (horizon, is, refl)

pub new-requires : goal.new-requires
new-requires g c =
    let nodes = c.args.placed.now.nodes in
    let horizon_is = subst (λ (ws : List Bits). IsHorizonOf ws c.args.given c.args.feed.items c.in-Ok.extent.horizon) c.param_words-words.ensures.words c.in-Ok.ensures.horizon in
    let early : c.in-Ok.extent.horizon ≤ 1048576 = omega (arith, horizon_is.within, few_most c.args.given c.requires.few) in
    let fixed = c.nets_can_be_run.ensures.fixed nodes c.args.clocks.now c.args.net c.args.schedule c.args.feed.items (lent c.args.host.now) c.in-Ok.extent.horizon c.nodes.ensures.proper
    c.requires.known c.requires.flat c.requires.sound horizon_is.suffice early in
    subst (λ (ops : List Operator). CanMakeCore c.args.net c.args.schedule c.args.feed.items ops c.in-Ok.extent.horizon) (sym c.ops.ensures) fixed

pub judge-ending-requires-clause-unbegun : goal.judge-ending-requires-clause-unbegun
judge-ending-requires-clause-unbegun g c κs within = λ a.
    ap (λ (s : Seen). done_of s.done a) c.in-Ok-new.ensures ∙ first_unbegun c.args.net c.args.schedule c.args.feed.items c.ops.result.now c.in-Ok.extent.horizon a

pub judge-ending-requires-clause-whole : goal.judge-ending-requires-clause-whole
judge-ending-requires-clause-whole g c κs within =
    ends_whole c.param_words-words.result.now c.args.given c.args.feed.items c.args.feed.stop c.in-Ok.extent.ending c.in-Ok.ensures.ending

pub returns-in-Ok-new-clause-left : goal.returns-in-Ok-new-clause-left
returns-in-Ok-new-clause-left g c =
    let nodes = c.args.placed.now.nodes in
    let horizon = c.in-Ok.extent.horizon in
    let words = c.param_words-words.result.now in
    let of_words = c.param_words-words.ensures.words in
    let horizon_is = subst (λ (ws : List Bits). IsHorizonOf ws c.args.given c.args.feed.items horizon) of_words c.in-Ok.ensures.horizon in
    let core_is = c.in-Ok-new.ensures ∙ ap (λ (ops : List Operator). first_seen c.args.net c.args.schedule c.args.feed.items ops horizon) c.ops.ensures in
    let left = c.judge-ending.ensures.left words c.args.given c.args.feed.items c.args.feed.stop c.in-Ok.ensures.ending in
    let P : Seen → Type 0 = λ s. LeavesJudged (JudgesFrom s nodes c.args.outputs.now words c.args.given c.args.feed.items c.args.feed.stop c.args.picks.now)
    (g.O.Sink.seen c.args.out.now) (g.O.Sink.seen c.judge-ending.new.out) c.judge-ending.result in
    let Q : List Bits → Type 0 = λ ws. LeavesJudged (JudgesFrom (first_seen c.args.net c.args.schedule c.args.feed.items (lent c.args.host.now) horizon) nodes c.args.outputs.now ws
    c.args.given c.args.feed.items c.args.feed.stop c.args.picks.now) (g.O.Sink.seen c.args.out.now) (g.O.Sink.seen c.judge-ending.new.out) c.judge-ending.result in
    (horizon, horizon_is, subst Q of_words (subst P core_is left))

pub returns-in-Err-new-clause-left : goal.returns-in-Err-new-clause-left
returns-in-Err-new-clause-left g c =
    let horizon_is = subst (λ (ws : List Bits). IsHorizonOf ws c.args.given c.args.feed.items c.in-Ok.extent.horizon) c.param_words-words.ensures.words c.in-Ok.ensures.horizon in
    (c.in-Ok.extent.horizon, horizon_is, refl)
