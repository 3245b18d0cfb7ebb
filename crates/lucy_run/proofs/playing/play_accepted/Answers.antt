use Rattle.std.proofs.Common.{◌≡◌, ◌<◌, ◌^◌, List, length, ap, sym, refl, ◌∙◌, subst, arith}
use Rattle.std.proofs.lemmas.List.{length-map}
use Rattle.lucy_host.specs.Host.{lent}
use Rattle.lucy_host.specs.Operators.{kinds_of}
use Rattle.lucy_lines.specs.declared.input.InputSpec.{InputSpec}
use Rattle.lucy_lines.specs.Feeding.{IsAsked}
use Rattle.lucy_kahn.specs.Spots.{main_of, results_in}
use Rattle.lucy_run.specs.Feeds.{IsMainFeed}
use Rattle.lucy_run.proofs.AcceptedLaws.{inputs_count, outputs_count, few_inputs}
use Rattle.lucy_run.proofs.EndsLaws.{on_ok}
use Rattle.lucy_run.proofs.EngineLaws.{engine_unbegun, engine_headless, engine_unfed, engine_unplayed, engine_played}
use Rattle.lucy_run.proofs.playing.play_accepted.Goals as goal

pub returns-in-Err-clause-ends : goal.returns-in-Err-clause-ends
returns-in-Err-clause-ends g c =
    engine_unbegun (kinds_of (lent c.args.host.now)) c.args.accepted.now c.args.instants c.args.workers _ _ refl _ _

pub returns-in-Err-write_heading-clause-ends : goal.returns-in-Err-write_heading-clause-ends
returns-in-Err-write_heading-clause-ends g c =
    engine_headless (kinds_of (lent c.args.host.now)) c.args.accepted.now c.args.instants c.args.workers _ _ refl _ _ _ _
    c.in-Err-write_heading.ensures.err

pub write_heading-requires : goal.write_heading-requires
write_heading-requires g c = (lent c.args.host.now, c.requires.accepted)

pub main_feed-requires : goal.main_feed-requires
main_feed-requires g c =
    let same : c.in-Ok.inputs.items ≡ c.args.accepted.now.inputs.items = c.in-Ok.ensures ∙ c.deref.ensures.value in
    let few = few_inputs _ c.requires.accepted.0 c.requires.accepted.1 c.args.accepted.now c.requires.accepted.2 in
    subst (λ (u : List InputSpec). length u < 2 ^ 32) (sym same) few

pub returns-in-Err-main_feed-clause-ends : goal.returns-in-Err-main_feed-clause-ends
returns-in-Err-main_feed-clause-ends g c =
    let a = c.args.accepted.now in
    let same : c.in-Ok.inputs.items ≡ a.inputs.items = c.in-Ok.ensures ∙ c.deref.ensures.value in
    let head = on_ok _ _ c.in-Ok-write_heading.is c.write_heading.ensures.ok in
    let (taken, stop, read, asked, fed) = c.main_feed.ensures.fed in
    engine_unfed (kinds_of (lent c.args.host.now)) a c.args.instants c.args.workers _ _ refl (g.I.Source.seen c.args.source.now) (g.I.Source.seen
    c.main_feed.new.source)
    (g.O.Sink.seen c.args.out.now) (g.O.Sink.seen c.write_heading.new.out) taken stop head read
    (subst (λ (u : List InputSpec). IsAsked u taken) same asked)
    (subst (IsMainFeed c.in-Ok.inputs.items taken stop) c.in-Err-main_feed.is fed)

pub returns-in-Err-main_feed-clause-unread : goal.returns-in-Err-main_feed-clause-unread
returns-in-Err-main_feed-clause-unread g c =
    let same : c.in-Ok.inputs.items ≡ c.args.accepted.now.inputs.items = c.in-Ok.ensures ∙ c.deref.ensures.value in
    λ none. c.main_feed.ensures.unread (same ∙ none)

pub play_by-requires-clause-inputs : goal.play_by-requires-clause-inputs
play_by-requires-clause-inputs g c =
    let a = c.args.accepted.now in
    let same : c.in-Ok.inputs.items ≡ a.inputs.items = c.in-Ok.ensures ∙ c.deref.ensures.value in
    sym (c.in-Ok-main_feed.ensures.lists ∙ ap length same ∙ inputs_count _ c.requires.accepted.0 c.requires.accepted.1 a
    c.requires.accepted.2)

pub write_played-requires : goal.write_played-requires
write_played-requires g c =
    let a = c.args.accepted.now in
    let streams = ap length c.in-Ok-play_by.ensures.played.streams_are ∙ length-map (results_in (main_of a.placed.nodes)) _ in
    let outputs = ap length c.deref-in-Ok-play_by.ensures.value ∙ outputs_count _ c.requires.accepted.0 c.requires.accepted.1 a
    c.requires.accepted.2 in
    omega arith

pub returns-in-Ok-play_by-clause-ends : goal.returns-in-Ok-play_by-clause-ends
returns-in-Ok-play_by-clause-ends g c =
    let a = c.args.accepted.now in
    let same : c.in-Ok.inputs.items ≡ a.inputs.items = c.in-Ok.ensures ∙ c.deref.ensures.value in
    let head = on_ok _ _ c.in-Ok-write_heading.is c.write_heading.ensures.ok in
    let (taken, stop, read, asked, fed) = c.main_feed.ensures.fed in
    engine_played (kinds_of (lent c.args.host.now)) a c.args.instants c.args.workers (g.N.Engine.asked c.args.engine.now)
    (g.N.Engine.asked c.play_by.new.engine) (g.I.Source.seen c.args.source.now) (g.I.Source.seen
    c.main_feed.new.source)
    taken stop read (subst (λ (u : List InputSpec). IsAsked u taken) same asked) c.main_feed.result c.in-Ok-main_feed.feed
    c.in-Ok-main_feed.is
    (subst (λ (u : List InputSpec). IsMainFeed u taken stop c.main_feed.result) same fed)
    (g.O.Sink.seen c.args.out.now) (g.O.Sink.seen c.write_heading.new.out) head _ c.play_by.ensures.asks (on_ok _ _ c.in-Ok-play_by.is)
    c.in-Ok-play_by.played c.in-Ok-play_by.ensures.played c.deref-in-Ok-play_by.result.now c.deref-in-Ok-play_by.ensures.value
    (g.O.Sink.seen c.write_played.new.out) c.write_played.result c.write_played.ensures.written

pub returns-in-Ok-play_by-clause-unread : goal.returns-in-Ok-play_by-clause-unread
returns-in-Ok-play_by-clause-unread g c =
    let same : c.in-Ok.inputs.items ≡ c.args.accepted.now.inputs.items = c.in-Ok.ensures ∙ c.deref.ensures.value in
    λ none. c.main_feed.ensures.unread (same ∙ none)

pub returns-in-Err-play_by-clause-ends : goal.returns-in-Err-play_by-clause-ends
returns-in-Err-play_by-clause-ends g c =
    let a = c.args.accepted.now in
    let same : c.in-Ok.inputs.items ≡ a.inputs.items = c.in-Ok.ensures ∙ c.deref.ensures.value in
    let head = on_ok _ _ c.in-Ok-write_heading.is c.write_heading.ensures.ok in
    let (taken, stop, read, asked, fed) = c.main_feed.ensures.fed in
    engine_unplayed (kinds_of (lent c.args.host.now)) a c.args.instants c.args.workers (g.N.Engine.asked c.args.engine.now)
    (g.N.Engine.asked c.play_by.new.engine) (g.I.Source.seen c.args.source.now) (g.I.Source.seen
    c.main_feed.new.source)
    taken stop read (subst (λ (u : List InputSpec). IsAsked u taken) same asked) c.main_feed.result c.in-Ok-main_feed.feed
    c.in-Ok-main_feed.is
    (subst (λ (u : List InputSpec). IsMainFeed u taken stop c.main_feed.result) same fed)
    (g.O.Sink.seen c.args.out.now) (g.O.Sink.seen c.write_heading.new.out) head _ c.play_by.ensures.asks

pub returns-in-Err-play_by-clause-unread : goal.returns-in-Err-play_by-clause-unread
returns-in-Err-play_by-clause-unread g c =
    let same : c.in-Ok.inputs.items ≡ c.args.accepted.now.inputs.items = c.in-Ok.ensures ∙ c.deref.ensures.value in
    λ none. c.main_feed.ensures.unread (same ∙ none)
