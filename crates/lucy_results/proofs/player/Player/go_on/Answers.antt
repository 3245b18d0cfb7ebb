use Rattle.std.proofs.Common.{length, ap, sym, ◌∙◌, subst}
use Rattle.lucy_kahn.specs.Horizons.{Suffice}
use Rattle.lucy_results.specs.Streams.{param_words}
use Rattle.lucy_results.specs.Playing.{PlayerView, joined}
use Rattle.lucy_results.proofs.PlayLaws.{supplied_on, played_on, on_is}
use Rattle.lucy_results.proofs.player.Player.go_on.Goals as goal

pub more-requires-clause-supplied : goal.more-requires-clause-supplied
more-requires-clause-supplied g c =
    let x = c.self.inside in
    let same = ap (λ (v : PlayerView). length v.inputs) c.self.view_is in
    supplied_on x.placed.now.nodes x.clocks.now c.nodes.ensures.proper x.runner.seen.net c.self.invariant.flat x.runner.seen.inputs c.args.added.now c.args.instants c.self.invariant.inputs (same ∙ sym c.requires.inputs)
    (subst (λ (v : PlayerView). Suffice (param_words v.nodes v.clocks) (joined v.inputs c.args.added.now) c.args.instants) (sym c.self.view_is) c.requires.suffice)

pub invariant_of-self-2 : goal.invariant_of-self-2
invariant_of-self-2 g c =
    let x = c.self.inside in
    let same = ap (λ (v : PlayerView). length v.inputs) c.self.view_is in
    played_on x.placed.now.nodes x.clocks.now c.nodes.ensures.proper x.runner c.more.new.self c.go.new.self c.args.added.now c.args.instants c.go.ensures.run.0 c.self.invariant (c.requires.inputs ∙ sym same) c.in_ok-more.ensures.ok
    c.go.ensures.run.2 c.go.ensures.finished

pub returns-clause-ok : goal.returns-clause-ok
returns-clause-ok g c =
    let x = c.self.inside in
    let same = ap (λ (v : PlayerView). length v.inputs) c.self.view_is in
    on_is x.placed.now.nodes x.clocks.now c.nodes.ensures.proper x.runner c.more.new.self c.go.new.self c.args.added.now c.args.instants c.go.ensures.run.0 c.self.invariant (c.requires.inputs ∙ sym same) c.in_ok-more.ensures.ok
    c.go.ensures.run.2 c.go.ensures.before c.go.ensures.crew
    ∙ ap (λ (v : PlayerView). record v { inputs = joined v.inputs c.args.added.now; instants = c.args.instants; before = v.instants }) c.self.view_is
