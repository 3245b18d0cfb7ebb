use Rattle.std.proofs.Common.{List, length, ap, sym, refl, ◌∙◌, subst, inl, arith}
use Rattle.lucy_word.specs.Bits.{Bits}
use Rattle.lucy_host.specs.Host.{lent}
use Rattle.lucy_clock.specs.declared.node_clock.NodeClock.{NodeClock}
use Rattle.lucy_flat.specs.Clocked.{AreClocked}
use Rattle.lucy_kahn.specs.Horizons.{Suffice}
use Rattle.lucy_results.specs.Streams.{param_words}
use Rattle.lucy_results.proofs.StreamLaws.{params_count}
use Rattle.lucy_run.specs.Owes.{IsHorizonOf, EndsFor}
use Rattle.lucy_run.proofs.HorizonLaws.{few_most}
use Rattle.lucy_run.proofs.playing.play_by.Goals as goal

pub param_words-words-requires : goal.param_words-words-requires
param_words-words-requires g c =
    subst (AreClocked c.args.accepted.now.placed.nodes) (sym c.deref.ensures.value)
    (c.accepted_programs_are_clocked.ensures.clocked (lent c.args.host.now) c.requires.accepted.1 c.requires.accepted.0 c.args.accepted.now
    c.requires.accepted.2)

pub extent_of-requires-clause-lists : goal.extent_of-requires-clause-lists
extent_of-requires-clause-lists g c =
    let a = c.args.accepted.now in
    let same = c.param_words-words.ensures.words ∙ ap (λ (cs : List NodeClock). param_words a.placed.nodes cs) c.deref.ensures.value in
    sym (ap length same ∙ params_count a.placed.nodes a.clocks.items ∙ c.requires.inputs)

pub play-requires-clause-can : goal.play-requires-clause-can
play-requires-clause-can g c =
    let a = c.args.accepted.now in
    let same = c.param_words-words.ensures.words ∙ ap (λ (cs : List NodeClock). param_words a.placed.nodes cs) c.deref.ensures.value in
    let is = c.in_ok-extent.ensures.horizon in
    record {
      accepted = c.requires.accepted;
      lists = c.requires.inputs;
      suffice = subst (λ (u : List Bits). Suffice u c.args.feed.items c.in_ok-extent.extent.horizon) same is.suffice;
      early = omega (arith, is.within, few_most c.args.given c.requires.few);
      some_worker = omega (arith, c.requires.workers.0);
      few_workers = omega (arith, c.requires.workers.0, c.requires.workers.1);
    }

pub returns-in_err-streams-clause-asks : goal.returns-in_err-streams-clause-asks
returns-in_err-streams-clause-asks g c =
    let a = c.args.accepted.now in
    let same = c.param_words-words.ensures.words ∙ ap (λ (cs : List NodeClock). param_words a.placed.nodes cs) c.deref.ensures.value in
    let extent = c.in_ok-extent.extent in
    let horizon_is = subst (λ (u : List Bits). IsHorizonOf u c.args.given c.args.feed.items extent.horizon) same c.in_ok-extent.ensures.horizon in
    inl (record { instants = extent.horizon; workers = c.args.workers }, (horizon_is, refl), c.play.ensures.tells)

pub returns-clause-asks : goal.returns-clause-asks
returns-clause-asks g c =
    let a = c.args.accepted.now in
    let same = c.param_words-words.ensures.words ∙ ap (λ (cs : List NodeClock). param_words a.placed.nodes cs) c.deref.ensures.value in
    let extent = c.in_ok-extent.extent in
    let horizon_is = subst (λ (u : List Bits). IsHorizonOf u c.args.given c.args.feed.items extent.horizon) same c.in_ok-extent.ensures.horizon in
    inl (record { instants = extent.horizon; workers = c.args.workers }, (horizon_is, refl), c.play.ensures.tells)

pub returns-clause-played : goal.returns-clause-played
returns-clause-played g c =
    let a = c.args.accepted.now in
    let same = c.param_words-words.ensures.words ∙ ap (λ (cs : List NodeClock). param_words a.placed.nodes cs) c.deref.ensures.value in
    let extent = c.in_ok-extent.extent in
    record {
      horizon_is = subst (λ (u : List Bits). IsHorizonOf u c.args.given c.args.feed.items extent.horizon) same c.in_ok-extent.ensures.horizon;
      streams_are = c.in_ok-streams.ensures.played;
      ends = subst (λ (u : List Bits). EndsFor u c.args.given c.args.feed.items c.args.feed.stop extent.ending) same c.in_ok-extent.ensures.ending;
    }
