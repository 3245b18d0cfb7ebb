use Rattle.std.proofs.Common.{◌≡◌, ℕ, List, Option, ap, sym, refl, ◌∙◌, subst, arith}
use Rattle.lucy_word.specs.Bits.{Bits}
use Rattle.lucy_text.specs.Outside.{Writes, Fails}
use Rattle.std.specs.Prelude.{ℤ, length}
use Rattle.lucy_host.specs.Host.{lent}
use Rattle.lucy_host.specs.Operators.{kinds_of}
use Rattle.lucy_place.specs.declared.placed.PlacedNode.{PlacedNode}
use Rattle.lucy_clock.specs.declared.node_clock.NodeClock.{NodeClock}
use Rattle.lucy_results.specs.Streams.{param_words}
use Rattle.lucy_results.proofs.StreamLaws.{params_count}
use Rattle.lucy_run.specs.Owes.{most_instants, IsHorizonOf, EndsFor}
use Rattle.lucy_run.proofs.HorizonLaws.{some_horizon, few_most}
use Rattle.lucy_run.proofs.EndsLaws.{on_ok, on_err}
use Rattle.lucy_wave.proofs.WaveLaws.{wave_written, wave_failed}
use Rattle.lucy_wave.proofs.waving.wave_feed.Goals as goal

pub extent_of-requires-clause-lists : goal.extent_of-requires-clause-lists
extent_of-requires-clause-lists g c =
    sym (ap length c.param_words-words.ensures.words ∙ params_count c.args.placed.now.nodes c.args.clocks.now ∙ c.requires.inputs)

pub returns-in-Err-clause-left : goal.returns-in-Err-clause-left
returns-in-Err-clause-left g c =
    let (horizon, is) = some_horizon (param_words c.args.placed.now.nodes c.args.clocks.now) c.args.feed.items (most_instants c.args.given) in
    (horizon, is, refl)

-- the horizon, by the words of main's parameters
horizon_is : (nodes : List PlacedNode) (clocks : List NodeClock) (given : Option ℕ) (lists : List (List ℤ)) (horizon : ℕ) (words : List Bits) → words ≡ param_words nodes clocks → IsHorizonOf words given lists horizon →
    IsHorizonOf (param_words nodes clocks) given lists horizon
horizon_is nodes clocks given lists horizon words of is = subst (λ (ws : List Bits). IsHorizonOf ws given lists horizon) of is

pub dumped-requires-clause-suffice : goal.dumped-requires-clause-suffice
dumped-requires-clause-suffice g c κs within =
    (horizon_is c.args.placed.now.nodes c.args.clocks.now c.args.given c.args.feed.items c.in-Ok.extent.horizon _ c.param_words-words.ensures.words c.in-Ok.ensures.horizon).suffice

pub dumped-requires-clause-early : goal.dumped-requires-clause-early
dumped-requires-clause-early g c κs within =
    let is = horizon_is c.args.placed.now.nodes c.args.clocks.now c.args.given c.args.feed.items c.in-Ok.extent.horizon _ c.param_words-words.ensures.words c.in-Ok.ensures.horizon in
    omega (arith, is.within, few_most c.args.given c.requires.few)

pub returns-in-Err-dumped-clause-left : goal.returns-in-Err-dumped-clause-left
returns-in-Err-dumped-clause-left g c = (
  c.in-Ok.extent.horizon,
  horizon_is c.args.placed.now.nodes c.args.clocks.now c.args.given c.args.feed.items c.in-Ok.extent.horizon _ c.param_words-words.ensures.words c.in-Ok.ensures.horizon,
  refl,
)

pub returns-in-Ok-written-clause-left : goal.returns-in-Ok-written-clause-left
returns-in-Ok-written-clause-left g c =
    let of = c.param_words-words.ensures.words in
    let written = subst (Writes _ _) c.deref.ensures.value (on_ok _ _ c.in-Ok-written.is c.write_all-written.ensures.ok) in (
      c.in-Ok.extent.horizon,
      horizon_is c.args.placed.now.nodes c.args.clocks.now c.args.given c.args.feed.items c.in-Ok.extent.horizon _ of c.in-Ok.ensures.horizon,
      wave_written (kinds_of (lent c.args.host.now)) c.args.placed.now.nodes c.args.clocks.now c.args.net c.args.outputs.now c.args.given c.args.feed.items c.args.feed.stop c.in-Ok.extent.horizon c.in-Ok-dumped.text.items
          c.in-Ok-dumped.ensures c.in-Ok.extent.ending (subst (λ (ws : List Bits). EndsFor ws c.args.given c.args.feed.items c.args.feed.stop c.in-Ok.extent.ending) of c.in-Ok.ensures.ending) _ _ written,
    )

pub returns-in-Err-written-clause-left : goal.returns-in-Err-written-clause-left
returns-in-Err-written-clause-left g c =
    let of = c.param_words-words.ensures.words in
    let failed = subst (Fails _ _) c.deref.ensures.value (on_err _ _ c.in-Err-written.is c.write_all-written.ensures.failed) in (
      c.in-Ok.extent.horizon,
      horizon_is c.args.placed.now.nodes c.args.clocks.now c.args.given c.args.feed.items c.in-Ok.extent.horizon _ of c.in-Ok.ensures.horizon,
      wave_failed (kinds_of (lent c.args.host.now)) c.args.placed.now.nodes c.args.clocks.now c.args.net c.args.outputs.now c.args.given c.args.feed.items c.args.feed.stop c.in-Ok.extent.horizon c.in-Ok-dumped.text.items
          c.in-Ok-dumped.ensures c.in-Ok.extent.ending (subst (λ (ws : List Bits). EndsFor ws c.args.given c.args.feed.items c.args.feed.stop c.in-Ok.extent.ending) of c.in-Ok.ensures.ending) _ _ failed,
    )
