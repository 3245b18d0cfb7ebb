use Rattle.std.proofs.Common.{◌≡◌, List, length, ap, sym, ◌∙◌, subst, arith}
use Rattle.std.proofs.lemmas.Result.{IfOk-at_ok}
use Rattle.lucy_host.specs.Host.{lent}
use Rattle.lucy_host.specs.Operators.{kinds_of}
use Rattle.lucy_lines.specs.declared.feeds.Feed.{Feed}
use Rattle.lucy_clock.specs.declared.node_clock.NodeClock.{NodeClock}
use Rattle.lucy_flat.specs.Clocked.{AreClocked}
use Rattle.lucy_flat.specs.Flat.{IsFlat}
use Rattle.lucy_run.proofs.AcceptedLaws.{few_inputs, inputs_count, outputs_count}
use Rattle.lucy_wave.proofs.WaveLaws.{wave_given_up, wave_done}
use Rattle.lucy_wave.proofs.waving.wave.Goals as goal
use Rattle.lucy_wave.proofs.waving.wave.Goals.{in-Ok, in-Err}

pub main_feed-requires : goal.main_feed-requires
main_feed-requires g c = few_inputs _ c.requires.accepted.0 c.requires.accepted.1 c.args.accepted c.requires.accepted.2

pub wave_feed-ending-requires-clause-clocked : goal.wave_feed-ending-requires-clause-clocked
wave_feed-ending-requires-clause-clocked g c = λ κs within.
    subst (AreClocked c.args.accepted.placed.nodes) (sym c.deref.ensures.value)
    (c.accepted_programs_are_clocked.ensures.clocked (lent c.args.host.now) c.requires.accepted.1 c.requires.accepted.0 c.args.accepted c.requires.accepted.2)

pub wave_feed-ending-requires-clause-flat : goal.wave_feed-ending-requires-clause-flat
wave_feed-ending-requires-clause-flat g c = λ κs within.
    subst (λ (u : List NodeClock). IsFlat c.args.accepted.placed.nodes u c.args.accepted.net) (sym c.deref.ensures.value) c.requires.accepted.2.net.flat.flat

pub wave_feed-ending-requires-clause-sound : goal.wave_feed-ending-requires-clause-sound
wave_feed-ending-requires-clause-sound g c = λ κs within. c.requires.accepted.2.schedule.sound

pub wave_feed-ending-requires-clause-outputs : goal.wave_feed-ending-requires-clause-outputs
wave_feed-ending-requires-clause-outputs g c = λ κs within.
    ap length c.deref-in-Ok.ensures.value ∙ outputs_count _ c.requires.accepted.0 c.requires.accepted.1 c.args.accepted c.requires.accepted.2

pub wave_feed-ending-requires-clause-serves : goal.wave_feed-ending-requires-clause-serves
wave_feed-ending-requires-clause-serves g c = λ κs within. c.requires.serves

pub wave_feed-ending-requires-clause-few : goal.wave_feed-ending-requires-clause-few
wave_feed-ending-requires-clause-few g c = λ κs within. c.requires.few

pub wave_feed-ending-requires-clause-known : goal.wave_feed-ending-requires-clause-known
wave_feed-ending-requires-clause-known g c = λ κs within.
    c.accepted_programs_are_clocked.ensures.operators (lent c.args.host.now) c.requires.accepted.1 c.requires.accepted.0 c.args.accepted c.requires.accepted.2

pub wave_feed-ending-requires-clause-inputs : goal.wave_feed-ending-requires-clause-inputs
wave_feed-ending-requires-clause-inputs g c = λ κs within.
    let lists = IfOk-at_ok (λ (feed : Feed). length feed.items ≡ length c.args.accepted.inputs.items) c.in-Ok.is c.main_feed.ensures.lists in
    sym (lists ∙ inputs_count _ c.requires.accepted.0 c.requires.accepted.1 c.args.accepted c.requires.accepted.2)

pub returns-clause-ends : goal.returns-clause-ends
returns-clause-ends g c =
    let (taken, stop, read, asked, fed) = c.main_feed.ensures.fed in
    elim c.match-main_feed.branch [
      | in-Ok w ↦ rw w.ending-is (rw w.out-is (wave_done (kinds_of (lent c.args.host.now)) c.args.accepted c.args.instants _ _ _ _ w.wave_feed-ending.result w.in-Ok.feed c.main_feed.result w.deref.result.now w.deref-in-Ok.result.now taken stop read asked fed w.in-Ok.is
          w.deref.ensures.value w.deref-in-Ok.ensures.value w.wave_feed-ending.ensures.left))
      | in-Err w ↦ rw w.ending-is (rw w.out-is (wave_given_up (kinds_of (lent c.args.host.now)) c.args.accepted c.args.instants _ _ taken stop _ read asked))
    ]

pub returns-clause-unread : goal.returns-clause-unread
returns-clause-unread g c = c.main_feed.ensures.unread

pub returns-clause-source_count : goal.returns-clause-source_count
returns-clause-source_count g c = c.main_feed.ensures.count

pub returns-clause-out_count : goal.returns-clause-out_count
returns-clause-out_count g c =
    elim c.match-main_feed.branch [
      | in-Ok w ↦ rw w.out-is w.wave_feed-ending.ensures.count
      | in-Err w ↦ rw w.out-is (omega arith)
    ]
