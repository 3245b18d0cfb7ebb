use Rattle.std.proofs.Common.{◌≡◌, [], length, ap, sym, refl, inl, ◌∙◌, subst}
use Rattle.std.proofs.lemmas.Result.{IfOk-at_ok}
use Rattle.lucy_host.specs.Host.{lent}
use Rattle.lucy_lines.proofs.SinkLaws.{unwritten}
use Rattle.lucy_lines.specs.declared.feeds.Feed.{Feed}
use Rattle.lucy_flat.specs.Clocked.{AreClocked}
use Rattle.lucy_run.proofs.AcceptedLaws.{few_inputs, inputs_count, outputs_count}
use Rattle.lucy_run.proofs.ReplayLaws.{replay_done}
use Rattle.lucy_run.proofs.replaying.replay.Goals as goal
use Rattle.lucy_run.proofs.replaying.replay.Goals.{in-Ok, in-Err}

pub main_feed-requires : goal.main_feed-requires
main_feed-requires g c = few_inputs _ c.requires.accepted.0 c.requires.accepted.1 c.args.accepted c.requires.accepted.2

pub replay_feed-ending-requires-clause-clocked : goal.replay_feed-ending-requires-clause-clocked
replay_feed-ending-requires-clause-clocked g c = λ κs within.
    subst (AreClocked c.args.accepted.placed.nodes) (sym c.deref.ensures.value)
    (c.accepted_programs_are_clocked.ensures.clocked (lent c.args.host.now) c.requires.accepted.1 c.requires.accepted.0 c.args.accepted c.requires.accepted.2)

pub replay_feed-ending-requires-clause-known : goal.replay_feed-ending-requires-clause-known
replay_feed-ending-requires-clause-known g c = λ κs within.
    c.accepted_programs_are_clocked.ensures.operators (lent c.args.host.now) c.requires.accepted.1 c.requires.accepted.0 c.args.accepted c.requires.accepted.2

pub replay_feed-ending-requires-clause-outputs : goal.replay_feed-ending-requires-clause-outputs
replay_feed-ending-requires-clause-outputs g c = λ κs within.
    ap length c.deref-in-Ok.ensures.value ∙ outputs_count _ c.requires.accepted.0 c.requires.accepted.1 c.args.accepted c.requires.accepted.2

pub replay_feed-ending-requires-clause-inputs : goal.replay_feed-ending-requires-clause-inputs
replay_feed-ending-requires-clause-inputs g c = λ κs within.
    let lists = IfOk-at_ok (λ (feed : Feed). length feed.items ≡ length c.args.accepted.inputs.items) c.in-Ok.is c.main_feed.ensures.lists in
    sym (lists ∙ inputs_count _ c.requires.accepted.0 c.requires.accepted.1 c.args.accepted c.requires.accepted.2)

pub returns-clause-ends : goal.returns-clause-ends
returns-clause-ends g c =
    let ops = lent c.args.host.now in
    let a = c.args.accepted in
    let (text, o, accepted) = c.requires.accepted in
    let (taken, stop, read, asked, fed) = c.main_feed.ensures.fed in
    let by_streams = c.replays_go_by_streams.ensures ops o text a c.args.instants c.args.picks.now c.requires.few accepted in
    elim c.match-main_feed.branch [
      | in-Ok w ↦ rw w.ending-is (rw w.out-is (
        taken,
        stop,
        read,
        asked,
        replay_done ops a c.args.instants c.args.picks.now taken stop by_streams _ _ w.replay_feed-ending.result w.in-Ok.feed c.main_feed.result
            w.deref.result.now w.deref-in-Ok.result.now fed w.in-Ok.is
            w.deref.ensures.value w.deref-in-Ok.ensures.value w.replay_feed-ending.ensures.left,
      ))
      | in-Err w ↦ rw w.ending-is (rw w.out-is (taken, stop, read, asked, ([], inl refl, unwritten _)))
    ]
