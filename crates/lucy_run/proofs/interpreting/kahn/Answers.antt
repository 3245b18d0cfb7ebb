use Rattle.std.proofs.Common.{ap, sym, ◌∙◌, subst}
use Rattle.std.proofs.lemmas.Result.{IfOk-at_ok}
use Rattle.std.specs.Prelude.{◌≡◌, length, List}
use Rattle.lucy_clock.specs.declared.node_clock.NodeClock.{NodeClock}
use Rattle.lucy_lines.specs.declared.feeds.Feed.{Feed}
use Rattle.lucy_host.specs.Host.{lent}
use Rattle.lucy_host.specs.Operators.{kinds_of}
use Rattle.lucy_flat.specs.Clocked.{AreClocked}
use Rattle.lucy_results.specs.Running.{HasSchedule}
use Rattle.lucy_run.proofs.AcceptedLaws.{few_inputs, inputs_count, outputs_count, scheduled}
use Rattle.lucy_run.proofs.EndsLaws.{kahn_given_up, kahn_done}
use Rattle.lucy_run.proofs.interpreting.kahn.Goals as goal
use Rattle.lucy_run.proofs.interpreting.kahn.Goals.{in-Ok, in-Err}

pub main_feed-requires : goal.main_feed-requires
main_feed-requires g c = few_inputs _ c.requires.accepted.0 c.requires.accepted.1 c.args.accepted c.requires.accepted.2

pub write_interpreted-ending-requires-clause-clocked : goal.write_interpreted-ending-requires-clause-clocked
write_interpreted-ending-requires-clause-clocked g c = λ κs within.
    subst (AreClocked c.args.accepted.placed.nodes) (sym c.deref.ensures.value)
    (c.accepted_programs_are_clocked.ensures.clocked (lent c.args.host.now) c.requires.accepted.1 c.requires.accepted.0 c.args.accepted c.requires.accepted.2)

pub write_interpreted-ending-requires-clause-known : goal.write_interpreted-ending-requires-clause-known
write_interpreted-ending-requires-clause-known g c = λ κs within.
    c.accepted_programs_are_clocked.ensures.operators (lent c.args.host.now) c.requires.accepted.1 c.requires.accepted.0 c.args.accepted c.requires.accepted.2

pub write_interpreted-ending-requires-clause-scheduled : goal.write_interpreted-ending-requires-clause-scheduled
write_interpreted-ending-requires-clause-scheduled g c = λ κs within.
    let P : List NodeClock → Type 0 = λ u. HasSchedule c.args.accepted.placed.nodes u in
    subst P (sym c.deref.ensures.value) (scheduled _ c.requires.accepted.0 c.requires.accepted.1 c.args.accepted c.requires.accepted.2)

pub write_interpreted-ending-requires-clause-outputs : goal.write_interpreted-ending-requires-clause-outputs
write_interpreted-ending-requires-clause-outputs g c = λ κs within.
    ap length c.deref-in-Ok.ensures.value ∙ outputs_count _ c.requires.accepted.0 c.requires.accepted.1 c.args.accepted c.requires.accepted.2

pub write_interpreted-ending-requires-clause-inputs : goal.write_interpreted-ending-requires-clause-inputs
write_interpreted-ending-requires-clause-inputs g c = λ κs within.
    let lists = IfOk-at_ok (λ (feed : Feed). length feed.items ≡ length c.args.accepted.inputs.items) c.in-Ok.is c.main_feed.ensures.lists in
    sym (lists ∙ inputs_count _ c.requires.accepted.0 c.requires.accepted.1 c.args.accepted c.requires.accepted.2)

pub returns-clause-ends : goal.returns-clause-ends
returns-clause-ends g c =
    let (taken, stop, read, asked, fed) = c.main_feed.ensures.fed in
    elim c.match-main_feed.branch [
      | in-Ok w ↦ rw w.ending-is (rw w.out-is (kahn_done (kinds_of (lent c.args.host.now)) c.args.accepted c.args.instants _ _ _ _ w.write_interpreted-ending.result w.in-Ok.feed c.main_feed.result w.deref.result.now w.deref-in-Ok.result.now taken stop read asked fed w.in-Ok.is
          w.deref.ensures.value w.deref-in-Ok.ensures.value w.write_interpreted-ending.ensures.ends))
      | in-Err w ↦ rw w.ending-is (rw w.out-is (kahn_given_up (kinds_of (lent c.args.host.now)) c.args.accepted c.args.instants _ _ taken stop _ read asked))
    ]
