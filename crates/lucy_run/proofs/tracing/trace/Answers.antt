use Rattle.std.proofs.Common.{◌≡◌, length, [], sym, refl, inl, ◌∙◌, subst}
use Rattle.std.proofs.lemmas.Result.{IfOk-at_ok}
use Rattle.lucy_host.specs.Host.{lent}
use Rattle.lucy_lines.proofs.SinkLaws.{unwritten}
use Rattle.lucy_lines.specs.declared.feeds.Feed.{Feed}
use Rattle.lucy_flat.specs.Clocked.{AreClocked}
use Rattle.lucy_run.proofs.AcceptedLaws.{few_inputs, inputs_count}
use Rattle.lucy_run.proofs.TracingLaws.{trace_done}
use Rattle.lucy_run.proofs.tracing.trace.Goals as goal
use Rattle.lucy_run.proofs.tracing.trace.Goals.{in-Ok, in-Err}

pub main_feed-requires : goal.main_feed-requires
main_feed-requires g c = few_inputs _ c.requires.accepted.0 c.requires.accepted.1 c.args.accepted c.requires.accepted.2

pub trace_feed-ending-requires-clause-clocked : goal.trace_feed-ending-requires-clause-clocked
trace_feed-ending-requires-clause-clocked g c κs within =
    subst (AreClocked c.args.accepted.placed.nodes) (sym c.deref.ensures.value)
    (c.accepted_programs_are_clocked.ensures.clocked (lent c.args.host.now) c.requires.accepted.1 c.requires.accepted.0 c.args.accepted
    c.requires.accepted.2)

pub trace_feed-ending-requires-clause-known : goal.trace_feed-ending-requires-clause-known
trace_feed-ending-requires-clause-known g c κs within =
    c.accepted_programs_are_clocked.ensures.operators (lent c.args.host.now) c.requires.accepted.1 c.requires.accepted.0 c.args.accepted
    c.requires.accepted.2

pub trace_feed-ending-requires-clause-inputs : goal.trace_feed-ending-requires-clause-inputs
trace_feed-ending-requires-clause-inputs g c κs within =
    let lists = IfOk-at_ok (λ (feed : Feed). length feed.items ≡ length c.args.accepted.inputs.items) c.in-Ok.is
    c.main_feed.ensures.lists in
    sym (lists ∙ inputs_count _ c.requires.accepted.0 c.requires.accepted.1 c.args.accepted c.requires.accepted.2)

pub returns-clause-ends : goal.returns-clause-ends
returns-clause-ends g c =
    let (taken, stop, read, asked, fed) = c.main_feed.ensures.fed in
    elim c.match-main_feed.branch [
      | in-Ok w ↦ rw w.ending-is (rw w.out-is (
        taken,
        stop,
        read,
        asked,
        trace_done c.args.accepted c.args.instants taken stop _ _ w.trace_feed-ending.result w.in-Ok.feed c.main_feed.result
            w.deref.result.now fed w.in-Ok.is
            w.deref.ensures.value w.trace_feed-ending.ensures.left,
      ))
      | in-Err w ↦ rw w.ending-is (rw w.out-is (taken, stop, read, asked, ([], inl refl, unwritten _)))
    ]
