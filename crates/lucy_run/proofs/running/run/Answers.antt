use Rattle.std.proofs.Common.{List, sym, refl, ◌∙◌, subst}
use Rattle.lucy_clock.specs.declared.node_clock.NodeClock.{NodeClock}
use Rattle.lucy_lines.specs.declared.output.OutputSpec.{OutputSpec}
use Rattle.lucy_host.specs.Host.{lent}
use Rattle.lucy_host.specs.Operators.{kinds_of}
use Rattle.lucy_flat.specs.Clocked.{AreClocked}
use Rattle.lucy_run.specs.Owes.{heading}
use Rattle.lucy_run.specs.Courses.{IsCourseBegun}
use Rattle.lucy_run.proofs.AcceptedLaws.{inputs_count, few_inputs}
use Rattle.lucy_run.proofs.EndsLaws.{on_ok, run_headless, run_unplayed}
use Rattle.lucy_run.proofs.running.run.Goals as goal
use Rattle.lucy_run.proofs.running.run.Goals.{in-Ok-new, in-Err-new}

pub write_heading-requires : goal.write_heading-requires
write_heading-requires g c = (lent c.args.host.now, c.requires.accepted)

pub returns-in-Err-clause-ends : goal.returns-in-Err-clause-ends
returns-in-Err-clause-ends g c =
    run_headless (kinds_of (lent c.args.host.now)) c.args.accepted c.args.pace.instants c.args.pace.block _ _ _ _ c.in-Err.ensures.err

pub new-requires-clause-inputs : goal.new-requires-clause-inputs
new-requires-clause-inputs g c κs within = inputs_count _ c.requires.accepted.0 c.requires.accepted.1 c.args.accepted c.requires.accepted.2

pub new-requires-clause-clocked : goal.new-requires-clause-clocked
new-requires-clause-clocked g c κs within =
    subst (AreClocked c.args.accepted.placed.nodes) (sym c.deref.ensures.value)
    (c.accepted_programs_are_clocked.ensures.clocked (lent c.args.host.now) c.requires.accepted.1 c.requires.accepted.0 c.args.accepted c.requires.accepted.2)

pub new-requires-clause-known : goal.new-requires-clause-known
new-requires-clause-known g c κs within =
    c.accepted_programs_are_clocked.ensures.operators (lent c.args.host.now) c.requires.accepted.1 c.requires.accepted.0 c.args.accepted c.requires.accepted.2

pub new-requires-clause-few : goal.new-requires-clause-few
new-requires-clause-few g c κs within = few_inputs _ c.requires.accepted.0 c.requires.accepted.1 c.args.accepted c.requires.accepted.2

pub play_course-ending-requires-clause-begun : goal.play_course-ending-requires-clause-begun
play_course-ending-requires-clause-begun g c κs within =
    let a = c.args.accepted in
    let by_clocks = subst (λ (cs : List NodeClock). IsCourseBegun (kinds_of (lent c.args.host.now)) a.placed.nodes cs a.inputs.items c.deref-2.result.now c.args.pace c.in-Ok-new.course)
    c.deref.ensures.value c.in-Ok-new.ensures.begun in
    let begun = subst (λ (os : List OutputSpec). IsCourseBegun (kinds_of (lent c.args.host.now)) a.placed.nodes a.clocks.items a.inputs.items os c.args.pace c.in-Ok-new.course)
    c.deref-2.ensures.value by_clocks in
    (a, c.args.pace, record { accepted = c.requires.accepted; pace_is = c.requires.pace; given = c.requires.given; outputs_are = c.deref-in-Ok-new.ensures.value; begun = begun })

pub returns-clause-ends : goal.returns-clause-ends
returns-clause-ends g c = elim c.match-new.branch [
  | in-Ok-new w ↦
      let a = c.args.accepted in
      let by_clocks = subst (λ (cs : List NodeClock). IsCourseBegun (kinds_of (lent c.args.host.now)) a.placed.nodes cs a.inputs.items c.deref-2.result.now c.args.pace w.in-Ok-new.course)
      c.deref.ensures.value w.in-Ok-new.ensures.begun in
      let begun = subst (λ (os : List OutputSpec). IsCourseBegun (kinds_of (lent c.args.host.now)) a.placed.nodes a.clocks.items a.inputs.items os c.args.pace w.in-Ok-new.course)
      c.deref-2.ensures.value by_clocks in
      rw w.ending-is (rw w.source-is (rw w.out-is (w.play_course-ending.ensures.ends a c.args.pace (g.O.Sink.seen c.args.out.now)
      (record { accepted = c.requires.accepted; pace_is = c.requires.pace; given = c.requires.given; outputs_are = w.deref-in-Ok-new.ensures.value; begun = begun }) (on_ok _ _ c.in-Ok.is c.write_heading.ensures.ok))))
  | in-Err-new w ↦
      rw w.ending-is (rw w.source-is (rw w.out-is (run_unplayed (kinds_of (lent c.args.host.now)) c.args.accepted c.args.pace.instants c.args.pace.block (g.I.Source.seen c.args.source.now) (g.O.Sink.seen c.args.out.now) (g.O.Sink.seen c.write_heading.new.out)
      (heading c.args.accepted) refl (on_ok _ _ c.in-Ok.is c.write_heading.ensures.ok))))
]

pub returns-clause-unread : goal.returns-clause-unread
returns-clause-unread g c none = elim c.match-new.branch [
  | in-Ok-new w ↦
      let a = c.args.accepted in
      let by_clocks = subst (λ (cs : List NodeClock). IsCourseBegun (kinds_of (lent c.args.host.now)) a.placed.nodes cs a.inputs.items c.deref-2.result.now c.args.pace w.in-Ok-new.course)
      c.deref.ensures.value w.in-Ok-new.ensures.begun in
      let begun = subst (λ (os : List OutputSpec). IsCourseBegun (kinds_of (lent c.args.host.now)) a.placed.nodes a.clocks.items a.inputs.items os c.args.pace w.in-Ok-new.course)
      c.deref-2.ensures.value by_clocks in
      w.source-is ∙ w.play_course-ending.ensures.unread a c.args.pace
      (record { accepted = c.requires.accepted; pace_is = c.requires.pace; given = c.requires.given; outputs_are = w.deref-in-Ok-new.ensures.value; begun = begun }) none
  | in-Err-new w ↦ w.source-is
]
