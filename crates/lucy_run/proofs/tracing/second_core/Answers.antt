use Rattle.std.proofs.Common.{◌≡◌, sym, ◌∙◌, subst}
use Rattle.std.proofs.lemmas.Result.{IfOk-weaker}
use Rattle.lucy_net.specs.Proper.{IsProper}
use Rattle.lucy_net.specs.Schedules.{Timetable}
use Rattle.lucy_core.specs.Seen.{Seen, first_seen}
use Rattle.lucy_run.proofs.TracingLaws.{fixed_anew, seen_anew}
use Rattle.lucy_run.proofs.tracing.second_core.Goals as goal

pub schedule_of-requires : goal.schedule_of-requires
schedule_of-requires c = subst IsProper (sym c.in_ok-copy.ensures) c.requires.fixed.1.proper

pub new-requires : goal.new-requires
new-requires c =
    fixed_anew c.args.net.now c.in_ok-copy.copy c.requires.fixed.0 c.in-Ok.schedule c.args.inputs.now c.in_ok-lists.lists
    c.args.ops.now
    c.args.instants c.in_ok-copy.ensures c.in_ok-lists.ensures c.in-Ok.ensures.ok c.requires.fixed.1

pub returns : goal.returns
returns c =
    let anew : Timetable = c.in-Ok.schedule in
    let same = seen_anew c.args.net.now c.in_ok-copy.copy anew c.args.inputs.now c.in_ok-lists.lists c.args.ops.now c.args.instants
    c.in_ok-copy.ensures
    c.in_ok-lists.ensures in
    IfOk-weaker c.new.result (λ (core : Seen). core ≡ first_seen c.in_ok-copy.copy anew c.in_ok-lists.lists c.args.ops.now c.args.instants)
    (λ (core : Seen). (schedule : Timetable) × (core ≡ first_seen c.args.net.now schedule c.args.inputs.now c.args.ops.now c.args.instants))
    (λ core is. (anew, is ∙ same)) c.new.ensures
