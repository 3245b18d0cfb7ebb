use Rattle.std.proofs.Common.{◌≡◌}
use Rattle.std.proofs.lemmas.Result.{IfOk-weaker}
use Rattle.lucy_core.specs.Seen.{Seen, IsUnbegun, first_seen}
use Rattle.lucy_net_rows.proofs.ReadyLaws.{unbegun_as}
use Rattle.lucy_net_rows.proofs.ready.core_of.Goals as goal

pub new-requires : goal.new-requires
new-requires c =
    let r = c.requires in
    c.nets_can_be_run.ensures.fixed c.args.placed.now.nodes c.args.clocks.now c.args.net c.args.schedule c.in-Ok.inputs c.args.ops.now c.instants_of-instants.result
    c.nodes.ensures.proper r.operators r.flat r.sound (c.instants_of-instants.ensures.suffice c.in-Ok.inputs c.in-Ok.ensures) c.instants_of-instants.ensures.early

pub returns-in-Ok-clause-unbegun : goal.returns-in-Ok-clause-unbegun
returns-in-Ok-clause-unbegun c =
    let first = first_seen c.args.net c.args.schedule c.in-Ok.inputs c.args.ops.now c.instants_of-instants.result in
    IfOk-weaker c.new.result (λ (core : Seen). core ≡ first) IsUnbegun (λ core e. unbegun_as core c.args.net c.args.schedule c.in-Ok.inputs c.args.ops.now c.instants_of-instants.result e) c.new.ensures
