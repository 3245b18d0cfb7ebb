use Rattle.std.proofs.Common.{◌-◌, ◌∙◌, arith}
use Rattle.lucy_front.proofs.StreamLaws.{params_there, types_all}
use Rattle.lucy_front.proofs.streams.inputs.Goals as goal

pub inputs_at-requires-clause-all : goal.inputs_at-requires-clause-all
inputs_at-requires-clause-all c =
    let count = c.nodes.ensures.count in
    let some = c.nodes.ensures.some in
    types_all c.args.placed.now.nodes c.args.typed.now (c.nodes.result - 1) c.node-main.result.now c.requires (omega arith) c.node-main.ensures.is

pub inputs_at-requires-clause-there : goal.inputs_at-requires-clause-there
inputs_at-requires-clause-there c = params_there c.node-main.result.now c.deref.result.now c.node-main.ensures.proper.params (c.deref.ensures.value ∙ c.in_ok-places.ensures)
