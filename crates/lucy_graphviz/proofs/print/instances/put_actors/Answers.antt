use Rattle.std.proofs.Common.{◌++◌, length, ap, ◌∙◌, arith}
use Rattle.lucy_tree.specs.View.{program_tree}
use Rattle.lucy_graphviz.specs.Nets.{numbered, actor_text}
use Rattle.lucy_graphviz.proofs.NetLaws.{drawn_count}
use Rattle.lucy_graphviz.proofs.print.instances.put_actors.Goals as goal

pub put_drawn-requires : goal.put_drawn-requires
put_drawn-requires c =
    let list = ap length (c.as_slice-drawn.ensures.value ∙ c.in_ok-list.ensures) in
    let count = drawn_count 1 c.args.found.now.places in
    let few = c.requires.few in
    omega arith

pub returns : goal.returns
returns c =
    c.in_ok-put_drawn.ensures
    ∙ ap (λ list. c.args.out.now.items ++ numbered (actor_text (program_tree c.args.program.now) c.args.accepted.now c.args.node c.args.found.now c.args.path.now) c.args.begin list)
    (c.as_slice-drawn.ensures.value ∙ c.in_ok-list.ensures)
