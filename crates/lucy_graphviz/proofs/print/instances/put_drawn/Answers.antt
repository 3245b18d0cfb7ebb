use Rattle.lucy_tree.specs.View.{program_tree}
use Rattle.lucy_graphviz.specs.Nets.{actor_text}
use Rattle.lucy_graphviz.proofs.NetLaws.{numbered_none, numbered_more}
use Rattle.lucy_graphviz.proofs.print.instances.put_drawn.Goals as goal

pub each-init : goal.each-init
each-init c =
    numbered_none (actor_text (program_tree c.args.program.now) c.args.accepted.now c.args.node c.args.found.now c.args.path.now) c.args.begin c.args.drawn.now c.args.out.now.items

pub each-preserved : goal.each-preserved
each-preserved c =
    numbered_more (actor_text (program_tree c.args.program.now) c.args.accepted.now c.args.node c.args.found.now c.args.path.now) c.args.drawn.now c.args.begin c.each.i c.drawn_at-place.result.now c.each.out.items _ _
    c.drawn_at-place.ensures c.in_ok-put_actor.ensures c.each.invariant
