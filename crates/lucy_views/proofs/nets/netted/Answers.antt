use Rattle.std.specs.Option.{option_map}
use Rattle.lucy_tree.specs.View.{program_tree}
use Rattle.lucy_views.specs.Shown.{IsNetText}
use Rattle.lucy_views.proofs.Outs.{node_printed}
use Rattle.lucy_views.proofs.Drawn.{is_net}
use Rattle.lucy_views.proofs.nets.netted.Goals as goal

pub returns-clause-outcome : goal.returns-clause-outcome
returns-clause-outcome c =
    let tree = program_tree c.args.program.now in
    node_printed c.args.accepted.now.placed.nodes (option_map (λ s. s.now) c.args.words.node) (IsNetText c.args.words.flat tree c.args.accepted.now) c.in-Some.node c.put_net.new.out.items
    c.in-Some.ensures.some.0 c.in-Some.ensures.some.1
    (is_net c.args.words.flat tree c.args.accepted.now c.in-Some.node c.new-out.result.items c.put_net.new.out.items c.in-Some.ensures.within c.new-out.ensures.items c.in_ok-put_net.ensures.node
    c.in_ok-put_net.ensures.flat)
