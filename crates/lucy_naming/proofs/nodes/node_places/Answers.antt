use Rattle.std.proofs.Common.{◌≡◌, length, ap, ◌∙◌, arith}
use Rattle.lucy_tree.specs.View.{node_tree}
use Rattle.lucy_naming.specs.Numbering.{node_rooms}
use Rattle.lucy_naming.specs.Views.{known_of}
use Rattle.lucy_naming.proofs.RoomLaws.{length_node}
use Rattle.lucy_naming.proofs.nodes.node_places.Goals as goal

pub buffers-requires : goal.buffers-requires
buffers-requires c =
    let a : length c.deref.result.now ≡ node_rooms (node_tree c.args.node.now) =
    ap length c.deref.ensures.value ∙ ap length c.in_ok-places.ensures.places ∙ length_node (known_of c.args.names.now) (node_tree c.args.node.now) in
    omega (arith, a, c.requires.room)
