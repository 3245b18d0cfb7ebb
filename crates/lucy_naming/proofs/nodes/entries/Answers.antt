use Rattle.std.proofs.Common.{◌≡◌, map, refl, ap, sym, subst}
use Rattle.std.specs.List.{AllByRecursion}
use Rattle.lucy_tree.specs.Shaped.{IsShapedDef}
use Rattle.lucy_tree.specs.View.{NodeTree, node_tree, def_tree}
use Rattle.lucy_naming.specs.declared.draft.Draft.{Draft}
use Rattle.lucy_naming.specs.Nodes.{past_defs, first_next}
use Rattle.lucy_naming.specs.Drafts.{IsSmall}
use Rattle.lucy_naming.specs.Views.{known_of}
use Rattle.lucy_naming.proofs.NodeLaws.{first_is}
use Rattle.lucy_naming.proofs.RoomLaws.{node_small}
use Rattle.lucy_naming.proofs.nodes.entries.Goals as goal

pub all_defs-requires-clause-room : goal.all_defs-requires-clause-room
all_defs-requires-clause-room c =
    let n : NodeTree = node_tree c.args.node.now in
    let d : Draft = record { places = c.new.result; buffers = 0; calls = c.new-2.result } in
    let e = first_is (known_of c.args.names.now) d n c.new.ensures.items c.new-2.ensures.items refl c.requires.streams in
    let l : map def_tree c.list-2.result.now ≡ n.defs = ap (map def_tree) c.list-2.ensures in
    subst (λ u. IsSmall (past_defs u (map def_tree c.list-2.result.now))) (sym e) (subst (λ ds. IsSmall (past_defs (first_next n) ds)) (sym l) (node_small n c.requires.room))

pub all_defs-requires-clause-shaped : goal.all_defs-requires-clause-shaped
all_defs-requires-clause-shaped c = subst (λ ds. AllByRecursion IsShapedDef (map def_tree ds)) (sym c.list-2.ensures) c.requires.shaped
