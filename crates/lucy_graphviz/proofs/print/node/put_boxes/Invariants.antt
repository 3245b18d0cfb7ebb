use Rattle.std.proofs.Common.{◌≡◌, ◌++◌, drop}
use Rattle.std.specs.Prelude.{flat_map}
use Rattle.lucy_tree.specs.View.{program_tree}
use Rattle.lucy_graphviz.specs.Graphs.{own_box}
use Rattle.lucy_graphviz.proofs.print.node.put_boxes.Given as goal

abbrev pub invariant-each : goal.invariant-each
invariant-each l =
    let text = own_box (program_tree l.program) l.accepted l.node l.found in
    l.out.items ++ flat_map text (drop l.i l.places) ≡ l.initial.out.items ++ flat_map text l.places
