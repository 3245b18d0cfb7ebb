use Rattle.std.proofs.Common.{◌≡◌, ◌+◌, ◌++◌, drop}
use Rattle.lucy_tree.specs.View.{program_tree}
use Rattle.lucy_graphviz.specs.Nets.{numbered, actor_text}
use Rattle.lucy_graphviz.proofs.print.instances.put_drawn.Given as goal

abbrev pub invariant-each : goal.invariant-each
invariant-each l =
    let text = actor_text (program_tree l.program) l.accepted l.node l.found l.path in
    l.out.items ++ numbered text (l.begin + l.i) (drop l.i l.drawn) ≡ l.initial.out.items ++ numbered text l.begin l.drawn
