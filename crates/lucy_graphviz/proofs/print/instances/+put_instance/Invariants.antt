use Rattle.std.proofs.Common.{◌≡◌, ◌+◌, ◌++◌, drop}
use Rattle.lucy_tree.specs.View.{program_tree}
use Rattle.lucy_kahn.specs.Sizes.{size_of}
use Rattle.lucy_graphviz.specs.Nets.{frames_text, instance_text}
use Rattle.lucy_graphviz.proofs.NetLaws.{size_from}
use Rattle.lucy_graphviz.proofs.print.instances.+put_instance.Given as goal

abbrev pub decreases-put_instance : goal.decreases-put_instance
decreases-put_instance l = l.node

abbrev pub invariant-each : goal.invariant-each
invariant-each l =
    let program = program_tree l.program in
    let known = instance_text program l.accepted in record {
      text : l.out.items ++ frames_text program l.accepted known l.node l.found l.path l.next (l.i + 1) (drop l.i l.found.calls)
          ≡ l.initial.out.items ++ frames_text program l.accepted known l.node l.found l.path l.initial.next 1 l.found.calls;
      next : l.next + size_from l.accepted.placed.nodes (drop l.i l.found.calls) ≡ l.begin + size_of l.accepted.placed.nodes l.node;
    }
