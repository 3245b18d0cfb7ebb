use Rattle.std.proofs.Common.{◌≡◌, ◌+◌, ◌++◌, drop}
use Rattle.lucy_graphviz.specs.Nets.{numbered, output_text}
use Rattle.lucy_graphviz.proofs.print.rings.put_outputs.Given as goal

abbrev pub invariant-each : goal.invariant-each
invariant-each l = l.out.items ++ numbered output_text (l.begin + l.i) (drop l.i l.outputs) ≡ l.initial.out.items ++ numbered output_text l.begin l.outputs
