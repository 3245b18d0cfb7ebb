use Rattle.std.proofs.Common.{◌≡◌, ◌++◌, drop}
use Rattle.lucy_graphviz.specs.Quotes.{in_label}
use Rattle.lucy_graphviz.proofs.quote.put_escaped.Given as goal

abbrev pub invariant-each : goal.invariant-each
invariant-each l = l.out.items ++ in_label (drop l.byte-index l.text) ≡ l.initial.out.items ++ in_label l.text
