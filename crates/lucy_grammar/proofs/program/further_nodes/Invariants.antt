use Rattle.std.proofs.Common.{ℕ, List, Option, drop, map}
use Rattle.lucy_tree.specs.View.{node_tree}
use Rattle.lucy_grammar.specs.PrintTokens.{spaced_text, more_nodes}
use Rattle.lucy_grammar.specs.Sheets.{Adds}
use Rattle.lucy_grammar.proofs.program.further_nodes.Given as goal

abbrev pub invariant-more : goal.invariant-more
invariant-more l = (end : Option (List ℕ)) → Adds (spaced_text (more_nodes (map node_tree (drop l.next-index l.list)))) l.out end → Adds (spaced_text (more_nodes (map node_tree l.list))) l.initial.out end
