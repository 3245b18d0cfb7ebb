use Rattle.std.proofs.Common.{ℕ, List, Option, drop, map}
use Rattle.lucy_tree.specs.View.{def_tree}
use Rattle.lucy_grammar.specs.PrintTokens.{spaced_text, more_defs}
use Rattle.lucy_grammar.specs.Sheets.{Adds}
use Rattle.lucy_grammar.proofs.program.further_defs.Given as goal

abbrev pub invariant-more : goal.invariant-more
invariant-more l = (end : Option (List ℕ)) → Adds (spaced_text (more_defs (map def_tree (drop l.next-index l.list)))) l.out end → Adds (spaced_text (more_defs (map def_tree l.list))) l.initial.out end
