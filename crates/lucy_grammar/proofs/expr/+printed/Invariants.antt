use Rattle.std.proofs.Common.{ℕ, List, Option, drop}
use Rattle.lucy_tree.specs.View.{all_trees}
use Rattle.lucy_grammar.specs.PrintTokens.{all_printed}
use Rattle.lucy_grammar.specs.Sheets.{Adds}
use Rattle.lucy_grammar.proofs.PrintedText.{listed}
use Rattle.lucy_grammar.proofs.expr.+printed.Given as goal

abbrev pub invariant-separated-more : goal.invariant-separated-more
invariant-separated-more l = (end : Option (List ℕ)) → Adds (listed (all_printed (all_trees (drop l.next-index l.more)))) l.out end → Adds (listed (all_printed (all_trees l.more))) l.initial.out end
