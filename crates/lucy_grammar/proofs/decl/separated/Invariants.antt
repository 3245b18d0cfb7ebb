use Rattle.std.proofs.Common.{ℕ, List, Option, drop, map}
use Rattle.lucy_grammar.specs.PrintTokens.{printed_decl}
use Rattle.lucy_grammar.specs.Sheets.{Adds}
use Rattle.lucy_grammar.proofs.PrintedText.{listed}
use Rattle.lucy_grammar.proofs.decl.separated.Given as goal

abbrev pub invariant-more : goal.invariant-more
invariant-more l = (end : Option (List ℕ)) → Adds (listed (map printed_decl (drop l.next-index l.more))) l.out end → Adds (listed (map printed_decl l.more)) l.initial.out end
