use Rattle.std.proofs.Common.{ℕ, List, Option, drop, map}
use Rattle.lucy_grammar.specs.PrintTokens.{name_token}
use Rattle.lucy_grammar.specs.Sheets.{Adds}
use Rattle.lucy_grammar.proofs.PrintedText.{listed}
use Rattle.lucy_grammar.proofs.decl.separated_names.Given as goal

abbrev pub invariant-more : goal.invariant-more
invariant-more l = (end : Option (List ℕ)) → Adds (listed (map name_token (drop l.next-index l.more))) l.out end → Adds (listed (map name_token l.more)) l.initial.out end
