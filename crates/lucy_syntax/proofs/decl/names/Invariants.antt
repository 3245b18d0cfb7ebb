use Rattle.std.proofs.Common.{length}
use Rattle.lucy_grammar.specs.Symbols.{Part}
use Rattle.lucy_grammar.proofs.Growing.{Growing, and_then}
use Rattle.lucy_syntax.proofs.decl.names.Given as goal

abbrev pub invariant-more : goal.invariant-more
invariant-more l = Growing Part.Names Part.Ident Part.MoreName and_then l.ts (l.list.items) l.over

abbrev pub decreases-more : goal.decreases-more
decreases-more l = length l.over
