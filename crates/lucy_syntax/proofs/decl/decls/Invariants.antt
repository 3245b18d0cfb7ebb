use Rattle.std.proofs.Common.{length}
use Rattle.lucy_grammar.specs.Symbols.{Part}
use Rattle.lucy_grammar.proofs.Growing.{Growing, and_then}
use Rattle.lucy_syntax.proofs.decl.decls.Given as goal

abbrev pub invariant-more : goal.invariant-more
invariant-more l = Growing Part.Decls Part.Decl Part.MoreDecl and_then l.ts (l.list.items) l.over

abbrev pub decreases-more : goal.decreases-more
decreases-more l = length l.over
