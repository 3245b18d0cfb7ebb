use Rattle.std.proofs.Common.{length, map}
use Rattle.lucy_tree.specs.View.{node_tree}
use Rattle.lucy_grammar.specs.Symbols.{Part}
use Rattle.lucy_grammar.proofs.Growing.{Growing, and_then}
use Rattle.lucy_syntax.proofs.program.nodes.Given as goal

abbrev pub invariant-more : goal.invariant-more
invariant-more l = Growing Part.Program Part.Node Part.Node and_then l.ts (map node_tree l.list.items) l.over

abbrev pub decreases-more : goal.decreases-more
decreases-more l = length l.over
