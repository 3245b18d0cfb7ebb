use Rattle.std.proofs.Common.{length, ◌+◌, ◌-◌, ◌*◌}
use Rattle.lucy_tree.specs.Tree.{trees_of}
use Rattle.lucy_grammar.specs.Symbols.{Part}
use Rattle.lucy_grammar.specs.Meanings.{sampled_by}
use Rattle.lucy_grammar.proofs.Growing.{Growing, args_from}
use Rattle.lucy_syntax.specs.Levels.{rank}
use Rattle.lucy_syntax.specs.Piles.{Puts, PutsAll}
use Rattle.lucy_syntax.proofs.Climbing.{Climbed}
use Rattle.lucy_syntax.proofs.descent.+descent.Given as goal

abbrev pub decreases-args : goal.decreases-args
decreases-args l = 16 * length l.ts.now + 9

abbrev pub decreases-whole : goal.decreases-whole
decreases-whole l = 16 * length l.ts.now + 8

abbrev pub decreases-operation : goal.decreases-operation
decreases-operation l = 16 * length l.ts.now + 7

abbrev pub decreases-samp : goal.decreases-samp
decreases-samp l = 16 * length l.ts.now + 6

abbrev pub decreases-behind_literal : goal.decreases-behind_literal
decreases-behind_literal l = 16 * length l.ts.now + 6

abbrev pub decreases-buffered : goal.decreases-buffered
decreases-buffered l = 16 * length l.ts.now + 6

abbrev pub decreases-pre : goal.decreases-pre
decreases-pre l = 16 * length l.ts.now + 5

abbrev pub decreases-form : goal.decreases-form
decreases-form l = 16 * length l.ts.now + 4

abbrev pub decreases-atom : goal.decreases-atom
decreases-atom l = 16 * length l.ts.now + 3

abbrev pub decreases-small : goal.decreases-small
decreases-small l = 16 * length l.ts.now + 3

abbrev pub decreases-applied : goal.decreases-applied
decreases-applied l = 16 * length l.ts.now + 3

abbrev pub decreases-enclosed : goal.decreases-enclosed
decreases-enclosed l = 16 * length l.ts.now + 2

abbrev pub decreases-each : goal.decreases-each
decreases-each l = 16 * length l.ts.now + 1

abbrev pub invariant-samp-more : goal.invariant-samp-more
invariant-samp-more l = Puts (Growing Part.Samp Part.Pre Part.Sampling sampled_by l.ts) (length l.ts) l.fn.pile.items l.pile.items l.over

abbrev pub decreases-samp-more : goal.decreases-samp-more
decreases-samp-more l = length l.over

abbrev pub invariant-operation-up : goal.invariant-operation-up
invariant-operation-up l = Puts (Climbed l.wanted l.level l.ts) (length l.ts) l.fn.pile.items l.pile.items l.over

abbrev pub decreases-operation-up : goal.decreases-operation-up
decreases-operation-up l = 8 * length l.over + (6 - rank l.level)

abbrev pub invariant-args-more : goal.invariant-args-more
invariant-args-more l = PutsAll (λ es over. Growing Part.Args Part.Expr Part.MoreExpr args_from l.ts (trees_of es) over) (length l.ts) l.fn.pile.items l.pile.items l.over

abbrev pub decreases-args-more : goal.decreases-args-more
decreases-args-more l = length l.over
