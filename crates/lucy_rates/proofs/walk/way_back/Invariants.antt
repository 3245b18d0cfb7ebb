use Rattle.std.proofs.Common.{ℕ, ◌+◌, List, length, get_or}
use Rattle.lucy_rates.specs.Growing.{ArePlanted, AreClimbing}
use Rattle.lucy_rates.proofs.walk.way_back.Given as goal

abbrev pub invariant-loop-a : goal.invariant-loop-a
invariant-loop-a l = record {
  tree : ℕ → List ℕ;
  planted : ArePlanted l.needs (length l.forest.roots.items) (length l.forest.roots.items) tree l.forest.roots.items l.forest.parents.items l.forest.depths.items l.forest.rates.items;
  climbing : AreClimbing l.needs (length l.forest.roots.items) (get_or l.forest.roots.items l.fn.from 0) (tree (get_or l.forest.roots.items l.fn.from 0)) l.forest.roots.items l.forest.parents.items l.forest.depths.items l.fn.from l.fn.to l.up.items l.down.items l.a l.b;
}

abbrev pub decreases-loop-a : goal.decreases-loop-a
decreases-loop-a l = get_or l.forest.depths.items l.a 0 + get_or l.forest.depths.items l.b 0
