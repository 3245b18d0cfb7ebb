use Rattle.std.proofs.Common.{◌≡◌, ◌≤◌, ◌+◌, ◌-◌, ◌*◌, ℕ, List, length, eqb}
use Rattle.std.specs.List.{count_by}
use Rattle.lucy_rates.specs.Growing.{no_number, IsGrowing, IsRated, AreKept, AreDeep}
use Rattle.lucy_rates.proofs.forest.grow_from.Given as goal

abbrev pub invariant-loop-at : goal.invariant-loop-at
invariant-loop-at l = record {
  tree : List ℕ;
  growing : IsGrowing l.needs (length l.roots) l.root tree l.at l.roots;
  rated : IsRated l.needs l.root tree l.parents l.depths l.rates;
  kept : AreKept l.root l.fn.roots l.fn.parents l.fn.depths l.fn.rates l.roots l.parents l.depths l.rates;
  deep : AreDeep l.roots l.depths;
  size : length l.roots ≡ length l.fn.roots;
  parents_size : length l.parents ≡ length l.roots;
  depths_size : length l.depths ≡ length l.roots;
  rates_size : length l.rates ≡ length l.roots;
  at_most : l.at ≤ length l.needs;
}

abbrev pub decreases-loop-at : goal.decreases-loop-at
decreases-loop-at l = count_by (λ r. eqb r no_number) l.roots * (length l.needs + 1) + (length l.needs - l.at)
