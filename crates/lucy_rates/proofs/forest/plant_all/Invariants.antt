use Rattle.std.proofs.Common.{◌≡◌, ℕ, List, length}
use Rattle.lucy_rates.specs.Growing.{ArePlanted, AreDeep}
use Rattle.lucy_rates.proofs.forest.plant_all.Given as goal

abbrev pub invariant-loop-clock : goal.invariant-loop-clock
invariant-loop-clock l = record {
  tree : ℕ → List ℕ;
  planted : ArePlanted l.needs (length l.fn.roots) l.clock tree l.roots l.parents l.depths l.rates;
  deep : AreDeep l.roots l.depths;
  size : length l.roots ≡ length l.fn.roots;
  parents_size : length l.parents ≡ length l.fn.roots;
  depths_size : length l.depths ≡ length l.fn.roots;
  rates_size : length l.rates ≡ length l.fn.roots;
}
