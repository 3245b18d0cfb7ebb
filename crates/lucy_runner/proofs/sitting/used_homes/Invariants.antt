use Rattle.std.proofs.Common.{ℕ, ◌<◌, ◌≡◌, true, length, get_or}
use Rattle.std.specs.Prelude.{Some, slice_get}
use Rattle.lucy_runner.specs.Homes.{is_home}
use Rattle.lucy_runner.proofs.sitting.used_homes.Given as goal

abbrev pub invariant-loop-home : goal.invariant-loop-home
invariant-loop-home l = record {
  count : length l.used.items ≡ l.workers;
  only : (home : ℕ) → slice_get l.used.items home ≡ Some true → is_home l.homes home ≡ true;
  marked : (k d : ℕ) → k < l.home-index → slice_get l.used.items (get_or l.homes k d) ≡ Some true;
}
