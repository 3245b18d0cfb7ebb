use Rattle.std.proofs.Common.{ℕ, ◌<◌, ◌≤◌, ◌≡◌, true, length}
use Rattle.std.specs.Prelude.{[], All, Some, slice_get, slice_index}
use Rattle.lucy_net.specs.Proper.{numbers_where}
use Rattle.lucy_runner.specs.Making.{benched, homes_in, is_used}
use Rattle.lucy_runner.proofs.sitting.hall_of.Given as goal

abbrev pub invariant-loop-home : goal.invariant-loop-home
invariant-loop-home l = record {
  count : length l.numbers.items ≡ l.home;
  few : length l.benches.items ≤ l.home;
  seats : (home : ℕ) → home < l.home → slice_get l.used home ≡ Some true → slice_index l.numbers.items home < length l.benches.items;
  homes : homes_in l.benches.items ≡ numbers_where (is_used l.used) l.home;
  places : (home : ℕ) → home < l.home → slice_index l.numbers.items home ≡ length (numbers_where (is_used l.used) home);
  none : All (λ bench. benched bench ≡ []) l.benches.items;
}
