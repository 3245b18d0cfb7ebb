use Rattle.std.proofs.Common.{ℕ, ◌≢◌, ◌<◌, ◌≤◌, slice_index}
use Rattle.lucy_picture.proofs.spot.begin_of.Given as goal

abbrev pub invariant-each : goal.invariant-each
invariant-each l = (l.begin ≤ l.offset) × ((i : ℕ) → l.begin ≤ i → i < l.offset → slice_index l.text i ≢ 10)

abbrev pub decreases-each : goal.decreases-each
decreases-each l = l.begin
