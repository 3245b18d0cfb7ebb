use Rattle.std.proofs.Common.{ℕ, ◌≢◌, ◌<◌, ◌≤◌, ◌-◌, length, slice_index}
use Rattle.lucy_picture.proofs.spot.end_of.Given as goal

abbrev pub invariant-each : goal.invariant-each
invariant-each l = (l.offset ≤ l.end) × (l.end ≤ length l.text) × ((i : ℕ) → l.offset ≤ i → i < l.end → slice_index l.text i ≢ 10)

abbrev pub decreases-each : goal.decreases-each
decreases-each l = length l.text - l.end
