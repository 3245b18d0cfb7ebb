use Rattle.std.proofs.Common.{ℕ, ◌≡◌, ◌<◌, ◌≤◌, Some}
use Rattle.std.specs.List.{slice_get}
use Rattle.lucy_lines.specs.Walks.{WalkState}
use Rattle.lucy_lines.proofs.block.begin_lists.Given as goal

abbrev pub invariant-loop-walk : goal.invariant-loop-walk
invariant-loop-walk l = record {
  begun : (k : ℕ) (w : WalkState) → k < l.walk-index → slice_get l.initial.walks k ≡ Some w → slice_get l.walks k ≡ Some (record w { place = 0 });
  others : (k : ℕ) → l.walk-index ≤ k → slice_get l.walks k ≡ slice_get l.initial.walks k;
}
