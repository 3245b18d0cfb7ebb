use Rattle.std.proofs.Common.{◌≡◌, ◌++◌, ◌≤◌, ◌-◌, replicate}
use Rattle.lucy_word.proofs.packed.Packed.push_run.Given as goal

abbrev pub invariant-loop-made : goal.invariant-loop-made
invariant-loop-made l = record {
  within : l.made ≤ l.n;
  bits : l.self ≡ l.initial.self ++ replicate l.made l.bit;
}

abbrev pub decreases-loop-made : goal.decreases-loop-made
decreases-loop-made l = l.n - l.made
