use Rattle.std.proofs.Common.{◌≡◌, ◌≤◌, ◌-◌, ◌++◌, drop, length}
use Rattle.lucy_word.specs.Spelling.{runs_text, spelled}
use Rattle.lucy_word.proofs.print.digits.Given as goal

abbrev pub invariant-bits : goal.invariant-bits
invariant-bits l = record {
  few : l.n ≤ l.at;
  within : l.at ≤ length l.bits;
  so : l.text.items ++ runs_text l.bit l.n (drop l.at l.bits) ≡ spelled l.bits;
}

abbrev pub decreases-bits : goal.decreases-bits
decreases-bits l = length l.bits - l.at
