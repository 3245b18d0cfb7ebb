use Rattle.std.proofs.Common.{◌≡◌, ◌≤◌, take}
use Rattle.lucy_core.specs.Inside.{going_in}
use Rattle.lucy_core.proofs.making.going_count.Given as goal

abbrev pub invariant-loop-state : goal.invariant-loop-state
invariant-loop-state l = record {
  is : l.going ≡ going_in (take l.state-index l.states);
  most : l.going ≤ l.state-index;
}
