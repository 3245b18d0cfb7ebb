use Rattle.std.proofs.Common.{◌≡◌, ℕ, ◌+◌, ◌-◌, ◌<◌, ◌≤◌, get_or, false}
use Rattle.lucy_word.proofs.shortest.comes_again.Given as goal

abbrev pub invariant-loop-i : goal.invariant-loop-i
invariant-loop-i l = record {
  from : l.distance ≤ l.i;
  within : l.i ≤ l.turn;
  again : (k : ℕ) → k + l.distance < l.i → get_or l.period (k + l.distance) false ≡ get_or l.period k false;
}

abbrev pub decreases-loop-i : goal.decreases-loop-i
decreases-loop-i l = l.turn - l.i
