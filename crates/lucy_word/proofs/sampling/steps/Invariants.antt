use Rattle.std.proofs.Common.{◌≤◌, ◌-◌, length}
use Rattle.lucy_word.specs.SamplingSteps.{IsLeft, AreFirstOn}
use Rattle.lucy_word.proofs.sampling.steps.Given as goal

abbrev pub invariant-limbs : goal.invariant-limbs
invariant-limbs l = record {
  within : length l.made ≤ l.len;
  bits : AreFirstOn l.fn.a l.fn.b l.made;
  left : IsLeft l.fn.a l.fn.b (length l.made) l.a l.b;
}

abbrev pub decreases-limbs : goal.decreases-limbs
decreases-limbs l = l.len - length l.made
