use Rattle.lucy_word.specs.Cutting.{AreDigits}
use Rattle.lucy_word.proofs.digits.gather.Given as goal

abbrev pub invariant-loop-n : goal.invariant-loop-n
invariant-loop-n l = AreDigits l.text l.n l.limb
