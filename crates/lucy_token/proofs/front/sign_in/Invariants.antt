use Rattle.std.proofs.Common.{◌≡◌, drop}
use Rattle.lucy_token.specs.Fronts as spec
use Rattle.lucy_token.proofs.front.sign_in.Given as goal

abbrev pub invariant-loop-mark : goal.invariant-loop-mark
invariant-loop-mark l = spec.sign_in (drop l.mark-index l.marks) l.text ≡ spec.sign_in l.marks l.text
