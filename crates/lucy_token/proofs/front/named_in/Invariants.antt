use Rattle.std.proofs.Common.{◌≡◌, drop}
use Rattle.lucy_token.specs.Fronts as spec
use Rattle.lucy_token.proofs.front.named_in.Given as goal

abbrev pub invariant-loop-mark : goal.invariant-loop-mark
invariant-loop-mark l = spec.named_in (drop l.mark-index l.marks) l.bytes ≡ spec.named_in l.marks l.bytes
