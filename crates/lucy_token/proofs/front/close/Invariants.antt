use Rattle.std.proofs.Common.{◌≡◌, ◌+◌, length}
use Rattle.lucy_token.specs.Fronts as spec
use Rattle.lucy_token.proofs.Comments.{plus}
use Rattle.lucy_token.proofs.front.close.Given as goal

abbrev pub invariant-bytes : goal.invariant-bytes
invariant-bytes l = record { value : plus l.n (spec.close_of l.rest) ≡ spec.close_of l.text; within : l.n + length l.rest ≡ length l.text }

abbrev pub decreases-bytes : goal.decreases-bytes
decreases-bytes l = length l.rest
