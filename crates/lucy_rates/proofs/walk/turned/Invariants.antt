use Rattle.std.proofs.Common.{◌≡◌, ◌++◌, vec_len}
use Rattle.std.specs.Prelude.{reverse}
use Rattle.lucy_rates.proofs.walk.turned.Given as goal

abbrev pub invariant-loop-need : goal.invariant-loop-need
invariant-loop-need l = l.way.items ++ reverse l.rest.items ≡ l.fn.up.items ++ reverse l.fn.down.items

abbrev pub decreases-loop-need : goal.decreases-loop-need
decreases-loop-need l = vec_len l.rest
