use Rattle.std.proofs.Common.{All}
use Rattle.lucy_net_rows.specs.ByHand.{IsBegun}
use Rattle.lucy_net_rows.proofs.parity.first_parts.Given as goal

abbrev pub invariant-loop-number : goal.invariant-loop-number
invariant-loop-number l = All IsBegun l.even.items × All IsBegun l.odd.items
