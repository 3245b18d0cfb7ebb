use Rattle.std.proofs.Common.{◌≡◌, length}
use Rattle.lucy_call_rows.proofs.printing.list_of.Given as goal

abbrev pub invariant-loop : goal.invariant-loop
invariant-loop l = length l.lists ≡ 1
