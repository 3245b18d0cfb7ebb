use Rattle.std.proofs.Common.{◌≡◌, take}
use Rattle.lucy_results.proofs.lists.copy_lists.Given as goal

-- the lists copied so far
abbrev pub invariant-each : goal.invariant-each
invariant-each l = l.copies ≡ take l.i l.lists
