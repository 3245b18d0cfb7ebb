use Rattle.std.proofs.Common.{◌≡◌, take}
use Rattle.lucy_clock.proofs.callers.copies.Given as goal

abbrev pub invariant-each : goal.invariant-each
invariant-each l = l.list.items ≡ take l.word-index l.words
