use Rattle.std.proofs.Common.{◌<◌, ◌≤◌, length, take}
use Rattle.lucy_word.specs.Turns.{GoesOnAs}
use Rattle.lucy_word.proofs.shortest.kept.Given as goal

abbrev pub invariant-loop-kept : goal.invariant-loop-kept
invariant-loop-kept l = record {
  within : l.kept ≤ length l.prefix;
  at : l.at < l.turn;
  goes_on : GoesOnAs (record { prefix = l.prefix; period = take l.turn l.period }) l.kept (take l.turn l.period) l.at;
}

abbrev pub decreases-loop-kept : goal.decreases-loop-kept
decreases-loop-kept l = l.kept
