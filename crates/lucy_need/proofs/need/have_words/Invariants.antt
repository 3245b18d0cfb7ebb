use Rattle.std.proofs.Common.{take}
use Rattle.std.specs.List.{All}
use Rattle.lucy_need.specs.Stored.{HasWords}
use Rattle.lucy_need.proofs.need.have_words.Given as goal

abbrev pub invariant-loop-need : goal.invariant-loop-need
invariant-loop-need l = All HasWords (take l.need-index l.needs)
