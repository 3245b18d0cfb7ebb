use Rattle.std.proofs.Common.{◌+◌, ◌-◌, length}
use Rattle.lucy_word.proofs.ShortTurn.{Trying}
use Rattle.lucy_word.proofs.shortest.shortest_turn.Given as goal

abbrev pub invariant-loop-rest : goal.invariant-loop-rest
invariant-loop-rest l = Trying l.period l.turn l.rest l.factor l.refused

abbrev pub decreases-loop-rest : goal.decreases-loop-rest
decreases-loop-rest l = l.rest + (length l.period + 1 - l.factor)
