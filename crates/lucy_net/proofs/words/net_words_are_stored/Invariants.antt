use Rattle.std.proofs.Common.{map, take}
use Rattle.std.specs.Prelude.{All}
use Rattle.lucy_word.specs.Stored.{IsStored}
use Rattle.lucy_net.specs.Words.{ring_words}
use Rattle.lucy_net.proofs.words.net_words_are_stored.Given as goal

abbrev pub invariant-actors : goal.invariant-actors
invariant-actors l = All IsStored (map (λ actor. actor.firing) (take l.actor-index l.actor-items))

abbrev pub invariant-rings : goal.invariant-rings
invariant-rings l = All IsStored (ring_words (take l.ring-index l.ring-items))
