use Rattle.std.proofs.Common.{arith}
use Rattle.lucy_word.specs.Stored.{IsStored}
use Rattle.lucy_net.proofs.WordLaws.{all_actors_more, all_rings_more, all_words}
use Rattle.lucy_net.proofs.words.net_words_are_stored.Goals as goal

pub actors-preserved : goal.actors-preserved
actors-preserved c = all_actors_more IsStored c.list-actor-items.result.now c.actors.actor-index c.actor-item.result (omega arith) c.actor-item.is c.actors.invariant c.words_are_stored.ensures

pub rings-preserved : goal.rings-preserved
rings-preserved c = all_rings_more IsStored c.list-ring-items.result.now c.rings.ring-index c.ring-item.result (omega arith) c.ring-item.is c.rings.invariant c.words_are_stored-in-rings.ensures c.words_are_stored-in-rings-2.ensures

pub returns : goal.returns
returns c = all_words IsStored c.args.net.now c.list-actor-items.result.now c.list-ring-items.result.now c.actors.actor-index c.rings.ring-index c.list-actor-items.ensures c.list-ring-items.ensures (omega arith) (omega arith) c.actors.invariant c.rings.invariant
