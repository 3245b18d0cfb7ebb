use Rattle.std.proofs.Common.{length, ap, arith}
use Rattle.lucy_net.proofs.PlayLaws.{actor_here}
use Rattle.lucy_net.proofs.NetLaws.{gives_short}
use Rattle.lucy_net.proofs.count.operations_in.Goals as goal

pub operations_of-operations-requires-clause-arity : goal.operations_of-operations-requires-clause-arity
operations_of-operations-requires-clause-arity c =
    (c.requires.proper.actors c.loop-actor.actor-index c.actor-item.result (actor_here c.args.net.now.actors c.list-actor-items.result.now c.loop-actor.actor-index c.actor-item.result c.list-actor-items.ensures (omega (arith, ap length c.list-actor-items.ensures)) c.actor-item.is)).arity

pub operations_of-operations-requires-clause-gives : goal.operations_of-operations-requires-clause-gives
operations_of-operations-requires-clause-gives c =
    omega (
      arith,
      c.requires.proper.few_rings,
      gives_short c.args.net.now c.loop-actor.actor-index c.actor-item.result
          (c.requires.proper.actors c.loop-actor.actor-index c.actor-item.result (actor_here c.args.net.now.actors c.list-actor-items.result.now c.loop-actor.actor-index c.actor-item.result c.list-actor-items.ensures (omega (arith, ap length c.list-actor-items.ensures)) c.actor-item.is)),
    )
