use Rattle.std.proofs.Common.{arith}
use Rattle.lucy_word.proofs.BitsLaws.{ones_to-le}
use Rattle.lucy_net.proofs.count.operations_of.Goals as goal

pub operations-requires-clause-early : goal.operations-requires-clause-early
operations-requires-clause-early c = omega (arith, c.ones.ensures, ones_to-le c.args.actor.now.firing c.args.instants, c.requires.early)
