use Rattle.std.proofs.Common.{arith}
use Rattle.lucy_word.proofs.BitsLaws.{ones_to-le}
use Rattle.lucy_net.proofs.advance.advance.Goals as goal

pub firing_move-requires-clause-fits : goal.firing_move-requires-clause-fits
firing_move-requires-clause-fits c = omega (arith, ones_to-le c.args.actor.now.firing c.args.before, c.ones.ensures, c.requires.fits)
