use Rattle.std.proofs.Common.{refl, arith}
use Rattle.lucy_net.proofs.AgendaLaws.{place_within}
use Rattle.lucy_net.proofs.agenda.instant_of.Goals as goal

pub returns-in-None : goal.returns-in-None
returns-in-None c =
    let far = c.in-None.ensures.none.0 refl in
    absurd (omega (arith, place_within c.args.actor.now.firing c.args.firing far.0 c.args.instants c.requires.among far.1, far.2, c.requires.early))
