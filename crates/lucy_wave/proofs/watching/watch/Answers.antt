use Rattle.std.proofs.Common.{length, sym, subst, rules}
use Rattle.lucy_net.specs.Proper.{IsProper}
use Rattle.lucy_wave.specs.Watching.{HasRoom}
use Rattle.lucy_wave.proofs.watching.watch.Goals as goal

pub schedule_of-requires : goal.schedule_of-requires
schedule_of-requires c =
    let room : HasRoom c.args.net.now (length c.args.places.now) = search rules in
    subst IsProper (sym c.in_ok-net.ensures) (c.requires.made room)
