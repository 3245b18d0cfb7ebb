use Rattle.std.proofs.Common.{rules, sym, subst}
use Rattle.lucy_flat.specs.Clocked.{AreClocked}
use Rattle.lucy_program.proofs.AcceptedLaws.{clocked}
use Rattle.lucy_front.proofs.ScheduledLaws.{flat_refuses}
use Rattle.lucy_front.proofs.scheduling.scheduled.Goals as goal

pub flatten-requires : goal.flatten-requires
flatten-requires c =
    let program = c.args.program in
    subst (AreClocked program.placed.nodes) (sym c.deref.ensures.value) (clocked program.placed.nodes program.clocks.items c.requires.3.clocks)

pub returns-in_err-net-clause-refused : goal.returns-in_err-net-clause-refused
returns-in_err-net-clause-refused c =
    let program = c.args.program in
    let why = flat_refuses program.placed.nodes c.deref.result.now program.clocks.items _ c.deref.ensures.value c.in_err-net.ensures.refused in
    search rules
