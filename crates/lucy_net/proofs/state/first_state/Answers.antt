use Rattle.std.proofs.Common.{length, ap, arith}
use Rattle.lucy_net.proofs.StateLaws.{first_idle}
use Rattle.lucy_net.proofs.state.first_state.Goals as goal

pub returns-then-rings-eq0 : goal.returns-then-rings-eq0
returns-then-rings-eq0 c = first_idle c.args.actor.now c.args.instants c.ones-quota.result c.first_cursor-cursor.result c.requires c.ones-quota.ensures (omega (arith, ap length c.list.ensures, ap length c.list-2.ensures))
