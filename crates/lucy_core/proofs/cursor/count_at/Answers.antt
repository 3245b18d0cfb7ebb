use Rattle.std.proofs.Common.{sym}
use Rattle.lucy_core.proofs.CursorLaws.{count_read, count_none}
use Rattle.lucy_core.proofs.cursor.count_at.Goals as goal

pub returns-in-Some : goal.returns-in-Some
returns-in-Some c = count_read c.args.counts.now c.args.actor c.in-Some.count (sym c.in-Some.ensures)

pub returns-in-None : goal.returns-in-None
returns-in-None c = count_none c.args.counts.now c.args.actor (sym c.in-None.ensures)
