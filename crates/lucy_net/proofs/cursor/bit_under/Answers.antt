use Rattle.lucy_net.proofs.CursorLaws.{reads_when, reads_merge}
use Rattle.lucy_net.proofs.cursor.bit_under.Goals as goal

pub returns-in-When : goal.returns-in-When
returns-in-When c fired has = reads_when c.args.kind.now c.in-When.word fired c.args.cursor c.bit.result c.in-When.is c.bit.ensures has

pub returns-in-Merge : goal.returns-in-Merge
returns-in-Merge c fired has = reads_merge c.args.kind.now c.in-Merge.word fired c.args.cursor c.bit-in-Merge.result c.in-Merge.is c.bit-in-Merge.ensures has
