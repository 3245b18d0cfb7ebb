use Rattle.lucy_run.proofs.EndsLaws.{on_ok, on_err}
use Rattle.lucy_run.proofs.ReplayLaws.{tally_failed, lines_failed, all_printed}
use Rattle.lucy_run.proofs.replaying.print.Goals as goal
use Rattle.lucy_run.proofs.replaying.print.Goals.{in-Ok-write_all+in-Ok-write, in-Ok-write_all+in-Err-write, in-Err-write_all}

pub returns-clause-left : goal.returns-clause-left
returns-clause-left g c = elim c.match-write_all.branch [
  | in-Ok-write_all+in-Ok-write w ↦ rw w.ending-is (rw w.out-is (all_printed c.args.core.now c.args.placed.now.nodes c.args.outputs.now c.args.count c.args.horizon c.in-Ok.lists c.in-Ok-tally.text.items c.deref.result.now c.in-Ok-new.writer c.args.ending
      c.in-Ok-tally.ensures c.deref.ensures.value c.in-Ok.ensures.taken c.requires.horizon c.in-Ok-new.ensures.new _ _ _ (on_ok _ _ w.in-Ok-write_all.is c.write_all.ensures.ok)
      c.requires.whole (on_ok _ _ w.in-Ok-write.is w.write.ensures.ok)))
  | in-Ok-write_all+in-Err-write w ↦ rw w.ending-is (rw w.out-is (lines_failed c.args.core.now c.args.placed.now.nodes c.args.outputs.now c.args.count c.args.horizon c.in-Ok.lists c.in-Ok-tally.text.items c.deref.result.now c.in-Ok-new.writer c.args.ending
      c.in-Ok-tally.ensures c.deref.ensures.value c.in-Ok.ensures.taken c.requires.horizon c.in-Ok-new.ensures.new _ _ _ (on_ok _ _ w.in-Ok-write_all.is c.write_all.ensures.ok)
      (on_err _ _ w.in-Err-write.is w.write.ensures.failed)))
  | in-Err-write_all w ↦ rw w.ending-is (rw w.out-is (tally_failed c.args.core.now c.args.placed.now.nodes c.args.outputs.now c.args.count c.args.horizon c.in-Ok.lists c.in-Ok-tally.text.items c.deref.result.now c.in-Ok-new.writer c.args.ending
      c.in-Ok-tally.ensures c.deref.ensures.value c.in-Ok.ensures.taken c.requires.horizon c.in-Ok-new.ensures.new _ _ (on_err _ _ w.in-Err-write_all.is c.write_all.ensures.failed)))
]
