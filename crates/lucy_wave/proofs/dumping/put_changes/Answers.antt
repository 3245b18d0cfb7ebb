use Rattle.lucy_wave.proofs.DumpLaws.{changes_more}
use Rattle.lucy_wave.proofs.dumping.put_changes.Goals as goal

pub each-preserved : goal.each-preserved
each-preserved c =
    let l = c.each in
    changes_more c.args.variables.now l.i c.args.step c.index-variables-i.result _ _ _ c.each-test.true c.index-variables-i.is c.in_ok-put_change.ensures l.invariant
