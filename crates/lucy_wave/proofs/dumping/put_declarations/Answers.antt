use Rattle.lucy_wave.proofs.DumpLaws.{declarations_more}
use Rattle.lucy_wave.proofs.dumping.put_declarations.Goals as goal

pub each-preserved : goal.each-preserved
each-preserved c =
    let l = c.each in
    declarations_more c.args.variables.now l.i c.index-variables-i.result _ _ _ c.each-test.true c.index-variables-i.is c.in_ok-put_declaration.ensures l.invariant
