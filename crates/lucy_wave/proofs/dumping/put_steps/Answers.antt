use Rattle.lucy_wave.specs.Seen.{all_seen}
use Rattle.lucy_wave.proofs.DumpLaws.{no_steps, steps_more}
use Rattle.lucy_wave.proofs.dumping.put_steps.Goals as goal

pub each-init : goal.each-init
each-init c = no_steps (all_seen c.args.variables.now) c.args.out.now.items

pub each-preserved : goal.each-preserved
each-preserved c =
    let l = c.each in
    steps_more (all_seen c.args.variables.now) l.before c.args.out.now.items l.out.items _ _ l.invariant c.in_ok-put_time.ensures c.in_ok-put_changes.ensures
