use Rattle.lucy_host.specs.Host.{lent}
use Rattle.lucy_host.specs.Operators.{kinds_of}
use Rattle.lucy_make.proofs.Runs.{refused, figured}
use Rattle.lucy_make.proofs.summing.summary.Goals as goal

pub counts_of-counts-requires : goal.counts_of-counts-requires
counts_of-counts-requires g c = c.requires.accepted.2.net.flat.flat.proper.few_slots

pub returns-in-Err-clause-err : goal.returns-in-Err-clause-err
returns-in-Err-clause-err g c = refused (kinds_of (lent c.args.host.now)) c.args.accepted c.args.stages c.in-Err.end c.in-Err.ensures.err

pub returns-in_ok-print-in-Ok-clause-ok : goal.returns-in_ok-print-in-Ok-clause-ok
returns-in_ok-print-in-Ok-clause-ok g c =
    figured (kinds_of (lent c.args.host.now)) c.args.accepted c.args.stages _ _ _ _ _ _ c.in_ok-print-in-Ok.field-0.items c.in-Ok.ensures.ok
    c.counts_of-counts.ensures.actors c.counts_of-counts.ensures.rings c.counts_of-counts.ensures.slots c.in_ok-print-in-Ok.ensures
