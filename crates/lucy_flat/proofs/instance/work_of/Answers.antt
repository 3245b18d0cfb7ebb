use Rattle.lucy_flat.proofs.InstanceLaws.{main_alone, alone_main, none_tells, tells_none}
use Rattle.lucy_flat.proofs.instance.work_of.Goals as goal

pub returns-clause-ok : goal.returns-clause-ok
returns-clause-ok c = λ path is.
    let nodes = c.args.program.placed.now.nodes in
    let clocks = c.args.program.clocks.now in
    let proper = c.requires.program.proper in
    let form = c.in_ok-kind.ensures path (λ t. main_alone nodes clocks proper path c.args.of is (none_tells c.args.of.caller c.is_none.result c.is_none.ensures t))
    (λ p. tells_none c.args.of.caller c.is_none.result c.is_none.ensures (alone_main nodes clocks proper path c.args.of is p)) in
    (form, c.in_ok-reads.ensures.ok path is)
