use Rattle.lucy_diagram.proofs.LayeringLaws.{counts_none}
use Rattle.lucy_diagram.proofs.layers.work.Work.new.Goals as goal

pub returns-clause-counts : goal.returns-clause-counts
returns-clause-counts c =
    counts_none c.args.ways.now c.args.count c.in_ok-found.found.items c.in_ok-least.least.items c.in_ok-waits.waits.items c.ranges.count.fits c.in_ok-found.ensures (c.in_ok-least.ensures.items_if_clones_equal (λ y e. e))
    c.in_ok-waits.ensures.count c.in_ok-waits.ensures.each
