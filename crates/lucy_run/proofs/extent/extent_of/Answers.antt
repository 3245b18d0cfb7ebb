use Rattle.lucy_run.proofs.HorizonLaws.{horizon_at, more_at}
use Rattle.lucy_run.proofs.extent.extent_of.Goals as goal

pub returns-clause-horizon : goal.returns-clause-horizon
returns-clause-horizon c =
    horizon_at c.args.words.now _ _ c.args.items.now c.args.given _ c.horizon-horizon.result c.deref.ensures.value c.most_instants.ensures c.in_ok-counts.ensures.each c.horizon-horizon.ensures

pub returns-clause-ending : goal.returns-clause-ending
returns-clause-ending c =
    let more = more_at c.args.words.now _ _ c.args.items.now _ c.allows_more-more.result c.deref-2.ensures.value c.number.ensures c.in_ok-counts.ensures.each c.allows_more-more.ensures in
    c.ending_for-ending.ensures c.args.words.now c.args.items.now more
