use Rattle.std.proofs.Common.{get_or}
use Rattle.std.proofs.lemmas.Option.{slice_get-get_or}
use Rattle.lucy_net_rows.proofs.HandLaws.{nowhere, met_linked}
use Rattle.lucy_net_rows.proofs.by_hand.meet_all.Goals as goal

pub meet_at-requires : goal.meet_at-requires
meet_at-requires c =
    c.loop-link.invariant c.loop-link.link-index (get_or c.args.links.now c.loop-link.link-index nowhere) (slice_get-get_or c.args.links.now c.loop-link.link-index nowhere c.loop-link-test.true)

pub loop-link-preserved : goal.loop-link-preserved
loop-link-preserved c =
    met_linked c.loop-link.even.parts c.loop-link.odd.parts c.meet_at.new.even.parts c.meet_at.new.odd.parts c.args.links.now c.loop-link.link-index (get_or c.args.links.now c.loop-link.link-index nowhere)
    c.ends_are_kept.ensures.rings c.requires.apart (slice_get-get_or c.args.links.now c.loop-link.link-index nowhere c.loop-link-test.true) c.meet_at.ensures c.loop-link.invariant
