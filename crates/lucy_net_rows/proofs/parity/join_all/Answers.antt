use Rattle.std.proofs.Common.{List, sym, subst}
use Rattle.lucy_net_rows.specs.ByHand.{AreJoined}
use Rattle.lucy_net_rows.proofs.HandLaws.{none_joined, more_joined}
use Rattle.lucy_net_rows.proofs.parity.join_all.Goals as goal

pub loop-spec-init : goal.loop-spec-init
loop-spec-init c = subst (AreJoined c.args.even.now.items c.args.odd.now.items) (sym c.requires.none) (none_joined c.args.even.now.items c.args.odd.now.items c.requires.begun)

pub loop-spec-preserved : goal.loop-spec-preserved
loop-spec-preserved c =
    subst (AreJoined c.join.new.even.items c.join.new.odd.items) (sym c.in_ok-push.ensures)
    (more_joined c.loop-spec.even.items c.loop-spec.odd.items c.join.new.even.items c.join.new.odd.items c.loop-spec.links.items c.in_ok-link.link c.ends_are_kept.ensures.rings c.loop-spec.invariant c.in_ok-link.ensures)
