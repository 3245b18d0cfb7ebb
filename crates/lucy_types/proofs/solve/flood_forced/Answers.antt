use Rattle.std.proofs.Common.{◌+◌, sym, subst}
use Rattle.lucy_types.specs.Graphs.{HasTrue}
use Rattle.lucy_types.proofs.SolveLaws.{ForcedUpto, forced_yes, forced_no}
use Rattle.lucy_types.proofs.solve.flood_forced.Goals as goal
use Rattle.lucy_types.proofs.solve.flood_forced.Goals.{then-is+in_ok-flood_unless, else-is}

pub each-preserved : goal.each-preserved
each-preserved c = elim c.if-is.branch [
  | then-is+in_ok-flood_unless w ↦
      subst (λ f. ForcedUpto c.args.graph.now (HasTrue c.args.forced.now) c.args.ty c.args.flood.now (c.each.place + 1) f) (sym w.flood-is)
      (forced_yes c.args.graph.now (HasTrue c.args.forced.now) c.args.ty c.args.flood.now c.each.flood w.flood_unless.new.flood c.each.place c.each.invariant
      w.in_ok-flood_unless.ensures.settles w.in_ok-flood_unless.ensures.reached)
  | else-is w ↦
      subst (λ f. ForcedUpto c.args.graph.now (HasTrue c.args.forced.now) c.args.ty c.args.flood.now (c.each.place + 1) f) (sym w.flood-is)
      (forced_no c.args.graph.now (HasTrue c.args.forced.now) c.args.ty c.args.flood.now c.each.flood c.each.place c.each.invariant (λ h. cc (h, w.if-is.false)))
]
