use Rattle.std.proofs.Common.{◌≡◌, ◌+◌, length, inl, inr, arith}
use Rattle.lucy_types.proofs.FloodLaws.{unmarked_read, marked_read}
use Rattle.lucy_types.proofs.SolveLaws.{open_none, open_step, open_all}
use Rattle.lucy_types.proofs.solve.flood_open.Goals as goal
use Rattle.lucy_types.proofs.solve.flood_open.Goals.{then-is_none+in_ok-flood_from, else-is_none}

pub each-init : goal.each-init
each-init c = open_none c.args.graph.now c.args.flood.now c.requires.settled c.requires.fixed

pub flood_from-requires-clause-unmarked : goal.flood_from-requires-clause-unmarked
flood_from-requires-clause-unmarked c = unmarked_read c.each.flood c.each.place c.index.result.now c.index.ensures c.if-is_none.ensures

pub flood_from-requires-clause-fresh : goal.flood_from-requires-clause-fresh
flood_from-requires-clause-fresh c = λ p e. omega (arith, (c.each.invariant.bounds p (c.each.classes + 1) e).1)

pub each-preserved : goal.each-preserved
each-preserved c =
    let e : length c.each.flood.marks.items ≡ length c.args.graph.now.near.items = c.each.invariant.settled.flood.room in
    open_step c.args.graph.now c.args.flood.now c.each.flood c.if-is_none.flood c.each.place c.each.classes c.if-is_none.classes c.each.invariant
    (elim c.if-is_none.branch [
      | then-is_none+in_ok-flood_from w ↦ inl (w.flood_from.new.flood, w.flood-is, w.classes-is, w.in_ok-flood_from.ensures.settles, w.in_ok-flood_from.ensures.reached)
      | else-is_none w ↦ inr (w.flood-is, w.classes-is, marked_read c.each.flood c.each.place c.index.result.now (omega arith) c.index.ensures w.if-is_none.ensures)
    ])

pub returns-after-is_none : goal.returns-after-is_none
returns-after-is_none c =
    let e : length c.each.flood.marks.items ≡ length c.args.graph.now.near.items = c.each.invariant.settled.flood.room in
    open_all c.args.graph.now c.args.flood.now c.if-is_none.flood (c.each.place + 1) c.if-is_none.classes
    (open_step c.args.graph.now c.args.flood.now c.each.flood c.if-is_none.flood c.each.place c.each.classes c.if-is_none.classes c.each.invariant
    (elim c.if-is_none.branch [
      | then-is_none+in_ok-flood_from w ↦ inl (w.flood_from.new.flood, w.flood-is, w.classes-is, w.in_ok-flood_from.ensures.settles, w.in_ok-flood_from.ensures.reached)
      | else-is_none w ↦ inr (w.flood-is, w.classes-is, marked_read c.each.flood c.each.place c.index.result.now (omega arith) c.index.ensures w.if-is_none.ensures)
    ]))
    (omega arith)
