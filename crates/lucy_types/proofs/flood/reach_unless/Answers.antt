use Rattle.std.proofs.Common.{◌∙◌, ap, not, length, ◌≡◌, arith}
use Rattle.lucy_types.proofs.FloodLaws.{reach_grown, unmarked_read, marked_read, grown_none}
use Rattle.lucy_types.proofs.flood.reach_unless.Goals as goal

pub returns-in_ok-reach : goal.returns-in_ok-reach
returns-in_ok-reach c =
    reach_grown c.args.graph.now c.args.place c.args.from c.args.ty c.args.flood.now c.reach.new.flood record {
      flood = c.requires.flood;
      first = c.requires.first;
      last = c.requires.last;
      comes = c.requires.comes;
      unmarked = unmarked_read c.args.flood.now c.args.place c.index.result.now c.index.ensures (c.is_none.ensures ∙ ap not c.if-is_none.true);
      queue = c.in_ok-reach.ensures.queue;
      marks = c.in_ok-reach.ensures.marks;
    }

pub returns-else-is_none : goal.returns-else-is_none
returns-else-is_none c =
    let e : length c.args.flood.now.marks.items ≡ length c.args.graph.now.near.items = c.requires.flood.room in
    grown_none c.args.graph.now c.args.place c.args.ty c.args.flood.now c.requires.flood c.requires.may
    (marked_read c.args.flood.now c.args.place c.index.result.now (omega arith) c.index.ensures c.if-is_none.ensures)
