use Rattle.std.proofs.Common.{arith}
use Rattle.std.proofs.lemmas.Option.{slice_get_within}
use Rattle.lucy_lines.proofs.WalkLaws.{one_more_begun, others_more}
use Rattle.lucy_lines.proofs.block.begin_lists.Goals as goal

pub loop-walk-preserved : goal.loop-walk-preserved
loop-walk-preserved c = record {
  begun = one_more_begun c.args.walks.now c.loop-walk.walks c.loop-walk.walk-index c.walk-item.result c.begin_list.new.self (omega arith) c.begin_list.ensures
      c.loop-walk.invariant.begun c.loop-walk.invariant.others;
  others = others_more c.args.walks.now c.loop-walk.walks c.loop-walk.walk-index c.begin_list.new.self c.loop-walk.invariant.others;
}

pub returns : goal.returns
returns c = λ k w at. c.loop-walk.invariant.begun k w (omega (arith, slice_get_within c.args.walks.now k w at)) at
