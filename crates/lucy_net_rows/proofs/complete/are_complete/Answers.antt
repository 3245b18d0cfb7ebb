use Rattle.std.proofs.Common.{arith}
use Rattle.std.proofs.lemmas.List.Elements.{AllWithin-more, at_read}
use Rattle.lucy_worker.specs.News.{IsNew}
use Rattle.lucy_net_rows.proofs.HandLaws.{ends_more}
use Rattle.lucy_net_rows.proofs.complete.are_complete.Goals as goal

pub loop-part-preserved : goal.loop-part-preserved
loop-part-preserved c =
    let new : IsNew c.part-item.result = c.is_complete.ensures c.if-not-is_complete.false in record {
      new = AllWithin-more IsNew c.args.parts.now 0 c.loop-part.part-index c.loop-part.invariant.new (at_read c.args.parts.now IsNew c.loop-part.part-index c.part-item.result c.loop-part-test.true c.part-item.is new);
      few = (let more = ends_more c.args.parts.now c.loop-part.part-index c.part-item.result c.loop-part-test.true c.part-item.is in let few = c.loop-part.invariant.few in omega arith);
    }
