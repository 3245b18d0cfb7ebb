use Rattle.std.proofs.Common.{rules}
use Rattle.lucy_freeze.specs.Frozen.{IsReadFor}
use Rattle.lucy_freeze.specs.Images.{renumbering_of, pair_of}
use Rattle.lucy_freeze.proofs.TestLaws.{both_more}
use Rattle.lucy_freeze.proofs.same.are_read.Goals as goal

pub each-preserved : goal.each-preserved
each-preserved c = both_more (IsReadFor (renumbering_of c.args.images.now) (pair_of c.args.both)) c.args.places.now c.args.reads.now c.each.i c.each.invariant (search rules)
