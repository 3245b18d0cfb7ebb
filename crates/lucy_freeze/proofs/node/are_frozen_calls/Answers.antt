use Rattle.std.proofs.Common.{rules}
use Rattle.lucy_freeze.specs.Frozen.{IsFrozenCall}
use Rattle.lucy_freeze.specs.Images.{renumbering_of, pair_of}
use Rattle.lucy_freeze.proofs.TestLaws.{from_one_more}
use Rattle.lucy_freeze.proofs.node.are_frozen_calls.Goals as goal

pub each-preserved : goal.each-preserved
each-preserved c = from_one_more (IsFrozenCall (renumbering_of c.args.images.now) (pair_of c.args.both)) c.each.i c.each.invariant (search rules)
