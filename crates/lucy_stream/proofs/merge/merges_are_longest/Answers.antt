use Rattle.lucy_stream.proofs.MergeLaws.{merged-is}
use Rattle.lucy_stream.proofs.merge.merges_are_longest.Goals as goal

pub returns : goal.returns
returns c = merged-is
