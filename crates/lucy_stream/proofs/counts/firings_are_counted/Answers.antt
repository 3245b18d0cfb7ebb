use Rattle.lucy_stream.proofs.GiveCounts.{gives_in_ops}
use Rattle.lucy_stream.proofs.TakeCounts.{takes_in_ops}
use Rattle.lucy_stream.proofs.counts.firings_are_counted.Goals as goal

pub returns : goal.returns
returns c = record { gives = gives_in_ops; takes = takes_in_ops }
