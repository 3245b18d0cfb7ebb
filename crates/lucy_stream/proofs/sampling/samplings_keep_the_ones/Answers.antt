use Rattle.lucy_stream.proofs.KeptLaws.{kept-item, kept-length}
use Rattle.lucy_stream.proofs.sampling.samplings_keep_the_ones.Goals as goal

pub returns : goal.returns
returns c = record { item = kept-item; count = kept-length }
