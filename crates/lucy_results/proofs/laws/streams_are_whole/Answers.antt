use Rattle.lucy_results.proofs.StreamLaws.{lengths}
use Rattle.lucy_results.proofs.laws.streams_are_whole.Goals as goal

pub returns : goal.returns
returns c = λ kinds inputs nodes clocks instants proper schedule suffice. lengths nodes clocks proper schedule kinds inputs instants suffice
