use Rattle.lucy_results.proofs.LaterLaws.{streams_same}
use Rattle.lucy_results.proofs.laws.streams_agree.Goals as goal

pub returns : goal.returns
returns c = λ kinds inputs more nodes clocks instants proper schedule fronts suffice. streams_same nodes clocks proper schedule kinds inputs more fronts instants suffice
