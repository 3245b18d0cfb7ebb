use Rattle.lucy_results.proofs.LaterLaws.{streams_on}
use Rattle.lucy_results.proofs.laws.streams_go_on.Goals as goal

pub returns : goal.returns
returns c = λ kinds inputs more nodes clocks s t proper schedule fronts l suffice. streams_on nodes clocks proper schedule kinds inputs more fronts s t l suffice
