use Rattle.lucy_results.proofs.StreamLaws.{two_agree}
use Rattle.lucy_results.proofs.laws.two_ways_agree.Goals as goal

pub returns : goal.returns
returns c = λ seen nodes clocks i place a actor proper flat sound params suffice e out. two_agree seen nodes clocks i place a actor proper flat sound params suffice e out
