use Rattle.lucy_results.proofs.HorizonLaws.{past_most}
use Rattle.lucy_results.proofs.instants.allows_more.Goals as goal

pub returns : goal.returns
returns c = λ inputs are. past_most c.args.words.now inputs c.args.most c.horizon.result (c.horizon.ensures inputs are)
