use Rattle.lucy_explain.proofs.ChainLaws as laws
use Rattle.lucy_explain.proofs.chain.chains_are_least.Goals as goal

pub returns-clause-sum : goal.returns-clause-sum
returns-clause-sum c = laws.chain_sums

pub returns-clause-least : goal.returns-clause-least
returns-clause-least c = laws.least
