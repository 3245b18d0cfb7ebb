use Rattle.lucy_explain.proofs.LineLaws as laws
use Rattle.lucy_explain.proofs.laws.lines_follow.Goals as goal

pub returns-clause-follows : goal.returns-clause-follows
returns-clause-follows c = laws.follows

pub returns-clause-sum : goal.returns-clause-sum
returns-clause-sum c = laws.sums
