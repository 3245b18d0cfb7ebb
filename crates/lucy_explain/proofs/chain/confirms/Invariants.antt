use Rattle.std.proofs.Common.{take}
use Rattle.lucy_explain.specs.Chains.{IsChain}
use Rattle.lucy_explain.proofs.chain.confirms.Given as goal

abbrev pub invariant-each : goal.invariant-each
invariant-each l = IsChain l.list 0 (take l.position-index l.chain) l.end.variable l.end.later
