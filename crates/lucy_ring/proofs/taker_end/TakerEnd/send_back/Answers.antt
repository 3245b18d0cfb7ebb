use Rattle.std.proofs.Common.{rules, arith}
use Rattle.std.proofs.lemmas.Grind.{common_steps}
use Rattle.lucy_ring.proofs.Names.{taker_keeps}
use Rattle.lucy_ring.proofs.taker_end.TakerEnd.send_back.Goals as goal

pub returns-then-is_ok-clause-ring : goal.returns-then-is_ok-clause-ring
returns-then-is_ok-clause-ring c = taker_keeps _ _ (search rules) (search rules) (search rules) (grind (arith, common_steps)) (search rules)

pub returns-else-is_ok-clause-ring : goal.returns-else-is_ok-clause-ring
returns-else-is_ok-clause-ring c = taker_keeps _ _ (search rules) (search rules) (search rules) (search rules) (search rules)
