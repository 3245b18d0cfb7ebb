use Rattle.std.proofs.Common.{rules, arith}
use Rattle.std.proofs.lemmas.Grind.{common_steps}
use Rattle.lucy_ring.proofs.Names.{giver_keeps}
use Rattle.lucy_ring.proofs.giver_end.GiverEnd.send.Goals as goal

pub returns-clause-ring : goal.returns-clause-ring
returns-clause-ring c = giver_keeps _ _ (search rules) (search rules) (grind (arith, common_steps)) (search rules) (search rules)

pub returns-then-is_err-clause-ring : goal.returns-then-is_err-clause-ring
returns-then-is_err-clause-ring c = giver_keeps _ _ (search rules) (search rules) (search rules) (search rules) (search rules)
