use Rattle.std.proofs.Math.Nat.{pos_of_dvd_of_pos}
use Rattle.lucy_word.proofs.Multiples.{lcm_by_gcd}
use Rattle.lucy_word.proofs.multiple.lcm.Goals as goal

pub nonzero_div-result : goal.nonzero_div-result
nonzero_div-result c = pos_of_dvd_of_pos c.gcd.ensures.0 c.requires.left

pub returns-clause-least : goal.returns-clause-least
returns-clause-least c = lcm_by_gcd c.args.a c.args.b c.gcd.result c.requires.left c.requires.right c.gcd.ensures
