use Rattle.std.proofs.Common.{◌*◌, ◌<◌, ◌≤◌, ℕ, arith}
use Rattle.std.proofs.Math.Nat.{pos_of_dvd_of_pos}
use Rattle.std.proofs.lemmas.Nat.{mul-le}
use Rattle.lucy_rates.proofs.Gauss.{apart, quotient_some, reduced_same}
use Rattle.lucy_rates.proofs.fraction.times.Goals as goal

product : (a b : ℕ) → 0 < a → 0 < b → 0 < a * b
product a b h k = let z : 1 * 1 ≤ a * b = mul-le 1 1 a b h k in omega arith

pub returns-clause-lowest : goal.returns-clause-lowest
returns-clause-lowest c = apart _ _ c.gcd-common.result c.gcd-common.ensures (pos_of_dvd_of_pos c.gcd-common.ensures.0 (product _ _ c.requires.some c.requires.by))

pub returns-clause-same : goal.returns-clause-same
returns-clause-same c = reduced_same _ _ c.gcd-common.result c.gcd-common.ensures

pub returns-clause-some : goal.returns-clause-some
returns-clause-some c = quotient_some _ c.gcd-common.result c.gcd-common.ensures.0 (product _ _ c.requires.some c.requires.by)

pub returns-clause-over : goal.returns-clause-over
returns-clause-over c = quotient_some _ c.gcd-common.result c.gcd-common.ensures.1 (product _ _ c.requires.over c.requires.per)

pub nonzero_div-result : goal.nonzero_div-result
nonzero_div-result c = pos_of_dvd_of_pos c.gcd-common.ensures.0 (product _ _ c.requires.some c.requires.by)

pub nonzero_div-result-2 : goal.nonzero_div-result-2
nonzero_div-result-2 c = pos_of_dvd_of_pos c.gcd-common.ensures.0 (product _ _ c.requires.some c.requires.by)
