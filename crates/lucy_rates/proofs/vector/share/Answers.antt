use Rattle.std.proofs.Common.{◌*◌}
use Rattle.std.proofs.Math.Nat.{pos_of_dvd_of_pos}
use Rattle.lucy_rates.proofs.Factoring.{product_some}
use Rattle.lucy_rates.proofs.Gauss.{times_law, quotient_some}
use Rattle.lucy_rates.proofs.vector.share.Goals as goal

pub nonzero_div-result : goal.nonzero_div-result
nonzero_div-result c = pos_of_dvd_of_pos c.gcd.ensures.0 (product_some c.args.length c.args.rate.den c.requires.length c.requires.rate.den)

pub returns-clause-exact : goal.returns-clause-exact
returns-clause-exact c = λ n. times_law c.args.rate.num c.args.rate.den c.args.length c.gcd.result n c.requires.rate.lowest c.requires.rate.den c.requires.length c.gcd.ensures
    (pos_of_dvd_of_pos c.gcd.ensures.0 (product_some c.args.length c.args.rate.den c.requires.length c.requires.rate.den))

pub returns-clause-some : goal.returns-clause-some
returns-clause-some c = quotient_some (c.args.length * c.args.rate.den) c.gcd.result c.gcd.ensures.0 (product_some c.args.length c.args.rate.den c.requires.length c.requires.rate.den)
