use Rattle.std.proofs.Common.{refl, arith}
use Rattle.lucy_app.proofs.Pairs.{is_far, is_near}
use Rattle.lucy_app.proofs.order.compared.Goals as goal

pub returns-then-horizon_of-most-clause-refused : goal.returns-then-horizon_of-most-clause-refused
returns-then-horizon_of-most-clause-refused c =
    (is_far _ _ c.horizon_of.result c.horizon_of.ensures.is (omega (arith, c.if-horizon_of-most.true, c.number-most.ensures)), refl)

pub returns-clause-ok : goal.returns-clause-ok
returns-clause-ok c = (
  c.adapt.result,
  c.adapt.ensures.is,
  c.in_ok-line.ensures,
  is_near _ _ c.horizon_of.result c.horizon_of.ensures.is (omega (arith, c.if-horizon_of-most.false, c.number-most.ensures)),
)
