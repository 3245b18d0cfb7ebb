use Rattle.std.proofs.Common.{◌++◌, ap, sym, ◌∙◌, arith}
use Rattle.lucy_word.proofs.RunLaws.{run_counted}
use Rattle.lucy_word.proofs.print.digits.Goals as goal

pub bits-preserved : goal.bits-preserved
bits-preserved c = record {
  few = omega (arith, c.bits.invariant.few);
  within = c.alike-more.ensures.within;
  so =
      ap (λ t. c.bits.text.items ++ t) (sym (run_counted c.bits.bit c.bits.n c.alike-more.result c.args.bits.now c.bits.at c.alike-more.ensures.within c.alike-more.ensures.alike))
      ∙ c.bits.invariant.so;
}
