use Rattle.std.proofs.Common.{arith}
use Rattle.lucy_word.proofs.CuttingLaws.{summing_more, summing_long, summing_ends}
use Rattle.lucy_word.proofs.spelling.add_up.Goals as goal

pub returns-then-more-most-clause-sums : goal.returns-then-more-most-clause-sums
returns-then-more-most-clause-sums c is h e =
    summing_long c.args.items.now c.items.rest.now c.items.sums.bits c.items.sums.ones is c.in-Some.more.bits c.in-Some.more.ones c.in-Some.behind.now c.args.most
    (c.items.invariant.so is h e) c.in-Some.ensures.sums c.items.invariant.short (omega (arith, c.if-more-most.true))

pub items-preserved : goal.items-preserved
items-preserved c = record {
  few = omega (arith, c.items.invariant.few, c.in-Some.ensures.within);
  short = omega (arith, c.if-more-most.false, c.items.invariant.short);
  so = λ is h e.
      summing_more c.args.items.now c.items.rest.now c.items.sums.bits c.items.sums.ones is c.in-Some.more.bits c.in-Some.more.ones c.in-Some.behind.now
      (c.items.invariant.so is h e) c.in-Some.ensures.sums (omega (arith, c.if-more-most.false, c.requires));
}

pub returns-clause-sums : goal.returns-clause-sums
returns-clause-sums c is h e = summing_ends c.args.items.now c.items.rest.now c.items.sums.bits c.items.sums.ones is (c.items.invariant.so is h e) c.in_default.ensures.sums
