use Rattle.std.proofs.Common.{inr, refl}
use Rattle.lucy_check.proofs.need.words_within.Goals as goal

pub returns-clause-ok : goal.returns-clause-ok
returns-clause-ok c = record {
  first = c.in_ok-a.ensures.ok;
  second = c.in_ok-b.ensures.ok;
  near = λ f. (let far = c.are_far.ensures.1 f in let near = c.if-are_far.false in (cc));
}

pub returns-then-are_far-clause-refused : goal.returns-then-are_far-clause-refused
returns-then-are_far-clause-refused c = inr (inr (refl, record { a = _; b = _; first = c.in_ok-a.ensures.ok; second = c.in_ok-b.ensures.ok; far = c.are_far.ensures.0 c.if-are_far.true }))
