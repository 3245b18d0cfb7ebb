use Rattle.std.proofs.Common.{ℕ, List, length, sym, subst, below_more, arith}
use Rattle.lucy_need.specs.Meeting.{IsWithin}
use Rattle.lucy_need.specs.declared.need.Need.{Need}
use Rattle.lucy_rates.specs.declared.fraction.Fraction.{Fraction}
use Rattle.lucy_rates.specs.Walks.{first_of, second_of, need_at, no_need}
use Rattle.lucy_rates.specs.Trees.{IsBalanced}
use Rattle.lucy_rates.specs.Forests.{rate_at, IsRateFraction}
use Rattle.lucy_rates.proofs.Growing.{both_within, need_is}
use Rattle.lucy_rates.proofs.Balancing.{balanced_of, even_of}
use Rattle.lucy_rates.proofs.Showing.{even_to, even_from}
use Rattle.lucy_rates.proofs.walk.first_unbalanced.Goals as goal

-- what the test asks of a need and of the rates
record Asks (n : Need) (rates : List Fraction) : Type 0 where
  within : IsWithin (length rates) n
  first : IsRateFraction (rate_at rates (first_of n).clock)
  second : IsRateFraction (rate_at rates (second_of n).clock)

pub loop-k-init : goal.loop-k-init
loop-k-init c = λ j l. absurd (omega arith)

pub overflow_cast-result : goal.overflow_cast-result
overflow_cast-result c = let t = c.loop-k-test.true in let few = c.requires.few in omega arith

pub returns-clause-none : goal.returns-clause-none
returns-clause-none c = λ j l. c.loop-k.invariant j (let t = c.loop-k-test.false in omega arith)

pub is_even-requires : goal.is_even-requires
is_even-requires c =
    let f = c.args.forest.now in
    let k = c.loop-k.k in
    let needs = c.args.needs.now in
    let t = c.loop-k-test.true in
    let within = c.requires.within k no_need t in
    let ends = both_within (length f.rates.items) (need_at needs k) within in
    let e = need_is needs k c.index-needs-k.result t c.index-needs-k.is in
    let here : Asks (need_at needs k) f.rates.items = record { within = within; first = c.requires.forest.rate _ ends.0; second = c.requires.forest.rate _ ends.1 } in
    let there : Asks c.index-needs-k.result c.deref.result.now = subst (Asks c.index-needs-k.result) (sym c.deref.ensures.value) (subst (λ (n : Need). Asks n f.rates.items) (sym e) here) in
    record { within = there.within; first = there.first; second = there.second }

pub loop-k-preserved : goal.loop-k-preserved
loop-k-preserved c =
    let f = c.args.forest.now in
    let needs = c.args.needs.now in
    let k = c.loop-k.k in
    let t = c.loop-k-test.true in
    let even = c.is_even.ensures.0 c.if-not-is_even.false in
    below_more (λ (j : ℕ). IsBalanced needs (need_at needs j)) k c.loop-k.invariant
    (balanced_of needs (length f.rates.items) f.roots.items f.parents.items f.rates.items k c.requires.within c.requires.forest t
    (even_to needs k c.index-needs-k.result c.deref.result.now f.rates.items t c.index-needs-k.is c.deref.ensures.value even))

pub returns-then-not-is_even-clause-found : goal.returns-then-not-is_even-clause-found
returns-then-not-is_even-clause-found c =
    let f = c.args.forest.now in
    let needs = c.args.needs.now in
    let k = c.loop-k.k in
    let t = c.loop-k-test.true in (
      t,
      (λ balanced. (let even = even_of needs (length f.rates.items) f.roots.items f.parents.items f.rates.items k c.requires.within c.requires.forest t balanced in
          let yes' = c.is_even.ensures.1 (even_from needs k c.index-needs-k.result c.deref.result.now f.rates.items t c.index-needs-k.is c.deref.ensures.value even) in
          let no' = c.if-not-is_even.true in (cc))),
      c.loop-k.invariant,
    )
