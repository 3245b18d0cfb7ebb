use Rattle.std.proofs.Common.{arith}
use Rattle.std.proofs.lemmas.Result.{err_from_is_err_and}
use Rattle.lucy_rates.proofs.Asking.{at_first, at_second, first_within, second_within, root_below, factors_more, first_large, second_large}
use Rattle.lucy_rates.proofs.vector.ask_all.Goals as goal

pub ask-requires-clause-root : goal.ask-requires-clause-root
ask-requires-clause-root c =
    let e = at_first c.args.needs.now c.loop-need.need-index c.need-item.result c.terms.result.0.now c.loop-need-test.true c.need-item.is c.terms.ensures.first in
    let w = first_within c.args.needs.now _ c.loop-need.need-index c.terms.result.0.now c.requires.within c.loop-need-test.true e in
    let r = root_below c.args.needs.now _ c.args.forest.now.roots.items c.args.forest.now.parents.items c.args.forest.now.rates.items c.requires.forest c.terms.result.0.now.clock w in
    let s = c.loop-need.invariant.size in
    omega arith

pub ask-requires-in-loop-need-clause-root : goal.ask-requires-in-loop-need-clause-root
ask-requires-in-loop-need-clause-root c =
    let e = at_second c.args.needs.now c.loop-need.need-index c.need-item.result c.terms.result.1.now c.loop-need-test.true c.need-item.is c.terms.ensures.second in
    let w = second_within c.args.needs.now _ c.loop-need.need-index c.terms.result.1.now c.requires.within c.loop-need-test.true e in
    let r = root_below c.args.needs.now _ c.args.forest.now.roots.items c.args.forest.now.parents.items c.args.forest.now.rates.items c.requires.forest c.terms.result.1.now.clock w in
    let s = c.loop-need.invariant.size in
    let a = c.in_ok-ask.ensures.asked.size in
    omega arith

pub returns-in_err-ask-clause-refused : goal.returns-in_err-ask-clause-refused
returns-in_err-ask-clause-refused c =
    let e = at_first c.args.needs.now c.loop-need.need-index c.need-item.result c.terms.result.0.now c.loop-need-test.true c.need-item.is c.terms.ensures.first in
    let w = first_within c.args.needs.now _ c.loop-need.need-index c.terms.result.0.now c.requires.within c.loop-need-test.true e in
    let r = root_below c.args.needs.now _ c.args.forest.now.roots.items c.args.forest.now.parents.items c.args.forest.now.rates.items c.requires.forest c.terms.result.0.now.clock w in
    let p = err_from_is_err_and c.from_residual.result c.from_residual.ensures.1 in
    rw (p.1, p.2) (c.in_err-ask.ensures.refused.0, first_large c.args.needs.now c.args.forest.now.roots.items c.args.forest.now.rates.items c.loop-need.need-index c.loop-need.factors c.terms.result.0.now c.loop-need-test.true r c.loop-need.invariant e c.in_err-ask.ensures.refused.1)

pub returns-in_err-ask-2-clause-refused : goal.returns-in_err-ask-2-clause-refused
returns-in_err-ask-2-clause-refused c =
    let e = at_first c.args.needs.now c.loop-need.need-index c.need-item.result c.terms.result.0.now c.loop-need-test.true c.need-item.is c.terms.ensures.first in
    let f = at_second c.args.needs.now c.loop-need.need-index c.need-item.result c.terms.result.1.now c.loop-need-test.true c.need-item.is c.terms.ensures.second in
    let w = second_within c.args.needs.now _ c.loop-need.need-index c.terms.result.1.now c.requires.within c.loop-need-test.true f in
    let r = root_below c.args.needs.now _ c.args.forest.now.roots.items c.args.forest.now.parents.items c.args.forest.now.rates.items c.requires.forest c.terms.result.1.now.clock w in
    let p = err_from_is_err_and c.from_residual-in_err-ask-2.result c.from_residual-in_err-ask-2.ensures.1 in
    rw (p.1, p.2) (
      c.in_err-ask-2.ensures.refused.0,
      second_large c.args.needs.now c.args.forest.now.roots.items c.args.forest.now.rates.items c.loop-need.need-index c.loop-need.factors c.ask.new.factors c.terms.result.0.now c.terms.result.1.now c.loop-need-test.true r c.loop-need.invariant e f
          c.in_ok-ask.ensures.asked c.in_err-ask-2.ensures.refused.1,
    )

pub loop-need-preserved : goal.loop-need-preserved
loop-need-preserved c =
    let e = at_first c.args.needs.now c.loop-need.need-index c.need-item.result c.terms.result.0.now c.loop-need-test.true c.need-item.is c.terms.ensures.first in
    let f = at_second c.args.needs.now c.loop-need.need-index c.need-item.result c.terms.result.1.now c.loop-need-test.true c.need-item.is c.terms.ensures.second in
    factors_more c.args.needs.now c.args.forest.now.roots.items c.args.forest.now.rates.items c.loop-need.need-index c.loop-need.factors c.ask.new.factors _ c.terms.result.0.now c.terms.result.1.now c.loop-need.invariant e f c.in_ok-ask.ensures.asked c.in_ok-ask-2.ensures.asked
