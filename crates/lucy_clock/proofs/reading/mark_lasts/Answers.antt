use Rattle.std.proofs.Common.{length, ap, ◌∙◌, arith}
use Rattle.lucy_place.proofs.NodeLaws.{at_one_within}
use Rattle.lucy_clock.proofs.LastLaws.{last_reader, lasts_next}
use Rattle.lucy_clock.proofs.reading.mark_lasts.Goals as goal

pub each-init : goal.each-init
each-init c = (
  c.requires.size,
  λ p k q l un asked reads. absurd (let most = (at_one_within c.args.node.now.places q un.0 un.1).1 in omega (arith, l, most)),
)

pub mark_last-requires-clause-place : goal.mark_last-requires-clause-place
mark_last-requires-clause-place c =
    let len = ap length c.list-places.ensures in
    let size = c.each.invariant.0 in
    let more = c.each-test.true in
    (omega arith, omega arith)

pub mark_last-requires-clause-reader : goal.mark_last-requires-clause-reader
mark_last-requires-clause-reader c =
    last_reader c.args.node.now c.args.readers.now c.requires.handing c.list-places.result.now c.list-places.ensures
    c.each.i c.each-test.true c.index-places-last.result c.index-places-last.is

pub each-preserved : goal.each-preserved
each-preserved c = (
  c.mark_last.ensures.len ∙ c.each.invariant.0,
  lasts_next c.args.node.now c.args.readers.now c.requires.handing c.list-places.result.now c.list-places.ensures
      c.each.i c.each-test.true c.index-places-last.result c.index-places-last.is c.each.lasts c.mark_last.new.lasts c.each.invariant.1 c.mark_last.ensures,
)

pub returns-clause-lasts : goal.returns-clause-lasts
returns-clause-lasts c = λ p k q un asked reads.
    let len = ap length c.list-places.ensures in
    let end = c.each-test.false in
    let low = (at_one_within c.args.node.now.places q un.0 un.1).0 in
    c.each.invariant.1 p k q (omega arith) un asked reads
