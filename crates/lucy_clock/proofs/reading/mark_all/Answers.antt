use Rattle.std.proofs.Common.{◌≡◌, ◌+◌, suc, Some, List, length, ap, sym, refl, ◌∙◌, subst, arith}
use Rattle.std.proofs.lemmas.Option.{slice_get_read}
use Rattle.lucy_place.specs.declared.entry.PlaceEntry.{PlaceEntry}
use Rattle.lucy_place.specs.Proper.{at_one}
use Rattle.lucy_clock.proofs.MarkLaws.{readers_more}
use Rattle.lucy_clock.proofs.reading.mark_all.Goals as goal

pub mark_kind-requires : goal.mark_kind-requires
mark_kind-requires c = λ q m.
    let there = slice_get_read c.list-places.result.now (length c.list-places.result.now) c.each.i c.index-places-i.result refl c.each-test.true c.index-places-i.is in
    let place = c.requires.inside (suc c.each.i) q c.index-places-i.result (subst (λ (l : List PlaceEntry). at_one l (suc c.each.i) ≡ Some c.index-places-i.result) c.list-places.ensures there) m in
    let high = place.1 in
    let len = c.each.invariant.0 in
    (place.0, omega arith)

pub each-preserved : goal.each-preserved
each-preserved c =
    let e : suc c.each.i ≡ c.each.i + 1 = omega arith in
    let there = slice_get_read c.list-places.result.now (length c.list-places.result.now) c.each.i c.index-places-i.result refl c.each-test.true c.index-places-i.is in
    let here : at_one c.args.node.now.places (suc c.each.i) ≡ Some c.index-places-i.result = subst (λ (l : List PlaceEntry). at_one l (suc c.each.i) ≡ Some c.index-places-i.result) c.list-places.ensures there in (
      c.mark_kind.ensures.len ∙ c.each.invariant.0,
      readers_more c.args.node.now c.requires.written c.requires.once c.requires.inside c.each.i c.index-places-i.result c.each.readers c.mark_kind.new.readers
          (ap (at_one c.args.node.now.places) (sym e) ∙ here) c.each.invariant.1 c.mark_kind.ensures,
    )

pub returns-clause-readers : goal.returns-clause-readers
returns-clause-readers c = λ p k q l un reads.
    let len = ap length c.list-places.ensures in
    let end = c.each-test.false in
    c.each.invariant.1 p k q (omega arith) un reads
