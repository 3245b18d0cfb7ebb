use Rattle.std.proofs.Common.{◌≡◌, ◌+◌, suc, length, refl, subst, arith, Some, List}
use Rattle.std.proofs.lemmas.Option.{slice_get_read}
use Rattle.lucy_place.specs.declared.entry.PlaceEntry.{PlaceEntry}
use Rattle.lucy_place.specs.Proper.{at_one}
use Rattle.lucy_clock.specs.Drafts.{IsListedKind}
use Rattle.lucy_clock.proofs.listing.list_needs.Goals as goal

pub put_place-requires : goal.put_place-requires
put_place-requires c =
    let e : suc c.each.i ≡ c.each.i + 1 = omega arith in
    let there = slice_get_read c.list-places.result.now (length c.list-places.result.now) c.each.i c.index-places-i.result refl c.each-test.true c.index-places-i.is in
    subst (λ p. IsListedKind c.args.listing.above.now c.args.listing.node.now p c.index-places-i.result.kind) e
    (c.requires.kinds (suc c.each.i) c.index-places-i.result (subst (λ (l : List PlaceEntry). at_one l (suc c.each.i) ≡ Some c.index-places-i.result) c.list-places.ensures there))
