use Rattle.std.proofs.Common.{◌+◌, ◌<◌, sym, refl, subst, length, arith}
use Rattle.std.specs.Prelude.{slice_index}
use Rattle.std.proofs.lemmas.Option.{slice_get_read}
use Rattle.std.proofs.lemmas.List.Elements.{All-from_recursion}
use Rattle.lucy_place.specs.declared.entry.CallSite.{CallSite}
use Rattle.lucy_flat.specs.Extents.{AreSumsOf}
use Rattle.lucy_flat.proofs.ExtentLaws.{sum_take, sum_part, sums_more}
use Rattle.lucy_flat.proofs.instance.begins.Goals as goal

pub overflow_cast-next-in-each : goal.overflow_cast-next-in-each
overflow_cast-next-in-each c =
    let at = slice_get_read c.args.sites.now (length c.args.sites.now) c.each.site-index c.site-item.result refl c.each-test.true c.site-item.is in
    let part = sum_part (λ (s : CallSite). slice_index c.args.sizes.now s.node) c.args.sites.now c.each.site-index c.site-item.result at in
    let few = c.requires.few in
    omega arith

pub overflow_add-next : goal.overflow_add-next
overflow_add-next c =
    let at = slice_get_read c.args.sites.now (length c.args.sites.now) c.each.site-index c.site-item.result refl c.each-test.true c.site-item.is in
    let part = sum_part (λ (s : CallSite). slice_index c.args.sizes.now s.node) c.args.sites.now c.each.site-index c.site-item.result at in
    let few = c.requires.few in
    let now = c.each.invariant.1 in
    omega arith

pub each-preserved : goal.each-preserved
each-preserved c =
    let sizes = c.args.sizes.now in
    let sites = c.args.sites.now in
    let at = slice_get_read sites (length sites) c.each.site-index c.site-item.result refl c.each-test.true c.site-item.is in
    let sum = sum_take (λ (s : CallSite). slice_index sizes s.node) sites c.each.site-index c.site-item.result at in
    let now = c.each.invariant.1 in (
      subst (AreSumsOf sizes sites c.args.first (c.each.site-index + 1)) (sym c.in_ok-push.ensures.items) (sums_more sizes sites c.args.first c.each.site-index c.each.begins.items c.each.next c.each.invariant.0 now),
      omega arith,
    )

pub bounds-sizes-site : goal.bounds-sizes-site
bounds-sizes-site c =
    let below : CallSite → Type 0 = λ site. site.node < length c.args.sizes.now in
    subst below (sym c.site-item.is) (All-from_recursion below c.args.sites.now c.requires.below c.each.site-index c.site-item.result c.each-test.true)
