use Rattle.std.proofs.Common.{◌≡◌, ◌+◌, ◌++◌, Some, length, ap, sym, ◌∙◌, subst, arith}
use Rattle.std.specs.Result.{OnOk}
use Rattle.std.specs.Prelude.{IfErr}
use Rattle.lucy_place.specs.declared.entry.CallSite.{CallSite}
use Rattle.lucy_clock.specs.Clocks.{call_clock}
use Rattle.lucy_clock.specs.Listing.{site_needs, call_needs}
use Rattle.lucy_clock.specs.Drafts.{IsPast, IsListedSite}
use Rattle.lucy_clock.proofs.ListedLaws.{one_some, one_within, call_here}
use Rattle.lucy_clock.proofs.listing.put_call.Goals as goal

pub overflow_sub-site : goal.overflow_sub-site
overflow_sub-site c =
    let number : c.args.number ≡ 0 = omega arith in
    let listed = c.requires number in
    let some = one_some c.args.listing.node.now.calls c.args.call listed.site listed.stands in
    omega arith

pub bounds-list-call : goal.bounds-list-call
bounds-list-call c =
    let number : c.args.number ≡ 0 = omega arith in
    let listed = c.requires number in
    let some = one_some c.args.listing.node.now.calls c.args.call listed.site listed.stands in
    let within = one_within c.args.listing.node.now.calls c.args.call listed.site listed.stands in
    let sites = ap length c.list.ensures in
    omega arith

pub overflow_cast-base : goal.overflow_cast-base
overflow_cast-base c =
    let number : c.args.number ≡ 0 = omega arith in
    let few = (c.requires number).few in
    let places = ap length c.list-2.ensures in
    omega arith

pub overflow_add-base : goal.overflow_add-base
overflow_add-base c =
    let number : c.args.number ≡ 0 = omega arith in
    let few = (c.requires number).few in
    let places = ap length c.list-2.ensures in
    omega arith

pub put_site-requires : goal.put_site-requires
put_site-requires c =
    let number : c.args.number ≡ 0 = omega arith in
    let listed = c.requires number in
    subst (λ site. IsListedSite c.args.listing.above.now site c.args.place) (call_here c.args.listing.node.now.calls c.list.result.now c.args.call listed.site c.index-list-call.result c.list.ensures listed.stands c.index-list-call.is) listed.listed

pub returns-clause-ok : goal.returns-clause-ok
returns-clause-ok c =
    let above = c.args.listing.above.now in
    let n = c.args.listing.node.now in
    let found : CallSite = c.index-list-call.result in
    let number : c.args.number ≡ 0 = omega arith in
    let listed = c.requires number in
    let site = call_here n.calls c.list.result.now c.args.call listed.site found c.list.ensures listed.stands c.index-list-call.is in
    let is = ap (call_needs above n c.args.place c.args.call) number ∙ ap (site_needs above (call_clock n c.args.call) c.args.place) (listed.stands ∙ ap (λ s. Some s) site)
    ∙ ap (λ places. site_needs above (length places + c.args.call) c.args.place (Some found)) (sym c.list-2.ensures) in
    subst (λ needs. OnOk c.put_site.result (c.put_site.new.drafts ≡ c.args.drafts.now ++ needs)) (sym is) c.put_site.ensures.ok

pub returns-clause-refused : goal.returns-clause-refused
returns-clause-refused c =
    let above = c.args.listing.above.now in
    let n = c.args.listing.node.now in
    let found : CallSite = c.index-list-call.result in
    let number : c.args.number ≡ 0 = omega arith in
    let listed = c.requires number in
    let site = call_here n.calls c.list.result.now c.args.call listed.site found c.list.ensures listed.stands c.index-list-call.is in
    let is = ap (call_needs above n c.args.place c.args.call) number ∙ ap (site_needs above (call_clock n c.args.call) c.args.place) (listed.stands ∙ ap (λ s. Some s) site)
    ∙ ap (λ places. site_needs above (length places + c.args.call) c.args.place (Some found)) (sym c.list-2.ensures) in
    subst (λ needs. IfErr c.put_site.result (IsPast (c.args.drafts.now ++ needs))) (sym is) c.put_site.ensures.refused
