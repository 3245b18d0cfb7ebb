use Rattle.std.proofs.Common.{◌≡◌, ◌+◌, ◌-◌, [], ◌∷◌, map, ap, sym, refl, ◌∙◌, subst, length, get_or, arith}
use Rattle.std.specs.Prelude.{slice_get}
use Rattle.std.proofs.lemmas.Option.{same_Some, slice_get_within, slice_get_read}
use Rattle.std.proofs.lemmas.Result.{IfOk-weaker}
use Rattle.lucy_place.specs.declared.placed.PlacedNode.{PlacedNode}
use Rattle.lucy_place.specs.declared.entry.CallSite.{CallSite}
use Rattle.lucy_place.specs.declared.entry.PlaceKind.TheVariants as place_kind
use Rattle.lucy_place.specs.Proper.{Stands, ArePlaces}
use Rattle.lucy_kahn.specs.Spots.{at, spot_reads}
use Rattle.lucy_kahn.specs.Numbers.{number}
use Rattle.lucy_flat.proofs.InstanceLaws.{callee_same, kind_here, place_fits, places_fit, own_reads, result_here, result_reads, argument_here}
use Rattle.lucy_flat.proofs.instance.reads.Goals as goal

pub bounds-caller-place : goal.bounds-caller-place
bounds-caller-place c =
    (argument_here c.args.program.placed.now.nodes c.args.program.clocks.now c.requires.program.proper c.requires.of.0 c.args.of c.requires.of.1 c.args.place c.in-Some.caller c.in-Some.is (subst (Stands c.args.of.node.now c.args.place) c.in-Param.is c.requires.stands)).inside

pub one-requires : goal.one-requires
one-requires c =
    let a = argument_here c.args.program.placed.now.nodes c.args.program.clocks.now c.requires.program.proper c.requires.of.0 c.args.of c.requires.of.1 c.args.place c.in-Some.caller c.in-Some.is (subst (Stands c.args.of.node.now c.args.place) c.in-Param.is c.requires.stands) in
    (a.low, a.high)

pub all-requires : goal.all-requires
all-requires c =
    let nodes = c.args.program.placed.now.nodes in
    let is = c.requires.of.1 in
    let kind = kind_here nodes c.args.program.clocks.now c.requires.program.proper c.requires.of.0 c.args.of is c.args.place (place_kind.Op c.in-Op.field-0 c.in-Op.args) (subst (Stands c.args.of.node.now c.args.place) c.in-Op.is c.requires.stands) in
    places_fit nodes c.args.program.clocks.now c.requires.program.proper c.requires.of.0 c.args.of is c.list.result.now (subst (ArePlaces c.args.of.node.now) (sym c.list.ensures) kind.2)

pub two-requires-clause-first : goal.two-requires-clause-first
two-requires-clause-first c =
    place_fits c.args.program.placed.now.nodes c.args.program.clocks.now c.requires.program.proper c.requires.of.0 c.args.of c.requires.of.1 c.in-Host.a
    (kind_here c.args.program.placed.now.nodes c.args.program.clocks.now c.requires.program.proper c.requires.of.0 c.args.of c.requires.of.1 c.args.place (place_kind.Host c.in-Host.field-0 c.in-Host.a c.in-Host.b) (subst (Stands c.args.of.node.now c.args.place) c.in-Host.is c.requires.stands)).1

pub two-requires-clause-second : goal.two-requires-clause-second
two-requires-clause-second c =
    place_fits c.args.program.placed.now.nodes c.args.program.clocks.now c.requires.program.proper c.requires.of.0 c.args.of c.requires.of.1 c.in-Host.b
    (kind_here c.args.program.placed.now.nodes c.args.program.clocks.now c.requires.program.proper c.requires.of.0 c.args.of c.requires.of.1 c.args.place (place_kind.Host c.in-Host.field-0 c.in-Host.a c.in-Host.b) (subst (Stands c.args.of.node.now c.args.place) c.in-Host.is c.requires.stands)).2

pub two-requires-in-Merge-clause-first : goal.two-requires-in-Merge-clause-first
two-requires-in-Merge-clause-first c =
    place_fits c.args.program.placed.now.nodes c.args.program.clocks.now c.requires.program.proper c.requires.of.0 c.args.of c.requires.of.1 c.in-Merge.a
    (kind_here c.args.program.placed.now.nodes c.args.program.clocks.now c.requires.program.proper c.requires.of.0 c.args.of c.requires.of.1 c.args.place (place_kind.Merge c.in-Merge.field-0 c.in-Merge.a c.in-Merge.b) (subst (Stands c.args.of.node.now c.args.place) c.in-Merge.is c.requires.stands)).2

pub two-requires-in-Merge-clause-second : goal.two-requires-in-Merge-clause-second
two-requires-in-Merge-clause-second c =
    place_fits c.args.program.placed.now.nodes c.args.program.clocks.now c.requires.program.proper c.requires.of.0 c.args.of c.requires.of.1 c.in-Merge.b
    (kind_here c.args.program.placed.now.nodes c.args.program.clocks.now c.requires.program.proper c.requires.of.0 c.args.of c.requires.of.1 c.args.place (place_kind.Merge c.in-Merge.field-0 c.in-Merge.a c.in-Merge.b) (subst (Stands c.args.of.node.now c.args.place) c.in-Merge.is c.requires.stands)).3

pub one-requires-in-Defined : goal.one-requires-in-Defined
one-requires-in-Defined c =
    place_fits c.args.program.placed.now.nodes c.args.program.clocks.now c.requires.program.proper c.requires.of.0 c.args.of c.requires.of.1 c.in-Defined.e
    (kind_here c.args.program.placed.now.nodes c.args.program.clocks.now c.requires.program.proper c.requires.of.0 c.args.of c.requires.of.1 c.args.place (place_kind.Defined c.in-Defined.e) (subst (Stands c.args.of.node.now c.args.place) c.in-Defined.is c.requires.stands)).1

pub one-requires-in-When : goal.one-requires-in-When
one-requires-in-When c =
    place_fits c.args.program.placed.now.nodes c.args.program.clocks.now c.requires.program.proper c.requires.of.0 c.args.of c.requires.of.1 c.in-When.e
    (kind_here c.args.program.placed.now.nodes c.args.program.clocks.now c.requires.program.proper c.requires.of.0 c.args.of c.requires.of.1 c.args.place (place_kind.When c.in-When.e c.in-When.field-1) (subst (Stands c.args.of.node.now c.args.place) c.in-When.is c.requires.stands)).1

pub one-requires-in-Fby : goal.one-requires-in-Fby
one-requires-in-Fby c =
    place_fits c.args.program.placed.now.nodes c.args.program.clocks.now c.requires.program.proper c.requires.of.0 c.args.of c.requires.of.1 c.in-Fby.e
    (kind_here c.args.program.placed.now.nodes c.args.program.clocks.now c.requires.program.proper c.requires.of.0 c.args.of c.requires.of.1 c.args.place (place_kind.Fby c.in-Fby.field-0 c.in-Fby.e) (subst (Stands c.args.of.node.now c.args.place) c.in-Fby.is c.requires.stands)).1

pub one-requires-in-Buffer : goal.one-requires-in-Buffer
one-requires-in-Buffer c =
    place_fits c.args.program.placed.now.nodes c.args.program.clocks.now c.requires.program.proper c.requires.of.0 c.args.of c.requires.of.1 c.in-Buffer.e
    (kind_here c.args.program.placed.now.nodes c.args.program.clocks.now c.requires.program.proper c.requires.of.0 c.args.of c.requires.of.1 c.args.place (place_kind.Buffer c.in-Buffer.field-0 c.in-Buffer.e) (subst (Stands c.args.of.node.now c.args.place) c.in-Buffer.is c.requires.stands)).2

pub overflow_sub-call : goal.overflow_sub-call
overflow_sub-call c =
    let h = result_here c.args.program.placed.now.nodes c.args.program.clocks.now c.requires.program.proper c.requires.of.0 c.args.of c.requires.of.1 c.args.place c.in-Result.call c.in-Result.number (subst (Stands c.args.of.node.now c.args.place) c.in-Result.is c.requires.stands) in
    h.of_call.low

pub bounds-list-call : goal.bounds-list-call
bounds-list-call c =
    let h = result_here c.args.program.placed.now.nodes c.args.program.clocks.now c.requires.program.proper c.requires.of.0 c.args.of c.requires.of.1 c.args.place c.in-Result.call c.in-Result.number (subst (Stands c.args.of.node.now c.args.place) c.in-Result.is c.requires.stands) in
    let within = slice_get_within c.args.of.node.now.calls (c.in-Result.call - 1) h.of_call.site h.of_call.at_call in
    omega (arith, within, ap length c.list-in-Result.ensures)

pub bounds-list-call-in-Result : goal.bounds-list-call-in-Result
bounds-list-call-in-Result c =
    let h = result_here c.args.program.placed.now.nodes c.args.program.clocks.now c.requires.program.proper c.requires.of.0 c.args.of c.requires.of.1 c.args.place c.in-Result.call c.in-Result.number (subst (Stands c.args.of.node.now c.args.place) c.in-Result.is c.requires.stands) in
    let within = slice_get_within c.args.of.node.now.calls (c.in-Result.call - 1) h.of_call.site h.of_call.at_call in
    omega (arith, within, ap length c.list-in-Result.ensures)

pub node-callee-requires : goal.node-callee-requires
node-callee-requires c =
    let nodes = c.args.program.placed.now.nodes in
    let h = result_here nodes c.args.program.clocks.now c.requires.program.proper c.requires.of.0 c.args.of c.requires.of.1 c.args.place c.in-Result.call c.in-Result.number (subst (Stands c.args.of.node.now c.args.place) c.in-Result.is c.requires.stands) in
    let sites = c.list-in-Result.result.now in
    let same : slice_get sites (c.in-Result.call - 1) ≡ slice_get c.args.of.node.now.calls (c.in-Result.call - 1) = ap (λ t. slice_get t (c.in-Result.call - 1)) c.list-in-Result.ensures in
    let within = slice_get_within sites (c.in-Result.call - 1) h.of_call.site (same ∙ h.of_call.at_call) in
    let at = slice_get_read sites (length sites) (c.in-Result.call - 1) c.index-list-call.result refl within c.index-list-call.is in
    let site : h.of_call.site ≡ get_or sites (c.in-Result.call - 1) c.index-list-call.result = same_Some h.of_call.site c.index-list-call.result (sym h.of_call.at_call ∙ sym same ∙ at) ∙ c.index-list-call.is in
    let node : h.of_call.site.node ≡ (get_or sites (c.in-Result.call - 1) c.index-list-call.result).node = ap (λ (t : CallSite). t.node) site in
    let low = slice_get_within nodes h.of_call.site.node h.of_call.is_call.callee h.of_call.callee in
    omega (arith, low, node)

pub bounds-of-call : goal.bounds-of-call
bounds-of-call c =
    let h = result_here c.args.program.placed.now.nodes c.args.program.clocks.now c.requires.program.proper c.requires.of.0 c.args.of c.requires.of.1 c.args.place c.in-Result.call c.in-Result.number (subst (Stands c.args.of.node.now c.args.place) c.in-Result.is c.requires.stands) in
    let within = slice_get_within c.args.of.node.now.calls (c.in-Result.call - 1) h.of_call.site h.of_call.at_call in
    omega (arith, within, c.requires.of.1.inner.count)

pub bounds-list-number : goal.bounds-list-number
bounds-list-number c =
    let nodes = c.args.program.placed.now.nodes in
    let clocks = c.args.program.clocks.now in
    let proper = c.requires.program.proper in
    let h = result_here nodes clocks proper c.requires.of.0 c.args.of c.requires.of.1 c.args.place c.in-Result.call c.in-Result.number (subst (Stands c.args.of.node.now c.args.place) c.in-Result.is c.requires.stands) in
    let callee = callee_same nodes clocks proper c.requires.of.0 c.args.of c.requires.of.1 c.in-Result.call c.in-Result.number h c.list-in-Result.result.now c.index-list-call.result c.node-callee.result.now c.list-in-Result.ensures c.index-list-call.is c.node-callee.ensures.is in
    let few = h.few in
    omega (arith, few, ap (λ (t : PlacedNode). length t.results) callee, ap length c.list-in-Result-2.ensures)

pub one-requires-in-Result : goal.one-requires-in-Result
one-requires-in-Result c =
    let nodes = c.args.program.placed.now.nodes in
    let clocks = c.args.program.clocks.now in
    let proper = c.requires.program.proper in
    let h = result_here nodes clocks proper c.requires.of.0 c.args.of c.requires.of.1 c.args.place c.in-Result.call c.in-Result.number (subst (Stands c.args.of.node.now c.args.place) c.in-Result.is c.requires.stands) in
    let callee = callee_same nodes clocks proper c.requires.of.0 c.args.of c.requires.of.1 c.in-Result.call c.in-Result.number h c.list-in-Result.result.now c.index-list-call.result c.node-callee.result.now c.list-in-Result.ensures c.index-list-call.is c.node-callee.ensures.is in
    let low = h.low in
    let high = h.high in
    let same : get_or h.of_call.is_call.callee.results c.in-Result.number 0 ≡ get_or c.list-in-Result-2.result.now c.in-Result.number 0 =
    ap (λ (t : PlacedNode). get_or t.results c.in-Result.number 0) callee ∙ ap (λ t. get_or t c.in-Result.number 0) (sym c.list-in-Result-2.ensures) in
    (omega arith, omega arith)

pub returns-in-Op-clause-ok : goal.returns-in-Op-clause-ok
returns-in-Op-clause-ok c = λ path is.
    let nodes = c.args.program.placed.now.nodes in
    let clocks = c.args.program.clocks.now in
    let proper = c.requires.program.proper in
    IfOk-weaker c.all.result _ _
    (λ v e. e ∙ ap (map (λ p. c.args.of.begin + (p - 1))) c.list.ensures ∙ sym (own_reads nodes clocks proper path c.args.of is c.in-Op.args) ∙ ap (λ k. map (number nodes) (spot_reads nodes (at path c.args.place) k)) (sym c.in-Op.is))
    c.all.ensures.ok

pub returns-in-Result-clause-ok : goal.returns-in-Result-clause-ok
returns-in-Result-clause-ok c = λ path is.
    let nodes = c.args.program.placed.now.nodes in
    let clocks = c.args.program.clocks.now in
    let proper = c.requires.program.proper in
    let h = result_here nodes clocks proper path c.args.of is c.args.place c.in-Result.call c.in-Result.number (subst (Stands c.args.of.node.now c.args.place) c.in-Result.is c.requires.stands) in
    let callee = callee_same nodes clocks proper path c.args.of is c.in-Result.call c.in-Result.number h c.list-in-Result.result.now c.index-list-call.result c.node-callee.result.now c.list-in-Result.ensures c.index-list-call.is c.node-callee.ensures.is in
    let same : get_or h.of_call.is_call.callee.results c.in-Result.number 0 ≡ get_or c.list-in-Result-2.result.now c.in-Result.number 0 =
    ap (λ (t : PlacedNode). get_or t.results c.in-Result.number 0) callee ∙ ap (λ t. get_or t c.in-Result.number 0) (sym c.list-in-Result-2.ensures) in
    IfOk-weaker c.one-in-Result.result _ _
    (λ v e. e ∙ ap (λ r. (get_or c.args.of.inner.now (c.in-Result.call - 1) 0 + (r - 1)) ∷ []) (sym same) ∙ sym (result_reads nodes clocks proper path c.args.of is c.args.place c.in-Result.call c.in-Result.number h)
    ∙ ap (λ k. map (number nodes) (spot_reads nodes (at path c.args.place) k)) (sym c.in-Result.is))
    c.one-in-Result.ensures.ok
