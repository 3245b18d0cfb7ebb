use Rattle.std.proofs.Common.{◌≡◌, ◌++◌, ◌∷◌, [], length, take, ap, sym, ◌∙◌, refl, subst, arith}
use Rattle.std.proofs.lemmas.Option.{slice_get_read}
use Rattle.lucy_clock.specs.Clocks.{AreSignatures}
use Rattle.lucy_clock.specs.NodeClocks.{ports, signatures}
use Rattle.lucy_clock.proofs.CallerLaws.{above_fit, places_within, signatures_more}
use Rattle.lucy_clock.proofs.callers.signatures.Goals as goal

pub ports-requires-clause-params : goal.ports-requires-clause-params
ports-requires-clause-params c =
    let clocks = c.args.clocks.now in
    let i = c.each.callee in
    let of = slice_get_read clocks (length clocks) i c.index-clocks-callee.result refl (omega arith) c.index-clocks-callee.is in
    let count = c.requires.words i c.node.result.now c.index-clocks-callee.result c.node.ensures.is of in
    let few = c.node.ensures.proper.params in
    omega arith

pub ports-requires-clause-results : goal.ports-requires-clause-results
ports-requires-clause-results c =
    let clocks = c.args.clocks.now in
    let i = c.each.callee in
    let of = slice_get_read clocks (length clocks) i c.index-clocks-callee.result refl (omega arith) c.index-clocks-callee.is in
    let count = c.requires.words i c.node.result.now c.index-clocks-callee.result c.node.ensures.is of in
    places_within c.node.result.now c.node.result.now.results (length c.index-clocks-callee.result.words) (omega arith) c.node.ensures.proper.results

pub each-preserved : goal.each-preserved
each-preserved c =
    let nodes = c.args.placed.now.nodes in
    let clocks = c.args.clocks.now in
    let i = c.each.callee in
    let of = slice_get_read clocks (length clocks) i c.index-clocks-callee.result refl (omega arith) c.index-clocks-callee.is in
    let own = ports c.node.result.now c.index-clocks-callee.result in
    c.in_ok-push.ensures.items ∙ ap (λ x. c.each.above.items ++ x ∷ []) c.in_ok-ports.ensures ∙ ap (λ xs. xs ++ own ∷ []) c.each.invariant
    ∙ sym (signatures_more nodes clocks i c.node.result.now c.index-clocks-callee.result c.node.ensures.is of)

pub returns-clause-list : goal.returns-clause-list
returns-clause-list c =
    let done = c.each-test.false in
    let last : c.each.callee ≡ c.args.node = omega arith in
    c.each.invariant ∙ ap (λ k. signatures (take k c.args.placed.now.nodes) (take k c.args.clocks.now)) last

pub returns-clause-theirs : goal.returns-clause-theirs
returns-clause-theirs c =
    let done = c.each-test.false in
    let last : c.each.callee ≡ c.args.node = omega arith in
    let list = c.each.invariant ∙ ap (λ k. signatures (take k c.args.placed.now.nodes) (take k c.args.clocks.now)) last in
    subst (AreSignatures (take c.args.node c.args.placed.now.nodes)) (sym list)
    (above_fit c.args.node c.args.placed.now.nodes c.args.clocks.now c.requires.node c.requires.clocks c.requires.proper c.requires.words)
