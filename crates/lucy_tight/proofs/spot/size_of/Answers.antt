use Rattle.std.proofs.Common.{length, ap, sym, ◌∙◌, refl, arith}
use Rattle.std.specs.Prelude.{slice_get}
use Rattle.std.proofs.lemmas.Option.{same_Some, slice_get_read, slice_get-get_or, slice_get_within}
use Rattle.lucy_clock.specs.declared.node_clock.NodeClock.{NodeClock}
use Rattle.lucy_tight.proofs.spot.size_of.Goals as goal

pub bounds-clocks-node : goal.bounds-clocks-node
bounds-clocks-node c = let within = slice_get_within c.args.clocks.now c.args.node c.requires.0 c.requires.1 in omega arith

pub bounds-sizes-number : goal.bounds-sizes-number
bounds-sizes-number c =
    let clocks = c.args.clocks.now in
    let within = slice_get_within clocks c.args.node c.requires.0 c.requires.1 in
    let here = slice_get_read clocks (length clocks) c.args.node c.index-clocks-node.result refl within c.index-clocks-node.is in
    let same = ap (λ (x : NodeClock). length x.sizes) (same_Some c.requires.0 c.index-clocks-node.result (sym c.requires.1 ∙ here)) in
    let list = ap length c.list-sizes.ensures in
    let few = c.requires.2 in
    omega arith

pub returns : goal.returns
returns c = λ d at.
    let clocks = c.args.clocks.now in
    let within = slice_get_within clocks c.args.node d at in
    let here = slice_get_read clocks (length clocks) c.args.node c.index-clocks-node.result refl within c.index-clocks-node.is in
    let same = same_Some c.index-clocks-node.result d (sym here ∙ at) in
    let sizes = c.list-sizes.ensures ∙ ap (λ (x : NodeClock). x.sizes) same in
    let list = ap length sizes in
    let inside = slice_get_within clocks c.args.node c.requires.0 c.requires.1 in
    let same_first = ap (λ (x : NodeClock). length x.sizes) (same_Some c.requires.0 d (sym c.requires.1 ∙ at)) in
    let few = c.requires.2 in
    ap (λ l. slice_get l c.args.number) (sym sizes) ∙ slice_get-get_or c.list-sizes.result.now c.args.number 0 (omega arith)
