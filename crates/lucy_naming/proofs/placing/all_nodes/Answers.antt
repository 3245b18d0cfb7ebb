use Rattle.std.proofs.Common.{◌≡◌, ◌+◌, ◌∷◌, ◌++◌, [], map, take, drop, refl, ap, ◌∙◌, subst, inl, arith}
use Rattle.std.proofs.lemmas.List.{drop_all, map-append}
use Rattle.lucy_word.proofs.Lists.{drop_next, take_next}
use Rattle.lucy_word.proofs.Results.{leaves}
use Rattle.lucy_tree.specs.View.{NodeTree, ProgramTree, node_tree}
use Rattle.lucy_naming.specs.declared.error.NameError.TheVariants.{OutOfMemory}
use Rattle.lucy_naming.specs.Faults.{faults}
use Rattle.lucy_naming.specs.Nodes.{placed_below}
use Rattle.lucy_naming.specs.Written.{first_unwritten}
use Rattle.lucy_naming.specs.Placing.{TellsFirstFault}
use Rattle.lucy_naming.proofs.ProgramLaws.{NodesPlaced, placed_step, placed_is, told_at}
use Rattle.lucy_naming.proofs.ShapeLaws.{node_shaped_at}
use Rattle.lucy_naming.proofs.placing.all_nodes.Goals as goal

pub each-init : goal.each-init
each-init c =
    let all : ProgramTree = map node_tree c.args.nodes.now in
    record {
      names = c.requires.scope;
      faults = refl;
      placed = ap (λ ps. ps ++ placed_below c.args.ops.now [] all) c.requires.list;
      spans = ap (λ ss. ss ++ map first_unwritten all) c.requires.spans;
    }

pub next_node-requires-clause-shaped : goal.next_node-requires-clause-shaped
next_node-requires-clause-shaped c = node_shaped_at c.args.nodes.now c.each.i c.index-nodes-i.result (omega arith) c.index-nodes-i.is c.requires.shaped.nodes

pub returns-in_err-placed-clause-refused : goal.returns-in_err-placed-clause-refused
returns-in_err-placed-clause-refused c =
    let told = told_at c.args.ops.now c.args.nodes.now c.each.i c.index-nodes-i.result c.each.scope c.each.list.items c.each.spans.items c.in_err-placed.field-0.0 (omega arith) c.index-nodes-i.is c.each.invariant
    c.in_err-placed.ensures.refused in
    leaves (TellsFirstFault (faults c.args.ops.now (map node_tree c.args.nodes.now))) _ c.in_err-placed.field-0.0 c.from_residual.result c.from_residual.ensures.1 told (λ y h. h)

pub returns-in_err-keep-clause-refused : goal.returns-in_err-keep-clause-refused
returns-in_err-keep-clause-refused c =
    leaves (λ e. e ≡ OutOfMemory) _ OutOfMemory c.from_residual-in_err-keep.result c.from_residual-in_err-keep.ensures.1 refl (λ y h. inl h)

pub each-preserved : goal.each-preserved
each-preserved c =
    let nodes = c.args.nodes.now in
    let i = c.each.i in
    let n : NodeTree = node_tree c.index-nodes-i.result in
    let rest : ProgramTree = map node_tree (drop (i + 1) nodes) in
    let e : map node_tree (drop i nodes) ≡ n ∷ rest = ap (map node_tree) (drop_next nodes i c.index-nodes-i.result (omega arith) c.index-nodes-i.is) in
    let f : map node_tree (take (i + 1) nodes) ≡ map node_tree (take i nodes) ++ n ∷ [] =
    ap (map node_tree) (take_next nodes i c.index-nodes-i.result (omega arith) c.index-nodes-i.is) ∙ map-append node_tree (take i nodes) (c.index-nodes-i.result ∷ []) in
    placed_step c.args.ops.now (map node_tree nodes) (map node_tree (take i nodes)) rest (map node_tree (take (i + 1) nodes)) n c.each.scope c.keep.new.scope c.each.list.items c.keep.new.list.items c.in_ok-placed.placed
    c.each.spans.items c.keep.new.spans.items (first_unwritten n)
    (subst (λ r. NodesPlaced c.args.ops.now (map node_tree nodes) (map node_tree (take i nodes)) r c.each.scope c.each.list.items c.each.spans.items) e c.each.invariant)
    f c.in_ok-placed.ensures.ok.0 c.in_ok-placed.ensures.ok.1 refl c.in_ok-keep.ensures.names c.in_ok-keep.ensures.list c.in_ok-keep.ensures.spans

pub returns : goal.returns
returns c =
    let nodes = c.args.nodes.now in
    let i = c.each.i in
    let inv = subst (λ r. NodesPlaced c.args.ops.now (map node_tree nodes) (map node_tree (take i nodes)) r c.each.scope c.each.list.items c.each.spans.items)
    (ap (map node_tree) (drop_all i nodes c.each-test.false)) c.each.invariant in
    let is = placed_is c.args.ops.now (map node_tree nodes) (map node_tree (take i nodes)) c.each.scope c.each.list.items c.each.spans.items inv in
    record { good = is.0; list = is.1; spans = is.2; refused = tt }
