use Rattle.std.proofs.Common.{◌≡◌, false, map, ap, sym, ◌∙◌}
use Rattle.std.proofs.lemmas.Result.{IfOk-weaker, IfErr-weaker}
use Rattle.lucy_word.proofs.Results.{leaves}
use Rattle.lucy_tree.specs.View.{NodeTree, ProgramTree, node_tree}
use Rattle.lucy_naming.specs.Texts.{is_in}
use Rattle.lucy_naming.specs.Streams.{node_names}
use Rattle.lucy_naming.specs.Placing.{TellsFirstFault}
use Rattle.lucy_naming.proofs.NodeFaults.{in_streams, tells_name, tells_streams, tells_inner, no_faults}
use Rattle.lucy_naming.proofs.placing.next_node.Goals as goal

pub returns-then-is_some-clause-refused : goal.returns-then-is_some-clause-refused
returns-then-is_some-clause-refused c =
    let above : ProgramTree = map node_tree c.args.above.now in
    tells_name c.args.ops.now (map node_tree c.args.all.now) above (node_tree c.args.node.now)
    (ap (λ s. is_in s c.args.node.now.name.text) (sym c.requires.named) ∙ ap (is_in c.args.scope.now) (sym c.bytes.ensures) ∙ sym c.find.ensures.there ∙ sym c.is_some.ensures ∙ c.if-is_some.true)

pub returns-in_err-known-clause-refused : goal.returns-in_err-known-clause-refused
returns-in_err-known-clause-refused c =
    let all : ProgramTree = map node_tree c.args.all.now in
    let above : ProgramTree = map node_tree c.args.above.now in
    let n : NodeTree = node_tree c.args.node.now in
    let new : is_in (node_names above) n.name.text ≡ false =
    ap (λ s. is_in s n.name.text) (sym c.requires.named) ∙ ap (is_in c.args.scope.now) (sym c.bytes.ensures) ∙ sym c.find.ensures.there ∙ sym c.is_some.ensures ∙ c.if-is_some.false in
    leaves (TellsFirstFault (in_streams c.args.ops.now all above n)) _ _ c.from_residual.result c.from_residual.ensures.1 c.in_err-known.ensures.refused (tells_streams c.args.ops.now all above n new)

pub returns-clause-refused : goal.returns-clause-refused
returns-clause-refused c =
    let all : ProgramTree = map node_tree c.args.all.now in
    let above : ProgramTree = map node_tree c.args.above.now in
    let n : NodeTree = node_tree c.args.node.now in
    let new : is_in (node_names above) n.name.text ≡ false =
    ap (λ s. is_in s n.name.text) (sym c.requires.named) ∙ ap (is_in c.args.scope.now) (sym c.bytes.ensures) ∙ sym c.find.ensures.there ∙ sym c.is_some.ensures ∙ c.if-is_some.false in
    IfErr-weaker c.named_node.result _ _ (tells_inner c.args.ops.now all above n new c.in_ok-known.known c.in_ok-known.ensures.ok.0 c.in_ok-known.ensures.ok.1) c.named_node.ensures.refused

pub returns-clause-ok : goal.returns-clause-ok
returns-clause-ok c =
    let all : ProgramTree = map node_tree c.args.all.now in
    let above : ProgramTree = map node_tree c.args.above.now in
    let n : NodeTree = node_tree c.args.node.now in
    let new : is_in (node_names above) n.name.text ≡ false =
    ap (λ s. is_in s n.name.text) (sym c.requires.named) ∙ ap (is_in c.args.scope.now) (sym c.bytes.ensures) ∙ sym c.find.ensures.there ∙ sym c.is_some.ensures ∙ c.if-is_some.false in
    IfOk-weaker c.named_node.result _ _ (λ placed is. (no_faults c.args.ops.now all above n new c.in_ok-known.known c.in_ok-known.ensures.ok.0 c.in_ok-known.ensures.ok.1 is.0, is.1)) c.named_node.ensures.ok
