use Rattle.std.proofs.Common.{◌≡◌, ◌+◌, List, Some, length, take, ap, subst, sym, ◌∙◌}
use Rattle.std.specs.List.{Contains}
use Rattle.std.proofs.lemmas.Result.{IfOk-weaker}
use Rattle.std.proofs.lemmas.Option.{same_Some}
use Rattle.lucy_place.specs.declared.placed.PlacedNode.{PlacedNode}
use Rattle.std.specs.Prelude.{slice_get}
use Rattle.lucy_types.specs.declared.ty.Ty.{Ty}
use Rattle.lucy_types.specs.declared.rule.Rule.{Rule}
use Rattle.lucy_types.specs.Rules.{IsRule}
use Rattle.lucy_types.specs.Graphs.{AllFit}
use Rattle.lucy_types.specs.Nodes.{Solves, tables_of}
use Rattle.lucy_types.proofs.NodeLaws.{stands_fit, stands_solved}
use Rattle.lucy_types.proofs.typing.node_types.Goals as goal

pub solve-requires : goal.solve-requires
solve-requires c =
    subst (λ rs. AllFit (length c.list.result.now + 1) rs) (sym c.deref.ensures.value)
    (stands_fit (take c.args.node c.args.placed.now.nodes) (tables_of c.args.signatures.now) c.node.result.now c.in_ok-rules.rules.items (length c.list.result.now) c.node.ensures.proper
    (c.in_ok-rules.ensures c.node.result.now c.node.ensures.is) (ap length c.list.ensures))

pub returns : goal.returns
returns c =
    let known : List (List Ty) = tables_of c.args.signatures.now in
    let above : List PlacedNode = take c.args.node c.args.placed.now.nodes in
    IfOk-weaker c.solve.result (λ s. Solves (Contains c.deref.result.now) (length c.list.result.now) s)
    (λ s. (n : PlacedNode) → slice_get c.args.placed.now.nodes c.args.node ≡ Some n → Solves (IsRule above known n) (length n.places) s)
    (λ s h n e.
    let same : c.node.result.now ≡ n = same_Some c.node.result.now n (sym c.node.ensures.is ∙ e) in
    stands_solved (IsRule above known n) c.in_ok-rules.rules.items (length n.places) s (c.in_ok-rules.ensures n e)
    (subst (λ m. Solves (Contains c.in_ok-rules.rules.items) m s) (ap length c.list.ensures ∙ ap (λ (m : PlacedNode). length m.places) same)
    (subst (λ (rs : List Rule). Solves (Contains rs) (length c.list.result.now) s) c.deref.ensures.value h)))
    c.solve.ensures
