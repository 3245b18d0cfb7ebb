use Rattle.std.proofs.Common.{◌-◌, ◌++◌, ◌∷◌, length, ap, ◌∙◌, subst, arith}
use Rattle.std.specs.Prelude.{IfOk}
use Rattle.std.proofs.lemmas.Result.{IfOk-weaker}
use Rattle.lucy_place.specs.declared.placed.PlacedNode.{PlacedNode}
use Rattle.lucy_kahn.proofs.Tables.{calls_below}
use Rattle.lucy_front.specs.Items.{path_text, IsActorName}
use Rattle.lucy_flat.proofs.ExtentLaws.{call_above}
use Rattle.lucy_front.proofs.EndLaws.{ends_at, ends_rise, site_at, own_place, own_name, within, inner_there, inner_few, inner_leads, inner_begin}
use Rattle.lucy_front.proofs.items.+put_name.Goals as goal

pub passed-call-requires : goal.passed-call-requires
passed-call-requires t c =
    let nodes = c.args.placed.now.nodes in
    let n : PlacedNode = c.node-found.result.now in
    ends_rise nodes n c.list-parts.result.now (ends_at nodes c.args.ends.now (length nodes) c.args.node n c.index-ends-node.result c.list-parts.result.now c.requires.ends c.requires.node c.node-found.ensures.is c.index-ends-node.is c.list-parts.ensures)

pub returns-then-call-eq0 : goal.returns-then-call-eq0
returns-then-call-eq0 t c = λ path leads text.
    let nodes = c.args.placed.now.nodes in
    let n : PlacedNode = c.node-found.result.now in
    let are = ends_at nodes c.args.ends.now (length nodes) c.args.node n c.index-ends-node.result c.list-parts.result.now c.requires.ends c.requires.node c.node-found.ensures.is c.index-ends-node.is c.list-parts.ensures in
    let below = calls_below nodes c.args.node n c.node-found.ensures.proper in
    let none = c.if-call-eq0.true in
    let first = c.passed-call.ensures.from 0 (omega arith) (omega (arith, are.count)) in
    let own = own_place nodes c.args.node n c.args.behind c.list-parts.result.now c.node-found.ensures.is are c.requires.few below c.requires.there first in
    IfOk-weaker c.bytes-then-call-eq0.result _ _ (λ _ put.
    own_name nodes path n c.args.behind _ c.bytes-then-call-eq0.new.out.items (leads ∙ c.node-found.ensures.is) own (omega arith)
    (put ∙ ap (λ l. l ++ c.bytes.result.now) text ∙ ap (λ l. path_text path ++ l) (c.bytes.ensures ∙ c.in_ok-place.ensures))) c.bytes-then-call-eq0.ensures

pub offset_bounds-list-call : goal.offset_bounds-list-call
offset_bounds-list-call t c =
    let nodes = c.args.placed.now.nodes in
    let n : PlacedNode = c.node-found.result.now in
    let are = ends_at nodes c.args.ends.now (length nodes) c.args.node n c.index-ends-node.result c.list-parts.result.now c.requires.ends c.requires.node c.node-found.ensures.is c.index-ends-node.is c.list-parts.ensures in
    let few = c.node-found.ensures.proper.few_calls in
    let most = c.passed-call.ensures.most in
    let count = are.count in
    omega arith

pub bounds-list-call : goal.bounds-list-call
bounds-list-call t c =
    let nodes = c.args.placed.now.nodes in
    let n : PlacedNode = c.node-found.result.now in
    let are = ends_at nodes c.args.ends.now (length nodes) c.args.node n c.index-ends-node.result c.list-parts.result.now c.requires.ends c.requires.node c.node-found.ensures.is c.index-ends-node.is c.list-parts.ensures in
    let below = calls_below nodes c.args.node n c.node-found.ensures.proper in
    let is = within nodes c.args.node n c.args.behind c.list-parts.result.now c.node-found.ensures.is are c.requires.few below c.requires.there c.passed-call.result (λ e. absurd (c.if-call-eq0.false e)) c.passed-call.ensures.most
    c.passed-call.ensures.before c.passed-call.ensures.from in
    let low = is.is_call in
    let list = ap length c.list.ensures in
    omega arith

pub put_name-requires : goal.put_name-requires
put_name-requires t c =
    let nodes = c.args.placed.now.nodes in
    let n : PlacedNode = c.node-found.result.now in
    let found = c.node-found.ensures.is in
    let are = ends_at nodes c.args.ends.now (length nodes) c.args.node n c.index-ends-node.result c.list-parts.result.now c.requires.ends c.requires.node found c.index-ends-node.is c.list-parts.ensures in
    let below = calls_below nodes c.args.node n c.node-found.ensures.proper in
    let call = c.passed-call.result in
    let site = c.index-list-call.result in
    let is = within nodes c.args.node n c.args.behind c.list-parts.result.now found are c.requires.few below c.requires.there call (λ e. absurd (c.if-call-eq0.false e)) c.passed-call.ensures.most c.passed-call.ensures.before
    c.passed-call.ensures.from in
    let low = is.is_call in
    let list = ap length c.list.ensures in
    let stands = site_at c.list.result.now n.calls (call - 1) site c.list.ensures (omega arith) c.index-list-call.is in
    let above = call_above nodes c.args.node n c.list.result.now (call - 1) site c.node-found.ensures.proper c.list.ensures (omega arith) c.index-list-call.is in
    let decreases = c.decreases in
    let node = c.requires.node in (
      omega arith,
      (
        c.requires.ends,
        (
          omega arith,
          (
            inner_there nodes c.args.node n c.args.behind c.list-parts.result.now found are c.requires.few below c.requires.there call site is stands,
            inner_few nodes c.args.node n c.args.behind c.list-parts.result.now found are
                c.requires.few below c.requires.there call site is stands,
          ),
        ),
      ),
    )

pub returns : goal.returns
returns t c = λ path leads text.
    let nodes = c.args.placed.now.nodes in
    let n : PlacedNode = c.node-found.result.now in
    let found = c.node-found.ensures.is in
    let parts = c.list-parts.result.now in
    let are = ends_at nodes c.args.ends.now (length nodes) c.args.node n c.index-ends-node.result parts c.requires.ends c.requires.node found c.index-ends-node.is c.list-parts.ensures in
    let below = calls_below nodes c.args.node n c.node-found.ensures.proper in
    let call = c.passed-call.result in
    let site = c.index-list-call.result in
    let is = within nodes c.args.node n c.args.behind parts found are c.requires.few below c.requires.there call (λ e. absurd (c.if-call-eq0.false e)) c.passed-call.ensures.most c.passed-call.ensures.before c.passed-call.ensures.from in
    let low = is.is_call in
    let list = ap length c.list.ensures in
    let stands = site_at c.list.result.now n.calls (call - 1) site c.list.ensures (omega arith) c.index-list-call.is in
    let inner = inner_leads nodes c.args.node n c.args.behind parts found are c.requires.few below c.requires.there call site is stands path leads in
    let begin = inner_begin nodes c.args.node n c.args.behind parts found are c.requires.few below c.requires.there call site is stands path leads in
    let put = c.in_ok-bytes.ensures ∙ ap (λ l. l ++ c.as_bytes.result.now) text ∙ ap (λ l. path_text path ++ l) (c.as_bytes.ensures.value ∙ c.in_ok-format.ensures.ok) in
    subst (λ k. IfOk c.put_name.result (λ _. IsActorName nodes k c.put_name.new.name.items)) begin (c.put_name.ensures (call ∷ path) inner put)
