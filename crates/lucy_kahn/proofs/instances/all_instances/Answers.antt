use Rattle.std.proofs.Common.{ℕ, ◌≡◌, ◌+◌, ◌-◌, ◌<◌, List, [], ◌∷◌, ◌++◌, Some, None, length, ap, sym, refl, ◌∙◌, subst, arith, length-append}
use Rattle.std.specs.Prelude.{slice_get}
use Rattle.std.proofs.lemmas.Option.{slice_get_read}
use Rattle.lucy_place.specs.declared.placed.PlacedNode.{PlacedNode}
use Rattle.lucy_kahn.specs.declared.instances.Instance.{Instance}
use Rattle.lucy_kahn.specs.Instances.{made, AreInstances, paths_with}
use Rattle.lucy_kahn.proofs.InstanceLaws.{first_made, instances_more, left_from, left_falls}
use Rattle.lucy_kahn.proofs.instances.all_instances.Goals as goal

pub each-init : goal.each-init
each-init c =
    let x : Instance = record { node = c.nodes-nodes.result - 1; caller = None } in
    let list : c.push.new.self.items ≡ x ∷ [] = c.in_ok-push.ensures.items ∙ ap (λ xs. xs ++ x ∷ []) c.new-list.ensures.items in
    let is : x ≡ record { node = length c.args.placed.now.nodes - 1; caller = None } = (let at : ℕ → Instance = λ n. record { node = n - 1; caller = None } in ap at c.nodes-nodes.ensures.count) in (
      λ i. [],
      subst (λ xs. AreInstances c.args.placed.now.nodes xs c.new-inner.result.items (λ i. [])) (sym list)
          (subst (λ ys. AreInstances c.args.placed.now.nodes (x ∷ []) ys (λ i. [])) (sym c.new-inner.ensures.items) (first_made c.args.placed.now.nodes x (omega (arith, c.nodes-nodes.ensures.some, c.nodes-nodes.ensures.count)) is)),
    )

pub node-node-requires : goal.node-node-requires
node-node-requires c =
    (c.each.invariant.1.each c.len-instance.result c.index.result.now (slice_get_read c.each.list.items (length c.each.list.items) c.len-instance.result c.index.result.now refl (omega arith) c.index.ensures)).within

pub each-smaller : goal.each-smaller
each-smaller c =
    let nodes : List PlacedNode = c.args.placed.now.nodes in
    let list : List Instance = c.each.list.items in
    let q : ℕ = length c.each.inner.items in
    let at : c.len-instance.result ≡ q = omega (arith, c.len-instance.ensures) in
    let e : slice_get list q ≡ Some c.index.result.now = ap (slice_get list) (sym at) ∙ slice_get_read list (length list) c.len-instance.result c.index.result.now refl (omega arith) c.index.ensures in
    let falls = left_falls nodes list q c.index.result.now c.node-node.result.now c.nodes-nodes.ensures.proper e c.node-node.ensures.is in
    let nl : c.put_calls.new.list.items ≡ list ++ made q 1 c.node-node.result.now.calls =
    c.in_ok-put_calls.ensures.ok ∙ ap (λ k. list ++ made k 1 c.list.result.now) at ∙ ap (λ cs. list ++ made q 1 cs) c.list.ensures in
    let ni : length c.push-in-each.new.self.items ≡ q + 1 = ap (λ (ys : List ℕ). length ys) c.in_ok-push-2.ensures.items ∙ length-append c.each.inner.items (_ ∷ []) in
    subst (λ xs. left_from nodes xs (length c.push-in-each.new.self.items) < left_from nodes list q) (sym nl)
    (subst (λ k. left_from nodes (list ++ made q 1 c.node-node.result.now.calls) k < left_from nodes list q) (sym ni) falls)

pub each-preserved : goal.each-preserved
each-preserved c =
    let nodes : List PlacedNode = c.args.placed.now.nodes in
    let list : List Instance = c.each.list.items in
    let inner : List ℕ = c.each.inner.items in
    let q : ℕ = length inner in
    let n : PlacedNode = c.node-node.result.now in
    let at : c.len-instance.result ≡ q = omega (arith, c.len-instance.ensures) in
    let l : q < length list = omega arith in
    let e : slice_get list q ≡ Some c.index.result.now = ap (slice_get list) (sym at) ∙ slice_get_read list (length list) c.len-instance.result c.index.result.now refl (omega arith) c.index.ensures in
    let paths : ℕ → List ℕ = paths_with c.each.invariant.0 (length list) q in
    let more = instances_more nodes list inner c.each.invariant.0 c.each.invariant.1 c.index.result.now n l e c.node-node.ensures.is c.nodes-nodes.ensures.proper in
    let nl : c.put_calls.new.list.items ≡ list ++ made q 1 n.calls = c.in_ok-put_calls.ensures.ok ∙ ap (λ k. list ++ made k 1 c.list.result.now) at ∙ ap (λ cs. list ++ made q 1 cs) c.list.ensures in
    let ni : c.push-in-each.new.self.items ≡ inner ++ length list ∷ [] = c.in_ok-push-2.ensures.items ∙ ap (λ k. inner ++ k ∷ []) (let z : c.len-in-each-2.result ≡ length list = omega (arith, c.len-in-each-2.ensures) in z) in
    (paths, subst (λ xs. AreInstances nodes xs c.push-in-each.new.self.items paths) (sym nl) (subst (λ ys. AreInstances nodes (list ++ made q 1 n.calls) ys paths) (sym ni) more))
