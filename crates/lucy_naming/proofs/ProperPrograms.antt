-- The nodes of a program without faults are proper, where its tree has the shape that the grammar gives.
use Rattle.std.proofs.Common.{◌≡◌, ℕ, zero, suc, List, [], ◌∷◌, ◌++◌, take, Some, slice_get, refl, ap, sym, ◌∙◌, subst, append_assoc, append-nil}
use Rattle.std.proofs.lemmas.List.{length-map}
use Rattle.std.specs.List.{AllByRecursion}
use Rattle.lucy_word.proofs.Lists.{front_empty, back_empty}
use Rattle.lucy_host.specs.Operators.{Operator}
use Rattle.lucy_tree.specs.declared.span.Name.{Name}
use Rattle.lucy_tree.specs.View.{NodeTree, ProgramTree}
use Rattle.lucy_tree.specs.Shaped.{IsShapedNode, IsShapedProgram}
use Rattle.lucy_place.specs.declared.placed.PlacedNode.{PlacedNode}
use Rattle.lucy_naming.specs.Faults.{node_faults, nodes_faults, faults}
use Rattle.lucy_naming.specs.Places.{stream_place, known_in}
use Rattle.lucy_naming.specs.Nodes.{placed_node, placed_below, placed_nodes}
use Rattle.lucy_place.specs.Proper.{IsProperNode, AreProper}
use Rattle.lucy_naming.proofs.Good.{Callee}
use Rattle.lucy_naming.proofs.ProperNodes.{node_proper}

module _ (ops : List Operator) where
  -- a node, then those below it
  pub behind : (above : ProgramTree) (t : NodeTree) (ts : ProgramTree) (i : ℕ) → (above ++ t ∷ []) ++ take i ts ≡ above ++ take (suc i) (t ∷ ts)
  behind above t ts i = append_assoc above (t ∷ []) (take i ts)

  -- the node of a tree, and the tree of a node
  pub below_at : (above ts : ProgramTree) (i : ℕ) (t : NodeTree) → slice_get ts i ≡ Some t → slice_get (placed_below ops above ts) i ≡ Some (placed_node ops (above ++ take i ts) t)
  below_at above [] i t h = cc
  below_at above (u ∷ ts) zero t h =
      let same : u ≡ t = cc in
      ap (λ v. Some (placed_node ops above v)) same ∙ ap (λ a. Some (placed_node ops a t)) (sym (append-nil above))
  below_at above (u ∷ ts) (suc i) t h = below_at (above ++ u ∷ []) ts i t h ∙ ap (λ a. Some (placed_node ops a t)) (behind above u ts i)

  pub tree_at : (above ts : ProgramTree) (i : ℕ) (n : PlacedNode) → slice_get (placed_below ops above ts) i ≡ Some n → (t : NodeTree) × (slice_get ts i ≡ Some t) × (n ≡ placed_node ops (above ++ take i ts) t)
  tree_at above [] i n h = cc
  tree_at above (u ∷ ts) zero n h = let same : n ≡ placed_node ops above u = cc in (u, refl, same ∙ ap (λ a. placed_node ops a u) (sym (append-nil above)))
  tree_at above (u ∷ ts) (suc i) n h =
      let found = tree_at (above ++ u ∷ []) ts i n h in
      (found.0, found.1, found.2 ∙ ap (λ a. placed_node ops a found.0) (behind above u ts i))

  pub take_below : (above ts : ProgramTree) (i : ℕ) → take i (placed_below ops above ts) ≡ placed_below ops above (take i ts)
  take_below above [] zero = refl
  take_below above [] (suc i) = refl
  take_below above (t ∷ ts) zero = refl
  take_below above (t ∷ ts) (suc i) = ap (λ ns. placed_node ops above t ∷ ns) (take_below (above ++ t ∷ []) ts i)

  -- no node has a fault where the program has none
  pub node_good : (all above ts : ProgramTree) (i : ℕ) (t : NodeTree) → nodes_faults ops all above ts ≡ [] → slice_get ts i ≡ Some t → node_faults ops all (above ++ take i ts) t ≡ []
  node_good all above [] i t none h = cc
  node_good all above (u ∷ ts) zero t none h =
      let same : u ≡ t = cc in
      ap (λ a. node_faults ops all a t) (append-nil above) ∙ ap (node_faults ops all above) (sym same) ∙ front_empty (node_faults ops all above u) (nodes_faults ops all (above ++ u ∷ []) ts) none
  node_good all above (u ∷ ts) (suc i) t none h =
      ap (λ a. node_faults ops all a t) (sym (behind above u ts i))
      ∙ node_good all (above ++ u ∷ []) ts i t (back_empty (node_faults ops all above u) (nodes_faults ops all (above ++ u ∷ []) ts) none) h

  pub node_shaped : (ts : ProgramTree) (i : ℕ) (t : NodeTree) → AllByRecursion IsShapedNode ts → slice_get ts i ≡ Some t → IsShapedNode t
  node_shaped [] i t shape h = cc
  node_shaped (u ∷ ts) zero t shape h = let same : u ≡ t = cc in subst IsShapedNode same shape.0
  node_shaped (u ∷ ts) (suc i) t shape h = node_shaped ts i t shape.1 h

  -- what is called by a node
  pub callee : (above : ProgramTree) (i : ℕ) (t : NodeTree) → slice_get above i ≡ Some t → Callee (placed_below ops [] above) i t
  callee above i t h = record {
    node = placed_node ops (take i above) t;
    found = below_at [] above i t h;
    params = refl;
    results = length-map t.results (λ (r : Name). stream_place (known_in ops (take i above) t) r.text);
  }

  pub nodes_proper : (p : ProgramTree) → IsShapedProgram p → faults ops p ≡ [] → AreProper (placed_nodes ops p)
  nodes_proper p shape none i n h =
      let found = tree_at [] p i n h in
      let above : ProgramTree = take i p in
      let proper : IsProperNode (placed_below ops [] above) (placed_node ops above found.0) =
      node_proper ops p above found.0 (placed_below ops [] above) (callee above) (node_shaped p i found.0 shape.nodes found.1) (node_good p [] p i found.0 none found.1) in
      subst (λ m. IsProperNode (take i (placed_nodes ops p)) m) (sym found.2) (subst (λ a. IsProperNode a (placed_node ops above found.0)) (sym (take_below [] p i)) proper)
