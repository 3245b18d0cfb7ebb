-- The nodes of a program, each with those above it: they are one list, the nodes that are numbered.
use Rattle.std.proofs.Common.{◌↔◌, ◌≡◌, ℕ, zero, suc, List, [], ◌∷◌, ◌++◌, take, Some, slice_get, refl, ap, sym, ◌∙◌, subst, append-nil}
use Rattle.std.specs.Prelude.{option_map}
use Rattle.lucy_host.specs.Operators.{Operator}
use Rattle.lucy_host.proofs.Elements.{same_elements}
use Rattle.lucy_tree.specs.View.{NodeTree, ProgramTree}
use Rattle.lucy_place.specs.declared.placed.PlacedNode.{PlacedNode}
use Rattle.lucy_naming.specs.Places.{as_placed, AreNodesOf}
use Rattle.lucy_naming.specs.Nodes.{placed_below, placed_nodes}
use Rattle.lucy_naming.specs.Laws.{ProgramsHaveNodes, NodesAreOne}
use Rattle.lucy_naming.proofs.PartsLaws.{node_same}
use Rattle.lucy_naming.proofs.ProperPrograms.{behind}

module _ (ops : List Operator) where
  below_are : (above : ProgramTree) (ns : List NodeTree) (i : ℕ) → slice_get (placed_below ops above ns) i ≡ option_map (as_placed ops (above ++ take i ns)) (slice_get ns i)
  below_are above [] i = refl
  below_are above (n ∷ ns) zero = ap (λ n. Some n) (sym (node_same ops above n) ∙ ap (λ a. as_placed ops a n) (sym (append-nil above)))
  below_are above (n ∷ ns) (suc i) = below_are (above ++ n ∷ []) ns i ∙ ap (λ a. option_map (as_placed ops a) (slice_get ns i)) (behind ops above n ns i)

-- the nodes that are numbered are nodes of the program, and no others are
pub placed_are : (ops : List Operator) (program : ProgramTree) → AreNodesOf ops program (placed_nodes ops program)
placed_are ops program i = below_are ops [] program i

pub are_placed : (ops : List Operator) (program : ProgramTree) (nodes : List PlacedNode) → AreNodesOf ops program nodes → nodes ≡ placed_nodes ops program
are_placed ops program nodes h = same_elements nodes (placed_below ops [] program) (λ i. h i ∙ sym (placed_are ops program i))

pub placed_exactly : (ops : List Operator) (program : ProgramTree) (nodes : List PlacedNode) → AreNodesOf ops program nodes ↔ (nodes ≡ placed_nodes ops program)
placed_exactly ops program nodes = (are_placed ops program nodes, λ is. subst (AreNodesOf ops program) (sym is) (placed_are ops program))

pub have_nodes : ProgramsHaveNodes
have_nodes ops program = (placed_nodes ops program, placed_are ops program)

pub nodes_one : NodesAreOne
nodes_one ops program nodes others are also = same_elements nodes others (λ i. are i ∙ sym (also i))
