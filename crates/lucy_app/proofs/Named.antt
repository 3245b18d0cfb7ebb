-- The first node of a name.
use Rattle.std.proofs.Common.{ℕ, ◌+◌, ◌≡◌, true, false, List, drop, Some, ap, ◌∙◌}
use Rattle.std.specs.Prelude.{not, slice_get}
use Rattle.std.specs.Str.{bytes_eq}
use Rattle.std.proofs.lemmas.Bool.{cond-true, cond-false}
use Rattle.lucy_place.specs.declared.placed.PlacedNode.{PlacedNode}
use Rattle.lucy_app.specs.Tighten.{node_named}
use Rattle.lucy_program.proofs.ReportLaws.{drop_at}

module _ (nodes : List PlacedNode) (name : List ℕ) (i : ℕ) (n : PlacedNode) (at : slice_get nodes i ≡ Some n) where
  -- where the node at a number has the name, it is the first of the nodes from there on
  pub named_here : bytes_eq n.name.text name ≡ true → node_named (drop i nodes) name ≡ 0
  named_here e =
      ap (λ (ns : List PlacedNode). node_named ns name) (drop_at nodes i n at)
      ∙ cond-false (not (bytes_eq n.name.text name)) (1 + node_named (drop (i + 1) nodes) name) 0 (ap not e)

  -- and where it has another, the first is behind it
  pub named_on : bytes_eq n.name.text name ≡ false → node_named (drop i nodes) name ≡ 1 + node_named (drop (i + 1) nodes) name
  named_on e =
      ap (λ (ns : List PlacedNode). node_named ns name) (drop_at nodes i n at)
      ∙ cond-true (not (bytes_eq n.name.text name)) (1 + node_named (drop (i + 1) nodes) name) 0 (ap not e)
