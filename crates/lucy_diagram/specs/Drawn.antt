-- The edges of a drawing as a list: place by place, and for each in the order of its operands; and the forms that drawing looks for.
use Rattle.std.specs.Prelude.{ℕ, ◌+◌, Bool, List, [], ◌∷◌, ◌++◌, Option, None}
use Rattle.lucy_tree.specs.Tree.{Tree}
use Rattle.lucy_tree.specs.View.{ProgramTree}
use Rattle.lucy_place.specs.declared.entry.PlaceEntry.{PlaceEntry}
use Rattle.lucy_place.specs.declared.entry.PlaceKind.{PlaceKind}
use Rattle.lucy_place.specs.declared.entry.PlaceKind.TheVariants.{Host, When}
use Rattle.lucy_place.specs.declared.placed.PlacedNode.{PlacedNode}
use Rattle.lucy_place.specs.Reads.{reads_of}
use Rattle.lucy_diagram.specs.declared.edge.Edge.{Edge}
use Rattle.lucy_diagram.specs.Diagrams.{is_late}
use Rattle.lucy_diagram.specs.Labels.{form_there}

-- an edge to a place from one that it reads
abbrev pub edge_to : (late : Bool) → (p k q : ℕ) → Edge
edge_to late p k q = record { from = q; to = p; seat = k; late = late }

-- those to a place from what it reads, from an operand on
abbrev pub edges_at : (late : Bool) → (p k : ℕ) → List ℕ → List Edge
edges_at late p k [] = []
edges_at late p k (q ∷ qs) = edge_to late p k q ∷ edges_at late p (k + 1) qs

-- those to places from a number on
abbrev pub edges_from : PlacedNode → ℕ → List PlaceEntry → List Edge
edges_from n p [] = []
edges_from n p (e ∷ es) = edges_at (is_late e.kind) p 0 (reads_of n e.kind) ++ edges_from n (p + 1) es

-- those of a node
abbrev pub node_edges : PlacedNode → List Edge
node_edges n = edges_from n 1 n.places

-- the form at a place, where its text says more than its kind
abbrev pub form_in : ProgramTree → (node place : ℕ) → PlaceKind → Option Tree
form_in program node place (Host op a b) = form_there program node place
form_in program node place (When e word) = form_there program node place
form_in program node place k = None
