-- The lines on the types of the nodes of a program.
use Rattle.std.specs.Prelude.{ℕ, ◌==◌, List, [], ◌∷◌, ◌++◌, length}
use Rattle.lucy_place.specs.declared.placed.PlacedNode.{PlacedNode}
use Rattle.lucy_types.specs.declared.ty.Ty.{Ty}
use Rattle.lucy_program.specs.Names.{node_line}
use Rattle.lucy_program.specs.Report.{name_lines}

-- the lines of nodes with these types of their places, of which nothing more is said; main has none behind it
abbrev pub type_report : List PlacedNode → List (List Ty) → List ℕ
type_report (n ∷ ns) (ts ∷ tables) = (node_line n ++ name_lines (length ns == 0) (λ place. []) 1 n.places ts) ++ type_report ns tables
type_report ns tables = []
