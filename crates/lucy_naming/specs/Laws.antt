-- What the law of places says: a program has nodes with their places, and one list of them.
use Rattle.std.specs.Prelude.{◌≡◌, List}
use Rattle.lucy_host.specs.Operators.{Operator}
use Rattle.lucy_tree.specs.View.{ProgramTree}
use Rattle.lucy_place.specs.declared.placed.PlacedNode.{PlacedNode}
use Rattle.lucy_naming.specs.Places.{AreNodesOf}

-- every program has nodes
abbrev pub ProgramsHaveNodes : Type 0
ProgramsHaveNodes = (ops : List Operator) (program : ProgramTree) → (nodes : List PlacedNode) × AreNodesOf ops program nodes

-- and no others
abbrev pub NodesAreOne : Type 0
NodesAreOne = (ops : List Operator) (program : ProgramTree) (nodes others : List PlacedNode) → AreNodesOf ops program nodes → AreNodesOf ops program others → nodes ≡ others
