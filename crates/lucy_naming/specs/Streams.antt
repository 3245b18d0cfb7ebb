-- The streams of a node, and the nodes above another.
use Rattle.std.specs.Prelude.{ℕ, List, [], ◌∷◌, ◌++◌, length, map}
use Rattle.std.specs.List.{flat_map}
use Rattle.lucy_tree.specs.declared.span.Name.{Name}
use Rattle.lucy_tree.specs.declared.decl.Decl.{Decl}
use Rattle.lucy_tree.specs.View.{DefTree, NodeTree, ProgramTree}

-- the names that declarations declare
abbrev pub declared : List Decl → List Name
declared ds = map (λ d. d.name) ds

-- the names that definitions define
abbrev pub def_names : List DefTree → List Name
def_names ds = flat_map (λ d. declared d.left) ds

-- the names of a node's streams: its parameters, then its defined names
abbrev pub streams : NodeTree → List Name
streams n = declared n.params ++ def_names n.defs

-- the names of nodes
abbrev pub node_names : ProgramTree → List (List ℕ)
node_names nodes = map (λ n. n.name.text) nodes

-- how many results a call has: one for each name on its left, and one inside an expression, where no name is
abbrev pub result_count : List Decl → ℕ
result_count [] = 1
result_count (d ∷ ds) = length (d ∷ ds)
