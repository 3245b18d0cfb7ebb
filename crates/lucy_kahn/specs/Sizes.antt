-- What a program has, in all, with its calls written out.
use Rattle.std.specs.Prelude.{ℕ, ◌+◌, ◌-◌, ◌<◌, ◌≡◌, List, [], ◌∷◌, ◌++◌, length, min, sum_by, slice_index, slice_index_or}
use Rattle.lucy_place.specs.declared.placed.PlacedNode.{PlacedNode}

-- A table with an entry for each node. The entry is made of the node's number, of the node, and of the entries of the nodes
-- above it (of any other node it is `none`), which are all that it can call.
abbrev pub table_past : {A : Type 0} → A → ((ℕ → A) → ℕ → PlacedNode → A) → List A → List PlacedNode → List A
table_past none make known [] = known
table_past none make known (node ∷ nodes) = table_past none make (known ++ make (λ i. slice_index_or known i none) (length known) node ∷ []) nodes

-- the entry of a node in such a table
abbrev pub entry_of : {A : Type 0} → A → ((ℕ → A) → ℕ → PlacedNode → A) → List PlacedNode → ℕ → A
entry_of none make nodes node = slice_index_or (table_past none make [] nodes) node none

-- what a node of a program counts with its calls written out, by what each node counts by itself
abbrev pub total_of : (ℕ → PlacedNode → ℕ) → List PlacedNode → ℕ → ℕ
total_of own nodes node = entry_of 0 (λ total i n. own i n + sum_by (λ site. total site.node) n.calls) nodes node

-- the places of a node
abbrev pub own_places : ℕ → PlacedNode → ℕ
own_places i node = length node.places

-- the places of a node with its calls written out
abbrev pub size_of : List PlacedNode → ℕ → ℕ
size_of nodes node = total_of own_places nodes node

-- how many instance places a program has
abbrev pub all_places : List PlacedNode → ℕ
all_places nodes = size_of nodes (length nodes - 1)

-- a number, or the greatest 64-bit number where it is greater
abbrev pub capped : ℕ → ℕ
capped number = min number 18446744073709551615

-- the first numbers of a list are these, capped
abbrev pub AreCapped : (ℕ → ℕ) → ℕ → List ℕ → Type 0
AreCapped number upto list = (i : ℕ) → i < upto → slice_index list i ≡ capped (number i)
