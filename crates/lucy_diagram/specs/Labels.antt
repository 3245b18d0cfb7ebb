-- What stands at a place, as text.
use Rattle.std.specs.Prelude.{ℕ, ◌+◌, List, ◌++◌, Option, Some, None, slice_get, codes}
use Rattle.std.specs.Option.{option_map_or, option_and_then}
use Rattle.std.specs.Fmt.{decimal}
use Rattle.lucy_tree.specs.Tree.{Tree}
use Rattle.lucy_tree.specs.View.{ProgramTree}
use Rattle.lucy_place.specs.declared.entry.PlaceEntry.{PlaceEntry}
use Rattle.lucy_place.specs.declared.entry.PlaceKind.{PlaceKind}
use Rattle.lucy_place.specs.declared.entry.PlaceKind.TheVariants as kind
use Rattle.lucy_place.specs.declared.placed.PlacedNode.{PlacedNode}
use Rattle.lucy_place.specs.Standing.{at_one}
use Rattle.lucy_program.specs.Names.{of_one}
use Rattle.lucy_picture.specs.Forms.{form_at}
use Rattle.lucy_picture.specs.Kinds.{kind_text}

-- the name of the node of a number
abbrev pub node_name : List PlacedNode → ℕ → List ℕ
node_name nodes node = of_one (λ n. n.name.text) (slice_get nodes node)

-- the call of a result of a call, and which of its results it is, from 0
abbrev pub result_of : PlaceKind → Option (ℕ × ℕ)
result_of (kind.Result call j) = Some (call, j)
result_of k = None

-- the node of a call, behind `of`
abbrev pub callee_part : List PlacedNode → PlacedNode → (call : ℕ) → List ℕ
callee_part nodes n call = of_one (λ site. codes " of " ++ node_name nodes site.node) (at_one n.calls call)

-- a result of a call: `result J of NODE`
abbrev pub result_part : List PlacedNode → PlacedNode → ℕ × ℕ → List ℕ
result_part nodes n result = codes "result " ++ (decimal (result.1 + 1) ++ callee_part nodes n result.0)

-- what stands at a place of this form without a name
abbrev pub unnamed_text : List PlacedNode → PlacedNode → PlaceKind → (form : Option Tree) → List ℕ
unnamed_text nodes n k form = option_map_or (result_part nodes n) (result_of k) (kind_text n k form)

-- what stands at a place: its name, where it has one
abbrev pub entry_text : List PlacedNode → PlacedNode → PlaceEntry → (form : Option Tree) → List ℕ
entry_text nodes n entry form = option_map_or (λ name. name.text) entry.name (unnamed_text nodes n entry.kind form)

-- the form at a place of a node of a program's text
abbrev pub form_there : ProgramTree → (node place : ℕ) → Option Tree
form_there program node place = option_and_then (λ t. form_at t place) (slice_get program node)

-- what is in the box of a place: `#N: `, and what stands there
abbrev pub place_text : ProgramTree → List PlacedNode → (node : ℕ) → PlacedNode → (place : ℕ) → List ℕ
place_text program nodes node n place =
    codes "#" ++ (decimal place ++ (codes ": " ++ of_one (λ entry. entry_text nodes n entry (form_there program node place)) (at_one n.places place)))
