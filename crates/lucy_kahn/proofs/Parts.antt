-- Parts of the definitions of instance places, under names that the proofs speak by.
use Rattle.std.specs.Prelude.{ℕ, List, [], Option, slice_get, option_map}
use Rattle.std.specs.Option.{option_and_then, option_map_or}
use Rattle.lucy_stream.specs.Forms.{Form, Same}
use Rattle.lucy_place.specs.declared.placed.PlacedNode.{PlacedNode}
use Rattle.lucy_place.specs.declared.entry.PlaceEntry.{PlaceEntry}
use Rattle.lucy_place.specs.declared.entry.PlaceKind.{PlaceKind}
use Rattle.lucy_place.specs.declared.entry.CallSite.{CallSite}
use Rattle.lucy_place.specs.Proper.{at_one}
use Rattle.lucy_kahn.specs.Spots.{Spot, spot_form, spot_reads}

-- the node that a call calls
abbrev pub callee_in : List PlacedNode → Option CallSite → Option PlacedNode
callee_in nodes o = option_and_then (λ site. slice_get nodes site.node) o

-- what stands at a place of a node, if it is one
abbrev pub kind_of : Option PlaceEntry → Option PlaceKind
kind_of o = option_map (λ entry. entry.kind) o

-- what stands at a place of the node, if both are there
abbrev pub kind_in : Option PlacedNode → ℕ → Option PlaceKind
kind_in o place = kind_of (option_and_then (λ n. at_one n.places place) o)

-- the form of a place where this stands
abbrev pub form_if : Spot → Option PlaceKind → Form
form_if spot o = option_map_or (spot_form spot) o Same

-- what it reads
abbrev pub reads_if : List PlacedNode → Spot → Option PlaceKind → List Spot
reads_if nodes spot o = option_map_or (spot_reads nodes spot) o []
