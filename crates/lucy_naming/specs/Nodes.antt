-- The places of a node, and of a program, as the code counts them (see `Numbering.antt`).
use Rattle.std.specs.Prelude.{ℕ, ◌+◌, List, [], ◌∷◌, ◌++◌, Option, length, map}
use Rattle.std.specs.List.{flat_map}
use Rattle.lucy_host.specs.Operators.{Operator}
use Rattle.lucy_tree.specs.View.{DefTree, NodeTree, ProgramTree}
use Rattle.lucy_place.specs.declared.entry.PlaceEntry.{PlaceEntry}
use Rattle.lucy_place.specs.declared.entry.PlaceKind.TheVariants.{Param}
use Rattle.lucy_place.specs.declared.entry.CallSite.{CallSite}
use Rattle.lucy_place.specs.declared.placed.PlacedNode.{PlacedNode}
use Rattle.lucy_naming.specs.Phrases.{phrase_of}
use Rattle.lucy_naming.specs.Streams.{streams, result_count}
use Rattle.lucy_naming.specs.Places.{Known, known_in, stream_place, declared_entry, left_entries}
use Rattle.lucy_naming.specs.Numbering.{Next, past, number, entries, sites, bounds}
use Rattle.lucy_place.specs.Standing.{buffer_places}

-- behind a definition
abbrev pub past_def : Next → DefTree → Next
past_def at d = past at (result_count d.left) (phrase_of d.right)

-- behind definitions
abbrev pub past_defs : Next → List DefTree → Next
past_defs at [] = at
past_defs at (d ∷ ds) = past_defs (past_def at d) ds

-- the places of defined names, definition by definition
abbrev pub defined : Known → Next → List DefTree → List PlaceEntry
defined k at [] = []
defined k at (d ∷ ds) = left_entries (number k at (phrase_of d.right)) d.left ++ defined k (past_def at d) ds

-- the places of right sides
abbrev pub rights : Known → Next → List DefTree → List PlaceEntry
rights k at [] = []
rights k at (d ∷ ds) = entries k at (result_count d.left) (phrase_of d.right) ++ rights k (past_def at d) ds

-- the calls of right sides
abbrev pub def_sites : Known → Next → List DefTree → List CallSite
def_sites k at [] = []
def_sites k at (d ∷ ds) = sites k at (result_count d.left) (phrase_of d.right) ++ def_sites k (past_def at d) ds

-- the bounds of the buffers of right sides, one for each, where they are written
abbrev pub def_bounds : List DefTree → List (Option ℕ)
def_bounds ds = flat_map (λ d. bounds (phrase_of d.right)) ds

-- the numbers behind those of the streams, where the right sides begin
abbrev pub first_next : NodeTree → Next
first_next n = record { place = length (streams n) + 1; buffer = 1; call = 1 }

-- the places of a node: parameters, defined names, right sides
abbrev pub node_entries : Known → NodeTree → List PlaceEntry
node_entries k n = map (declared_entry Param) n.params ++ (defined k (first_next n) n.defs ++ rights k (first_next n) n.defs)

-- a node with these nodes above it
abbrev pub placed_node : List Operator → ProgramTree → NodeTree → PlacedNode
placed_node operators above n = record {
  name = n.name;
  params = length n.params;
  places = node_entries (known_in operators above n) n;
  results = map (λ r. stream_place (known_in operators above n) r.text) n.results;
  buffers = buffer_places 1 (node_entries (known_in operators above n) n);
  bounds = def_bounds n.defs;
  calls = def_sites (known_in operators above n) (first_next n) n.defs;
}

-- nodes below others
abbrev pub placed_below : List Operator → ProgramTree → List NodeTree → List PlacedNode
placed_below operators above [] = []
placed_below operators above (n ∷ ns) = placed_node operators above n ∷ placed_below operators (above ++ n ∷ []) ns

-- a program, where the host has these operators
abbrev pub placed_nodes : List Operator → ProgramTree → List PlacedNode
placed_nodes operators p = placed_below operators [] p
