-- The iterates of a program: the lists of its instance places, from no items at all (Kahn 1974).
use Rattle.std.specs.Prelude.{ℕ, suc, zero, ◌*◌, List, [], map, take, ℤ}
use Rattle.lucy_word.specs.Bits.{Bits, ones_to}
use Rattle.lucy_host.specs.declared.kind.HostKind.{HostKind}
use Rattle.lucy_stream.specs.Lists.{form_list}
use Rattle.lucy_place.specs.declared.placed.PlacedNode.{PlacedNode}
use Rattle.lucy_kahn.specs.Spots.{Spot, form_at, reads_at}
use Rattle.lucy_kahn.specs.Sizes.{all_places}

-- the list of an instance place in iterate n: what its form makes of the lists in the iterate before, by the host's
-- operators of these kinds and an input for each parameter of main
abbrev pub kahn : List HostKind → List (List ℤ) → List PlacedNode → ℕ → Spot → List ℤ
kahn kinds inputs nodes zero spot = []
kahn kinds inputs nodes (suc n) spot = form_list kinds inputs n (form_at nodes spot) (map (kahn kinds inputs nodes n) (reads_at nodes spot))

-- the Kahn stream of an instance place whose clock is the word, cut at the horizon: as many items as the word has ones up to
-- there, of the list in the iterate whose number is the horizon times the number of instance places
abbrev pub stream_to : List HostKind → List (List ℤ) → List PlacedNode → ℕ → Bits → Spot → List ℤ
stream_to kinds inputs nodes horizon word spot = take (ones_to word horizon) (kahn kinds inputs nodes (horizon * all_places nodes) spot)
