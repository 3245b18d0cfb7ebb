-- Parts of the definitions of instances, under names that the proofs speak by.
use Rattle.std.specs.Prelude.{ℕ, Option}
use Rattle.std.specs.Option.{option_map_or}
use Rattle.lucy_place.specs.declared.placed.PlacedNode.{PlacedNode}
use Rattle.lucy_place.specs.declared.entry.CallSite.{CallSite}
use Rattle.lucy_clock.specs.Clocks.{call_clock}

-- the number of the node that a call calls
abbrev pub called : Option CallSite → ℕ
called o = option_map_or (λ site. site.node) o 0

-- the clock of the base of a call, in the node that calls
abbrev pub base_clock : Option PlacedNode → ℕ → ℕ
base_clock o call = option_map_or (λ n. call_clock n call) o 0
