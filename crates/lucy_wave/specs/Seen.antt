-- What contracts see of the variables, and of a net that is being made, in memory.
use Rattle.std.specs.Prelude.{ℕ, ◌+◌, ◌-◌, ◌<◌, ◌≤◌, ◌≡◌, [], List, ℤ, Option, Some, length, map, slice_get}
use Rattle.lucy_word.specs.Bits.{ones_to}
use Rattle.lucy_host.specs.declared.kind.HostKind.{HostKind}
use Rattle.lucy_stream.specs.Items.{list_at}
use Rattle.lucy_stream.specs.Iterates.{iterate}
use Rattle.lucy_stream.specs.Plans.{GiveBelow}
use Rattle.lucy_place.specs.declared.placed.PlacedNode.{PlacedNode}
use Rattle.lucy_clock.specs.declared.node_clock.NodeClock.{NodeClock}
use Rattle.lucy_net.specs.declared.net.Actor.{Actor}
use Rattle.lucy_net.specs.declared.net.Net.{Net}
use Rattle.lucy_net.specs.Plans.{plan, giver}
use Rattle.lucy_net.specs.Causal.{net_places}
use Rattle.lucy_core.specs.Seen.{IsOutputOf, first_ring}
use Rattle.lucy_kahn.specs.Spots.{at, IsSpot}
use Rattle.lucy_kahn.specs.Sizes.{all_places}
use Rattle.lucy_kahn.specs.Kahn.{kahn}
use Rattle.lucy_lines.specs.declared.output.OutputSpec.{OutputSpec}
use Rattle.lucy_results.specs.Streams.{main_word, main_streams}
use Rattle.lucy_wave.specs.declared.watching.Draft.{Draft}
use Rattle.lucy_wave.specs.declared.variable.Variable.{Variable as Shown}
use Rattle.lucy_wave.specs.declared.variable.Variable.TheVariants as shown
use Rattle.lucy_wave.specs.Dumps.{Variable}
use Rattle.lucy_wave.specs.Waves.{there, last, waits, IsWave, AreInside}

-- what a variable in memory shows
abbrev pub seen : Shown → Variable
seen (shown.There name word) = there name.now word.now
seen (shown.Last name word items) = last name.now word.now items.now
seen (shown.Waiting number write read) = waits number write.now read.now

-- what variables show, in order
abbrev pub all_seen : List Shown → List Variable
all_seen vs = map seen vs

-- the net of these actors and rings
abbrev pub net_of : Draft → Net
net_of draft = record { actors = draft.actors.items; rings = draft.rings.items }

-- a place whose actor and whose word are among so many
abbrev pub IsWithin : (actors words : ℕ) → (place : ℕ) → Type 0
IsWithin actors words place = (1 ≤ place) × (place ≤ actors) × (place < words)

-- the actors of the program's instance places alone give, and in each iterate those of main's places have the program's lists
pub record IsGrown (nodes : List PlacedNode) (net : Net) : Type 0 where
  pub below : (t : ℕ) → GiveBelow (plan net t) (all_places nodes)
  pub iterates : (kinds : List HostKind) (inputs : List (List ℤ)) (n place : ℕ) → IsSpot nodes (at [] place) →
      list_at (iterate kinds inputs (net_places net) n) (place - 1) ≡ kahn kinds inputs nodes n (at [] place)

-- the output of this number takes what the actor of a place of main gives, as often as the place's word has ones
pub record IsFedBy (nodes : List PlacedNode) (clocks : List NodeClock) (net : Net) (number place : ℕ) : Type 0 where
  pub spot : IsSpot nodes (at [] place)
  pub index : ℕ
  pub actor : Actor
  pub output : IsOutputOf net number index actor
  pub counts : (t : ℕ) → ones_to actor.firing t ≡ ones_to (main_word nodes clocks place) t
  pub ring : first_ring actor < length net.rings
  pub from : giver net (first_ring actor) ≡ place - 1

-- so do outputs from a number on of places in order
abbrev pub AreFed : List PlacedNode → List NodeClock → Net → (first : ℕ) → (places : List ℕ) → Type 0
AreFed nodes clocks net first places = (i place : ℕ) → slice_get places i ≡ Some place → IsFedBy nodes clocks net (first + i) place

-- the text is the dump of a run on these lists up to the horizon
abbrev pub IsDump : List HostKind → List PlacedNode → List NodeClock → Net → List OutputSpec → (lists : List (List ℤ)) → (horizon : ℕ) → (text : List ℕ) → Type 0
IsDump kinds nodes clocks net outputs lists horizon text =
    (inside : Option (List (List ℤ))) × AreInside kinds lists nodes clocks net horizon inside × IsWave nodes clocks outputs lists (main_streams kinds lists nodes clocks horizon) inside horizon text
