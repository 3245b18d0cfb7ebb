-- The words of instances: of the base of each, and of its places.
use Rattle.std.specs.Prelude.{ℕ, ◌-◌, ◌<◌, ◌≡◌, true, List, [], ◌∷◌, length, Option, slice_get, slice_index_or}
use Rattle.std.specs.Option.{option_map_or}
use Rattle.lucy_word.specs.Bits.{Bits, bit_at, IsWord}
use Rattle.lucy_word.specs.Always.{always}
use Rattle.lucy_word.specs.Sampling.{IsOn}
use Rattle.lucy_place.specs.declared.placed.PlacedNode.{PlacedNode}
use Rattle.lucy_clock.specs.declared.node_clock.NodeClock.{NodeClock}
use Rattle.lucy_clock.specs.Clocks.{call_clock}
use Rattle.lucy_kahn.specs.Spots.{Spot, site_in, node_at}

-- the number of the node that a path of calls leads to from main
abbrev pub index_at : List PlacedNode → List ℕ → ℕ
index_at nodes [] = length nodes - 1
index_at nodes (call ∷ path) = option_map_or (λ site. site.node) (site_in (node_at nodes path) call) 0

-- the words of a node's clocks
abbrev pub words_in : Option NodeClock → List Bits
words_in o = option_map_or (λ clock. clock.words) o []

-- the sizes of a node's buffers
abbrev pub sizes_in : Option NodeClock → List ℕ
sizes_in o = option_map_or (λ clock. clock.sizes) o []

-- the word of a clock in the node that a path leads to
abbrev pub word_at : List PlacedNode → List NodeClock → List ℕ → ℕ → Bits
word_at nodes clocks path clock = slice_index_or (words_in (slice_get clocks (index_at nodes path))) clock always

-- the word has the bits of the base of an instance: (1) for main, and for a call the caller's base on the word of the call's base
abbrev pub IsBase : List PlacedNode → List NodeClock → List ℕ → Bits → Type 0
IsBase nodes clocks [] word = IsWord word × ((i : ℕ) → 0 < i → bit_at word i ≡ true)
IsBase nodes clocks (call ∷ path) word =
    IsWord word × (base : Bits) × IsBase nodes clocks path base × IsOn base (word_at nodes clocks path (option_map_or (λ n. call_clock n call) (node_at nodes path) 0)) word

-- the word has the bits of an instance place: the instance's base on the place's word in its node
abbrev pub IsSpotWord : List PlacedNode → List NodeClock → Spot → Bits → Type 0
IsSpotWord nodes clocks spot word = (base : Bits) × IsBase nodes clocks spot.path base × IsOn base (word_at nodes clocks spot.path spot.place) word
