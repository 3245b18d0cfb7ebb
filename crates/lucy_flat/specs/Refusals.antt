-- Why a program has no flat net.
use Rattle.std.specs.Prelude.{ℕ, ◌<◌, ◌≡◌, ◌⊎◌, List, All, Some, sum_by}
use Rattle.lucy_word.specs.Bits.{Bits, IsWord, bit_count}
use Rattle.lucy_word.specs.Limits.{limit_number}
use Rattle.lucy_word.specs.declared.limit.Limit.TheVariants as limit
use Rattle.lucy_word.specs.Shortest.{IsShortest}
use Rattle.lucy_word.specs.Stored.{IsStored}
use Rattle.lucy_word.specs.Sampling.{IsOnTooLong}
use Rattle.lucy_place.specs.declared.placed.PlacedNode.{PlacedNode}
use Rattle.lucy_place.specs.declared.entry.PlaceKind.TheVariants.{Merge}
use Rattle.lucy_word.specs.Complement.{turned}
use Rattle.lucy_net.specs.declared.net.Net.{Net}
use Rattle.lucy_net.specs.Words.{net_words}
use Rattle.lucy_flat.specs.declared.error.FlatError.{FlatError}
use Rattle.lucy_flat.specs.declared.error.FlatError.TheVariants as error
use Rattle.lucy_clock.specs.declared.node_clock.NodeClock.{NodeClock}
use Rattle.lucy_kahn.specs.Spots.{Spot, node_at, kind_at}
use Rattle.lucy_flat.specs.Instances.{word_at, IsBase, IsSpotWord}
use Rattle.lucy_flat.specs.Flat.{IsFlat}
use Rattle.lucy_clock.specs.Clocks.{clocks_of}
use Rattle.lucy_flat.specs.Counts.{HasSmallNet, NetPasses}

-- the word of an instance place, or the base of an instance, has a computed length past the most: that of a clock of the node that a
-- path leads to, but not of its own base
pub record IsClockTooLong (nodes : List PlacedNode) (clocks : List NodeClock) : Type 0 where
  pub path : List ℕ
  pub node : PlacedNode
  pub found : node_at nodes path ≡ Some node
  pub clock : ℕ
  pub low : 0 < clock
  pub high : clock < clocks_of node
  pub base : Bits
  pub is : IsBase nodes clocks path base
  pub shortest : IsShortest base
  pub too_long : IsOnTooLong base (word_at nodes clocks path clock)

-- the word on which a merge takes has one
pub record IsMergeTooLong (nodes : List PlacedNode) (clocks : List NodeClock) : Type 0 where
  pub spot : Spot
  pub p : Bits
  pub a : ℕ
  pub b : ℕ
  pub stands : kind_at nodes spot ≡ Some (Merge p a b)
  pub own : Bits
  pub is : IsSpotWord nodes clocks spot own
  pub is_word : IsWord own
  pub shortest : IsShortest own
  pub too_long : IsOnTooLong own p ⊎ IsOnTooLong own (turned p)

-- one of these words is too long
abbrev pub NetWordIsTooLong : List PlacedNode → List NodeClock → Type 0
NetWordIsTooLong nodes clocks = IsClockTooLong nodes clocks ⊎ IsMergeTooLong nodes clocks

-- how many bits the words of a net have
abbrev pub net_bits : Net → ℕ
net_bits net = sum_by bit_count (net_words net)

-- the net of a program, whose words are as all are in memory, with the limits that it keeps
pub record IsFlatNet (nodes : List PlacedNode) (clocks : List NodeClock) (net : Net) : Type 0 where
  pub flat : IsFlat nodes clocks net
  pub stored : All IsStored (net_words net)
  pub small : HasSmallNet nodes clocks
  pub words : NetWordIsTooLong nodes clocks → ⊥

-- memory ran out; or a count passes its limit; or else a word; or else the words of the net together
abbrev pub RefusesFlat : List PlacedNode → List NodeClock → FlatError → Type 0
RefusesFlat nodes clocks error.OutOfMemory = Unit {0}
RefusesFlat nodes clocks (error.Limit l) =
    NetPasses nodes clocks l
    ⊎ ((l ≡ limit.Word) × HasSmallNet nodes clocks × NetWordIsTooLong nodes clocks)
    ⊎ ((l ≡ limit.Bits) × (net : Net) × IsFlatNet nodes clocks net × (limit_number limit.Bits < net_bits net))
