-- Where instances begin, and the sizes of buffers and rings.
use Rattle.std.specs.Prelude.{ℕ, ◌+◌, ◌-◌, ◌<◌, ◌≤◌, ◌≡◌, List, length, sum_by, slice_index, slice_index_or, take}
use Rattle.lucy_word.specs.Bits.{bit_count}
use Rattle.lucy_net.specs.declared.net.RingSpec.{RingSpec}
use Rattle.lucy_place.specs.declared.entry.CallSite.{CallSite}
use Rattle.lucy_place.specs.declared.entry.PlaceKind.{PlaceKind}
use Rattle.lucy_place.specs.declared.entry.PlaceKind.TheVariants.{Buffer}

-- the actors of the instances of calls, where the sizes of the nodes are known
abbrev pub actors_in : List ℕ → List CallSite → ℕ
actors_in sizes sites = sum_by (λ site. slice_index sizes site.node) sites

-- where they begin, the first of them there
pub record AreSumsOf (sizes : List ℕ) (sites : List CallSite) (first upto : ℕ) (sums : List ℕ) : Type 0 where
  pub count : length sums ≡ upto
  pub each : (j : ℕ) → j < upto → slice_index_or sums j 0 ≡ first + actors_in sizes (take j sites)

-- the size of a buffer in a list of sizes, and 0 for any other place
abbrev pub HasSize : List ℕ → PlaceKind → Type 0
HasSize sizes (Buffer k e) = (1 ≤ k) × (k ≤ length sizes)
HasSize sizes kind = Unit {0}

abbrev pub size_in : List ℕ → PlaceKind → ℕ
size_in sizes (Buffer k e) = slice_index_or sizes (k - 1) 0
size_in sizes kind = 0

-- the bits of a ring's words
abbrev pub ring_bits : RingSpec → ℕ
ring_bits ring = bit_count ring.write + bit_count ring.read
