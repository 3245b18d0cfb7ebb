-- How long items wait in a buffer: the n-th that is written is the n-th that is read. Instants and items count from 1.
use Rattle.std.specs.Prelude.{ℕ, ◌+◌, ◌<◌, ◌≤◌, ◌≡◌, Some, List, length, slice_get, slice_index}
use Rattle.lucy_word.specs.Bits.{Bits}
use Rattle.lucy_word.specs.Index.{IsIndex}
use Rattle.lucy_place.specs.declared.placed.PlacedNode.{PlacedNode}

-- the item of this number is read so many instants after it is written, on these words
pub record Waits (write read : Bits) (item wait : ℕ) : Type 0 where
  pub written : ℕ
  pub goes_in : IsIndex write item written
  pub comes_out : IsIndex read item (written + wait)

-- so long wait the first items, in order
abbrev pub AreWaits : (write read : Bits) → List ℕ → Type 0
AreWaits write read waits = (k : ℕ) → k < length waits → Waits write read (k + 1) (slice_index waits k)

-- the node of this number, from 0, has a buffer of this number, from 1
abbrev pub HasBuffer : List PlacedNode → (node buffer : ℕ) → Type 0
HasBuffer nodes node buffer = (n : PlacedNode) × (slice_get nodes node ≡ Some n) × (1 ≤ buffer) × (buffer ≤ length n.buffers)
