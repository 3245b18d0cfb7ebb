-- What a merge by a word makes of two lists.
use Rattle.std.specs.Prelude.{ℕ, suc, zero, ◌+◌, ◌-◌, ◌<◌, ◌≡◌, List, [], ◌∷◌, ℤ, length, if◌then◌else◌, slice_get, Option, Some, None}
use Rattle.lucy_word.specs.Bits.{Bits, bit_at, ones_to}
use Rattle.lucy_stream.specs.Items.{item_at}

-- item k of the merge, counted from 1, where it is there: at a one the item of xs that has the one's number, else the
-- item of ys that has the zero's number
abbrev pub merge_item : Bits → List ℤ → List ℤ → ℕ → Option ℤ
merge_item word xs ys k = if bit_at word k then slice_get xs (ones_to word k - 1) else slice_get ys (k - ones_to word k - 1)

-- the longest list of such items that are all there
pub record IsMerge (word : Bits) (xs ys items : List ℤ) : Type 0 where
  pub each : (k : ℕ) → k < length items → merge_item word xs ys (k + 1) ≡ Some (item_at items k)
  pub longest : merge_item word xs ys (length items + 1) ≡ None

-- an item and those after it, or none where it isn't there
abbrev pub item_then : Option ℤ → List ℤ → List ℤ
item_then None items = []
item_then (Some item) items = item ∷ items

-- the items after item k, in turn up to the first that isn't there, and at most n of them
abbrev pub items_past : (ℕ → Option ℤ) → ℕ → ℕ → List ℤ
items_past item k zero = []
items_past item k (suc n) = item_then (item (k + 1)) (items_past item (k + 1) n)

-- the merge, which has at most the items of both lists
abbrev pub merged : Bits → List ℤ → List ℤ → List ℤ
merged word xs ys = items_past (merge_item word xs ys) 0 (length xs + length ys)
