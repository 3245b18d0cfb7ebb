-- Streams as the lists of their first items. Items of a list and lists of a list count from 0 here.
use Rattle.std.specs.Prelude.{ℕ, ◌-◌, ◌<◌, ◌≡◌, List, [], ℤ, pos, length, slice_index_or}

-- the item after so many others (past the end a 0, which says nothing)
abbrev pub item_at : List ℤ → ℕ → ℤ
item_at items k = slice_index_or items k (pos 0)

-- the item that came last
abbrev pub newest : List ℤ → ℤ
newest items = item_at items (length items - 1)

-- the list is long enough to have the item, and this is its value
abbrev pub HasItem : List ℤ → ℕ → ℤ → Type 0
HasItem items k value = (k < length items) × (value ≡ item_at items k)

-- the list after so many others (past the end an empty one)
abbrev pub list_at : List (List ℤ) → ℕ → List ℤ
list_at lists i = slice_index_or lists i []
