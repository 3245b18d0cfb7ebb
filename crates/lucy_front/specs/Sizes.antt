-- The sizes of a node's buffers, of those that the needs of the node have.
use Rattle.std.specs.Prelude.{ℕ, List, [], ◌∷◌, Option, Some, None, drop, slice_index_or}

-- how many needs a buffer has with this bound, or without one
abbrev pub need_count : Option ℕ → ℕ
need_count None = 1
need_count (Some most) = 2

-- the size of a buffer is that of its first need
abbrev pub buffer_sizes : List (Option ℕ) → List ℕ → List ℕ
buffer_sizes [] sizes = []
buffer_sizes (most ∷ bounds) sizes = slice_index_or sizes 0 0 ∷ buffer_sizes bounds (drop (need_count most) sizes)
