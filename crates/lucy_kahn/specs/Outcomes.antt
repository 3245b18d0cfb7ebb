-- What is answered for a list: the list, or that it would be too long.
use Rattle.std.specs.Prelude.{ℕ, ◌<◌, ◌≤◌, ◌≡◌, ◌⊎◌, List, ℤ, length}
use Rattle.lucy_word.specs.Limits.{limit_number}
use Rattle.lucy_word.specs.declared.limit.Limit.TheVariants as limit
use Rattle.lucy_kahn.specs.declared.error.KahnError.{KahnError}
use Rattle.lucy_kahn.specs.declared.error.KahnError.TheVariants.{Limit, OutOfMemory}

-- a list of an iterate has no more items
abbrev pub most_items : ℕ
most_items = limit_number limit.KahnItems

-- the list is the one that is wanted, and is no longer than it may be
abbrev pub IsWholeList : List ℤ → List ℤ → Type 0
IsWholeList wanted list = (list ≡ wanted) × (length wanted ≤ most_items)

-- memory ran out, or the list that is wanted is longer than it may be
abbrev pub Overflows : List ℤ → KahnError → Type 0
Overflows wanted e = (e ≡ OutOfMemory) ⊎ ((e ≡ Limit limit.KahnItems) × (most_items < length wanted))
