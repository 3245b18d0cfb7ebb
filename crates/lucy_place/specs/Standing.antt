-- What stands at the numbers of a placed node. Places, buffers and calls count from 1.
use Rattle.std.specs.Prelude.{ℕ, zero, suc, ◌≡◌, ◌≤◌, ◌+◌, Bool, true, false, List, [], ◌∷◌, ◌++◌, Option, Some, None, length, slice_get, slice_index_or}
use Rattle.std.specs.List.{AllByRecursion}
use Rattle.lucy_word.specs.Bits.{Bits}
use Rattle.lucy_word.specs.Complement.{turned}
use Rattle.lucy_word.specs.Limits.{limit_number}
use Rattle.lucy_word.specs.declared.limit.Limit.TheVariants as limit
use Rattle.lucy_tree.specs.declared.span.Name.{Name}
use Rattle.lucy_place.specs.declared.entry.PlaceEntry.{PlaceEntry}
use Rattle.lucy_place.specs.declared.entry.PlaceKind.{PlaceKind}
use Rattle.lucy_place.specs.declared.entry.PlaceKind.TheVariants.{Buffer}
use Rattle.lucy_place.specs.declared.placed.PlacedNode.{PlacedNode}

-- the entry of a number that counts from 1, where there is one
abbrev pub at_one : {A : Type 0} → List A → ℕ → Option A
at_one xs zero = None
at_one xs (suc n) = slice_get xs n

-- the bound of the buffer of a number, where one is written
abbrev pub bound_of : PlacedNode → ℕ → Option ℕ
bound_of n zero = None
bound_of n (suc k) = slice_index_or n.bounds k None

-- there is a place of this number, and this stands there
abbrev pub Stands : PlacedNode → ℕ → PlaceKind → Type 0
Stands n p kind = (entry : PlaceEntry) × (at_one n.places p ≡ Some entry) × (entry.kind ≡ kind)

-- there is a place of this number
abbrev pub IsPlace : PlacedNode → ℕ → Type 0
IsPlace n p = (1 ≤ p) × (p ≤ length n.places)

-- there is a place of each number
abbrev pub ArePlaces : PlacedNode → List ℕ → Type 0
ArePlaces n ps = AllByRecursion (IsPlace n) ps

-- there is a place of this number, and it has a name
abbrev pub IsNamed : PlacedNode → ℕ → Type 0
IsNamed n p = (entry : PlaceEntry) × (name : Name) × (at_one n.places p ≡ Some entry) × (entry.name ≡ Some name)

-- of each number, and each has a name
abbrev pub AreNamed : PlacedNode → List ℕ → Type 0
AreNamed n ps = AllByRecursion (IsNamed n) ps

-- there is a place of this number, and it has no name
abbrev pub IsUnnamed : PlacedNode → ℕ → Type 0
IsUnnamed n p = (entry : PlaceEntry) × (at_one n.places p ≡ Some entry) × (entry.name ≡ None)

-- places with one name are one place
abbrev pub AreDistinct : PlacedNode → Type 0
AreDistinct n =
    (p q : ℕ) (entry other : PlaceEntry) (name twin : Name) → at_one n.places p ≡ Some entry → at_one n.places q ≡ Some other
    → entry.name ≡ Some name → other.name ≡ Some twin → name.text ≡ twin.text → p ≡ q

-- a node has no more places
abbrev pub most_places : ℕ
most_places = limit_number limit.Places

-- the number of a place, where a buffer stands there
abbrev pub buffer_at : ℕ → PlaceKind → List ℕ
buffer_at place (Buffer n e) = place ∷ []
buffer_at place _ = []

-- the numbers of the buffers among places from a number on
abbrev pub buffer_places : ℕ → List PlaceEntry → List ℕ
buffer_places from [] = []
buffer_places from (p ∷ ps) = buffer_at from p.kind ++ buffer_places (from + 1) ps

-- the word of `when`; that of `whenot` has every bit turned
abbrev pub sampling_word : Bool → Bits → Bits
sampling_word false w = w
sampling_word true w = turned w
