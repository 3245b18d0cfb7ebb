-- What is known while layers are found.
use Rattle.std.specs.Prelude.{ℕ, ◌+◌, ◌-◌, ◌^◌, ◌≡◌, ◌<◌, ◌≤◌, ◌⊎◌, ◌==◌, max, Bool, List, [], ◌∷◌, ◌++◌, Option, Some, None, is_none, length, replicate, take, filter, count_by, slice_get, slice_index, if◌then◌else◌}
use Rattle.lucy_diagram.specs.declared.layers.ways.Way.{Way}
use Rattle.lucy_diagram.specs.declared.layers.work.Work.{Work}
use Rattle.lucy_diagram.specs.Layers.{IsLeft, waits_of, behind, least_layer, Finds}

-- a way leads from a place
abbrev pub is_from : (place : ℕ) → Way → Bool
is_from p way = way.from == p

-- how many of these ways lead to a place
abbrev pub count_to : (place : ℕ) → List Way → ℕ
count_to p [] = 0
count_to p (way ∷ ways) = (if way.to == p then 1 else 0) + count_to p ways

-- the least layer of a place behind one of this layer by these ways
abbrev pub reached : (layer place : ℕ) → List Way → ℕ
reached layer p [] = 0
reached layer p (way ∷ ways) = max (behind layer p way) (reached layer p ways)

-- how many places are left
abbrev pub left_of : (found : List (Option ℕ)) → ℕ
left_of found = count_by is_none found

-- the number of the last way from a place, of so many first ones, each from 1; 0 where there is none
pub record IsLast (ways : List Way) (number place last : ℕ) : Type 0 where
  pub within : last ≤ number
  pub same : filter (is_from place) (take number ways) ≡ filter (is_from place) (take last ways)
  pub from : (way : Way) → 0 < last → slice_get ways (last - 1) ≡ Some way → way.from ≡ place

-- the chains of so many first ways
pub record AreChained (ways : List Way) (number : ℕ) (lasts befores : List ℕ) : Type 0 where
  pub last : (p : ℕ) → p < length lasts → IsLast ways number p (slice_index lasts p)
  pub before : (i : ℕ) (way : Way) → i < number → slice_get ways i ≡ Some way → way.from < length lasts → IsLast ways i way.from (slice_index befores i)
  pub count : length befores ≡ number

-- each of so many first places once that is left and waits for none
pub record AreFree (found : List (Option ℕ)) (waits : List ℕ) (number : ℕ) (free : List ℕ) : Type 0 where
  pub are : (i q : ℕ) → slice_get free i ≡ Some q → (q < number) × IsLeft found q × (slice_index waits q ≡ 0)
  pub all : (q : ℕ) → q < number → IsLeft found q → slice_index waits q ≡ 0 → (i : ℕ) × (slice_get free i ≡ Some q)
  pub once : (i j q : ℕ) → slice_get free i ≡ Some q → slice_get free j ≡ Some q → i ≡ j

-- one place more, where it is left and waits for none
abbrev pub IsFreed : (found : List (Option ℕ)) → (waits : List ℕ) → (place : ℕ) → (old new : List ℕ) → Type 0
IsFreed found waits p old new =
    ((IsLeft found p × (slice_index waits p ≡ 0)) × (new ≡ old ++ p ∷ [])) ⊎ ((IsLeft found p → slice_index waits p ≡ 0 → ⊥) × (new ≡ old))

-- the least layers and the waits of places, but for these ways from a place of this layer, which aren't gone yet
pub record Counts (ways rest : List Way) (layer : ℕ) (found : List (Option ℕ)) (layers counts : List ℕ) : Type 0 where
  pub few : length found < 2 ^ 64
  pub leasts : length layers ≡ length found
  pub waiters : length counts ≡ length found
  pub least : (q : ℕ) → q < length found → max (slice_index layers q) (reached layer q rest) ≡ least_layer found q ways
  pub waits : (q : ℕ) → q < length found → slice_index counts q ≡ waits_of found q ways + count_to q rest
  pub low : (q : ℕ) → q < length found → slice_index layers q + left_of found ≤ length found

-- the ways from a place are gone, but for the first ones up to that of this number, from 1
pub record IsPassing (ways : List Way) (place number layer : ℕ) (work : Work) : Type 0 where
  pub within : number ≤ length ways
  pub from : (way : Way) → 0 < number → slice_get ways (number - 1) ≡ Some way → way.from ≡ place
  pub counts : Counts ways (filter (is_from place) (take number ways)) layer work.found.items work.least.items work.waits.items
  pub free : AreFree work.found.items work.waits.items (length work.found.items) work.free.items
  pub low : layer + 1 + left_of work.found.items ≤ length work.found.items

-- of so many places the layers are found of the first spare ones, as many as are said, and of all that then stand behind none that is left
pub record ArePassed (ways : List Way) (spares : List ℕ) (count number : ℕ) (work : Work) : Type 0 where
  pub counts : Counts ways [] 0 work.found.items work.least.items work.waits.items
  pub none : work.free.items ≡ []
  pub free : AreFree work.found.items work.waits.items (length work.found.items) []
  pub finds : Finds ways spares (replicate count None) work.found.items
  pub passed : (i q : ℕ) → i < number → slice_get spares i ≡ Some q → IsLeft work.found.items q → ⊥
