-- The tree of a component, and the rates that it gives.
use Rattle.std.specs.Prelude.{ℕ, ◌*◌, ◌^◌, ◌<◌, ◌≡◌, ◌⊎◌, List, ◌∷◌, length, take, slice_index}
use Rattle.std.specs.List.{Contains, All, AllByRecursion}
use Rattle.std.specs.Int.{IsGcd}
use Rattle.lucy_word.specs.Limits.{limit_number}
use Rattle.lucy_word.specs.declared.limit.Limit.TheVariants as limit
use Rattle.lucy_need.specs.declared.need.Need.{Need}
use Rattle.lucy_need.specs.declared.need.Needs.{Needs}
use Rattle.lucy_need.specs.Meeting.{AreProperNeeds}
use Rattle.lucy_need.specs.Stored.{HasWords}
use Rattle.lucy_rates.specs.Walks.{first_of, second_of, need_at, over, under, IsNeedWalk, IsRoot}

-- the need names the clock
abbrev pub IsNamedBy : ℕ → Need → Type 0
IsNamedBy c need = ((first_of need).clock ≡ c) ⊎ ((second_of need).clock ≡ c)

-- the root, and the clocks that needs of the tree name
abbrev pub IsReachedByTree : List Need → ℕ → List ℕ → ℕ → Type 0
IsReachedByTree needs root tree c = (c ≡ root) ⊎ ((k : ℕ) × Contains tree k × IsNamedBy c (need_at needs k))

-- the need joins a reached clock with one that is not reached
abbrev pub JoinsMore : List Need → ℕ → List ℕ → Need → Type 0
JoinsMore needs root tree need = (IsReachedByTree needs root tree (first_of need).clock × (IsReachedByTree needs root tree (second_of need).clock → ⊥))
    ⊎ (IsReachedByTree needs root tree (second_of need).clock × (IsReachedByTree needs root tree (first_of need).clock → ⊥))

-- the tree grows from the root: again and again the first need that joins more
pub record IsTree (needs : List Need) (root : ℕ) (tree : List ℕ) : Type 0 where
  pub within : (i : ℕ) → i < length tree → slice_index tree i < length needs
  pub joins : (i : ℕ) → i < length tree → JoinsMore needs root (take i tree) (need_at needs (slice_index tree i))
  pub first : (i k : ℕ) → i < length tree → k < slice_index tree i → JoinsMore needs root (take i tree) (need_at needs k) → ⊥
  pub done : (k : ℕ) → k < length needs → JoinsMore needs root tree (need_at needs k) → ⊥

-- the rate of a clock in lowest terms: the root's is 1, and those of the others come along the tree
pub record IsTreeRate (needs : List Need) (c num den : ℕ) : Type 0 where
  pub root : ℕ
  pub tree : List ℕ
  pub is_root : IsRoot needs root c
  pub is_tree : IsTree needs root tree
  pub walk : List ℕ
  pub a : ℕ
  pub b : ℕ
  pub along : IsNeedWalk needs walk root c a b
  pub in_tree : All (Contains tree) walk
  pub same : num * b ≡ a * den
  pub lowest : IsGcd num den 1

-- the greatest number that a rate may have above or below, in lowest terms
abbrev pub most_rate : ℕ
most_rate = limit_number limit.Rate

-- a rate has too large a number
abbrev pub HasLargeRate : List Need → ℕ → Type 0
HasLargeRate needs clocks = (c : ℕ) × (num : ℕ) × (den : ℕ) × (c < clocks) × IsTreeRate needs c num den × ((most_rate < num) ⊎ (most_rate < den))

-- both sides of the need have one rate, num1 / den1 and num2 / den2 being those of its clocks
abbrev pub AreEven : Need → ℕ → ℕ → ℕ → ℕ → Type 0
AreEven need num1 den1 num2 den2 = num1 * den2 * over need ≡ num2 * den1 * under need

-- both sides of the need have one rate, by the rates that the trees give its clocks
abbrev pub IsBalanced : List Need → Need → Type 0
IsBalanced needs need = (num1 den1 num2 den2 : ℕ) →
    IsTreeRate needs (first_of need).clock num1 den1 → IsTreeRate needs (second_of need).clock num2 den2 → AreEven need num1 den1 num2 den2

-- the walk that shows it: the first need that is not balanced, from its first clock to its second, and back along the tree
pub record IsFirstUnequal (needs : List Need) (walk : List ℕ) : Type 0 where
  pub need : ℕ
  pub back : List ℕ
  pub is : walk ≡ need ∷ back
  pub within : need < length needs
  pub uneven : IsBalanced needs (need_at needs need) → ⊥
  pub before : (k : ℕ) → k < need → IsBalanced needs (need_at needs k)
  pub root : ℕ
  pub tree : List ℕ
  pub is_root : IsRoot needs root (first_of (need_at needs need)).clock
  pub is_tree : IsTree needs root tree
  pub in_tree : All (Contains tree) back
  pub num : ℕ
  pub den : ℕ
  pub returns : IsNeedWalk needs back (second_of (need_at needs need)).clock (first_of (need_at needs need)).clock num den
  pub simple : (i j : ℕ) → i < j → j < length back → slice_index back i ≡ slice_index back j → ⊥

-- each clock has a rate by its tree, and no other
abbrev pub TreeRateLaw : Type 0
TreeRateLaw =
    (needs : Needs) (c : ℕ) → AreProperNeeds needs → AllByRecursion HasWords needs.list → needs.clocks < 2 ^ 32 → c < needs.clocks →
    (num : ℕ) × (den : ℕ) × IsTreeRate needs.list c num den × ((n d : ℕ) → IsTreeRate needs.list c n d → (n ≡ num) × (d ≡ den))

-- there is at most one first unequal walk
abbrev pub OneWalkLaw : Type 0
OneWalkLaw = (needs : List Need) (first second : List ℕ) → IsFirstUnequal needs first → IsFirstUnequal needs second → first ≡ second
