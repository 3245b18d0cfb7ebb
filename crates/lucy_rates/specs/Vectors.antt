-- The least whole numbers in the proportion of the rates, and the shape that they give.
use Rattle.std.specs.Prelude.{ℕ, ◌+◌, ◌*◌, ◌<◌, ◌≤◌, ◌≡◌, ◌⊎◌, ◌↔◌, true, List, length, take}
use Prim.Native.Nat.{◌∣◌}
use Rattle.lucy_word.specs.Bits.{Bits}
use Rattle.lucy_word.specs.declared.limit.Limit.TheVariants as limit
use Rattle.lucy_need.specs.Meeting.{term}
use Rattle.lucy_need.specs.declared.need.Need.{Need}
use Rattle.lucy_need.specs.declared.need.Needs.{Needs}
use Rattle.lucy_shape.specs.declared.shape.Shape.{Shape}
use Rattle.lucy_shape.specs.declared.shape.RateFault.{RateFault}
use Rattle.lucy_shape.specs.declared.shape.RateFault.TheVariants as fault
use Rattle.lucy_shape.specs.Fitting.{unused, clock_at, variable_count, most_positions}
use Rattle.lucy_rates.specs.Walks.{first_of, second_of, need_at, IsNeedWalk, IsUnequalWalk, AreJoinedClocks}
use Rattle.lucy_rates.specs.Trees.{IsNamedBy, HasLargeRate, IsBalanced, IsFirstUnequal}

-- some need names the clock
abbrev pub IsNamedBySome : List Need → ℕ → Type 0
IsNamedBySome needs c = (k : ℕ) × (k < length needs) × IsNamedBy c (need_at needs k)

-- the clock has positions: each clock but the base does, and the base where a need names it
abbrev pub IsInUse : Needs → ℕ → Type 0
IsInUse needs c = (c < needs.clocks) × ((0 < c) ⊎ IsNamedBySome needs.list c)

-- the word stands after the clock in a need
abbrev pub StandsAfter : List Need → ℕ → Bits → Type 0
StandsAfter needs c w = (k : ℕ) × (k < length needs) × ((first_of (need_at needs k) ≡ term c w) ⊎ (second_of (need_at needs k) ≡ term c w))

-- positive whole numbers in the proportion of the rates, each a multiple of the period length of every word after its clock
pub record IsRateVector (needs : Needs) (vector : ℕ → ℕ) : Type 0 where
  pub some : (c : ℕ) → 0 < vector c
  pub proportion : (c d num den : ℕ) (walk : List ℕ) → IsNeedWalk needs.list walk c d num den → vector d * den ≡ vector c * num
  pub whole : (c : ℕ) (w : Bits) → StandsAfter needs.list c w → length w.period ∣ vector c

-- the least such numbers: 1 for a clock that no need names
pub record IsLeastVector (needs : Needs) (vector : ℕ → ℕ) : Type 0 where
  pub is : IsRateVector needs vector
  pub least : (other : ℕ → ℕ) → IsRateVector needs other → (c : ℕ) → vector c ≤ other c

-- the number of the clock's component that is to be a one of each instant: that of the base where the base is in it, else the
-- greatest
pub record IsTop (needs : Needs) (vector : ℕ → ℕ) (c top : ℕ) : Type 0 where
  pub base : AreJoinedClocks needs.list 0 c → top ≡ vector 0
  pub reached : (AreJoinedClocks needs.list 0 c → ⊥) → (d : ℕ) × AreJoinedClocks needs.list d c × (top ≡ vector d)
  pub passed : (AreJoinedClocks needs.list 0 c → ⊥) → (d : ℕ) → AreJoinedClocks needs.list d c → vector d ≤ top

-- the least common multiple of the tops of all components: an unused base counts for nothing
pub record IsCommonPeriod (needs : Needs) (top : ℕ → ℕ) (period : ℕ) : Type 0 where
  pub some : 0 < period
  pub of_all : (c : ℕ) → IsInUse needs c → top c ∣ period
  pub least : (n : ℕ) → 0 < n → ((c : ℕ) → IsInUse needs c → top c ∣ n) → period ≤ n

-- the greatest length of a prefix of the words after a clock, 0 where there is none
pub record IsLongestPrefix (needs : Needs) (c prefix : ℕ) : Type 0 where
  pub passed : (w : Bits) → StandsAfter needs.list c w → length w.prefix ≤ prefix
  pub reached : 0 < prefix → (w : Bits) × StandsAfter needs.list c w × (prefix ≡ length w.prefix)

-- what makes it the shape of the needs, but for the number of its positions
pub record IsWideShape (needs : Needs) (scale lead : ℕ) (shape : Shape) : Type 0 where
  pub vector : ℕ → ℕ
  pub is_vector : IsLeastVector needs vector
  pub top : ℕ → ℕ
  pub is_top : (c : ℕ) → IsInUse needs c → IsTop needs vector c (top c)
  pub common : ℕ
  pub is_common : IsCommonPeriod needs top common
  pub period : shape.period ≡ scale * common
  pub clocks : length shape.clocks ≡ needs.clocks
  pub used : (c : ℕ) → c < needs.clocks → ((clock_at shape.clocks c).used ≡ true ↔ IsInUse needs c)
  pub ones : (c : ℕ) → IsInUse needs c → (clock_at shape.clocks c).ones * top c ≡ vector c * shape.period
  pub leads : (c prefix : ℕ) → IsInUse needs c → IsLongestPrefix needs c prefix → (clock_at shape.clocks c).lead ≡ lead * (clock_at shape.clocks c).ones + prefix
  pub first : (c : ℕ) → IsInUse needs c → (clock_at shape.clocks c).first ≡ variable_count (take c shape.clocks)
  pub none : (c : ℕ) → c < needs.clocks → (IsInUse needs c → ⊥) → clock_at shape.clocks c ≡ unused

-- every need is balanced
abbrev pub AreBalanced : List Need → Type 0
AreBalanced needs = (k : ℕ) → k < length needs → IsBalanced needs (need_at needs k)

-- the shape of the needs
pub record IsShapeOf (needs : Needs) (scale lead : ℕ) (shape : Shape) : Type 0 where
  pub small : HasLargeRate needs.list needs.clocks → ⊥
  pub balanced : AreBalanced needs.list
  pub wide : IsWideShape needs scale lead shape
  pub few : variable_count shape.clocks ≤ 1 + most_positions

-- the needs' shape has more positions than are allowed
abbrev pub IsTooWide : Needs → ℕ → ℕ → Type 0
IsTooWide needs scale lead = (shape : Shape) × IsWideShape needs scale lead shape × (1 + most_positions < variable_count shape.clocks)

-- why there is no shape: a large rate, else a need that isn't balanced, else too many positions, or want of memory
abbrev pub HasNoShape : Needs → ℕ → ℕ → RateFault → Type 0
HasNoShape needs scale lead (fault.Unequal walk) = (HasLargeRate needs.list needs.clocks → ⊥) × IsFirstUnequal needs.list walk.items × IsUnequalWalk needs.list walk.items
HasNoShape needs scale lead (fault.Limit l) = ((l ≡ limit.Rate) × HasLargeRate needs.list needs.clocks)
    ⊎ ((l ≡ limit.Positions) × (HasLargeRate needs.list needs.clocks → ⊥) × AreBalanced needs.list × IsTooWide needs scale lead)
HasNoShape needs scale lead fault.OutOfMemory = Unit {0}
