-- How the lists of a forest are filled, tree by tree and need by need.
use Rattle.std.specs.Prelude.{ℕ, ◌+◌, ◌*◌, ◌<◌, ◌≤◌, ◌≡◌, ◌⊎◌, ◌↔◌, ◌==◌, List, length, take, min, slice_set, slice_index}
use Rattle.std.specs.Int.{IsGcd}
use Rattle.std.specs.List.{All, Contains, count_by}
use Rattle.lucy_word.specs.Bits.{ones_in}
use Rattle.lucy_need.specs.declared.need.Term.{Term}
use Rattle.lucy_need.specs.declared.need.Need.{Need}
use Rattle.lucy_shape.specs.declared.shape.RateFault.{RateFault}
use Rattle.lucy_shape.specs.declared.shape.RateFault.TheVariants as fault
use Rattle.lucy_rates.specs.declared.fraction.Fraction.{Fraction}
use Rattle.lucy_rates.specs.declared.forest.Forest.{Forest}
use Rattle.lucy_rates.specs.Walks.{first_of, second_of, need_at, IsNeedWalk, IsUnequalWalk}
use Rattle.lucy_rates.specs.Trees.{IsTree, IsReachedByTree, IsNamedBy, JoinsMore, AreEven, IsFirstUnequal, most_rate}
use Rattle.lucy_rates.specs.Forests.{rate_at, IsRateFraction, IsForest}

-- no root yet, or no need
abbrev pub no_number : ℕ
no_number = 4294967295

-- for each clock the first need that names it, or the number of needs
pub record AreFirstNeeds (needs : List Need) (clocks : ℕ) (firsts : List ℕ) : Type 0 where
  pub size : length firsts ≡ clocks
  pub before : (c k : ℕ) → c < clocks → k < slice_index firsts c → IsNamedBy c (need_at needs k) → ⊥
  pub within : (c : ℕ) → c < clocks → slice_index firsts c ≤ length needs
  pub named : (c : ℕ) → c < clocks → slice_index firsts c < length needs → IsNamedBy c (need_at needs (slice_index firsts c))

-- the list with this number at a place, where it is less
abbrev pub set_at : List ℕ → ℕ → ℕ → List ℕ
set_at list c k = slice_set list c (min (slice_index list c) k)

-- the same for the first so many needs: each clock has the number of one that names it, or of all needs
pub record AreFirstSoFar (needs : List Need) (clocks upto : ℕ) (firsts : List ℕ) : Type 0 where
  pub size : length firsts ≡ clocks
  pub before : (c k : ℕ) → c < clocks → k < upto → k < slice_index firsts c → IsNamedBy c (need_at needs k) → ⊥
  pub within : (c : ℕ) → c < clocks → slice_index firsts c ≤ length needs
  pub named : (c : ℕ) → c < clocks → slice_index firsts c < length needs → IsNamedBy c (need_at needs (slice_index firsts c))

-- the terms of the need, of which the first is that of a clock with a root and the second that of a clock without
abbrev pub IsJoiningStep : List ℕ → Need → Term → Term → Type 0
IsJoiningStep roots need s t = (((s ≡ first_of need) × (t ≡ second_of need)) ⊎ ((s ≡ second_of need) × (t ≡ first_of need)))
    × (slice_index roots s.clock ≡ no_number → ⊥) × (slice_index roots t.clock ≡ no_number)

-- the clock has no root yet, or this one
abbrev pub IsNear : List ℕ → ℕ → ℕ → Type 0
IsNear roots root c = (slice_index roots c ≡ no_number) ⊎ (slice_index roots c ≡ root)

-- a tree that grows from a root, with all needs below `at` joining no more, beside trees that are done: what the roots are
pub record IsGrowing (needs : List Need) (clocks root : ℕ) (tree : List ℕ) (at : ℕ) (roots : List ℕ) : Type 0 where
  pub within : (i : ℕ) → i < length tree → slice_index tree i < length needs
  pub joins : (i : ℕ) → i < length tree → JoinsMore needs root (take i tree) (need_at needs (slice_index tree i))
  pub first : (i k : ℕ) → i < length tree → k < slice_index tree i → JoinsMore needs root (take i tree) (need_at needs k) → ⊥
  pub below : (k : ℕ) → k < at → k < length needs → JoinsMore needs root tree (need_at needs k) → ⊥
  pub reached : (c : ℕ) → c < clocks → (slice_index roots c ≡ root ↔ IsReachedByTree needs root tree c)
  pub apart : (k : ℕ) → k < length needs → IsNear roots root (first_of (need_at needs k)).clock → IsNear roots root (second_of (need_at needs k)).clock
  pub apart_too : (k : ℕ) → k < length needs → IsNear roots root (second_of (need_at needs k)).clock → IsNear roots root (first_of (need_at needs k)).clock

-- the need of this number is even by the rates in the list
abbrev pub IsEvenBy : List Need → List Fraction → ℕ → Type 0
IsEvenBy needs rates k = AreEven (need_at needs k) (rate_at rates (first_of (need_at needs k)).clock).num (rate_at rates (first_of (need_at needs k)).clock).den
    (rate_at rates (second_of (need_at needs k)).clock).num (rate_at rates (second_of (need_at needs k)).clock).den

-- the need that reached a clock is in the tree, and leads to a clock that is one nearer to the root
pub record IsUp (needs : List Need) (tree parents depths : List ℕ) (c : ℕ) : Type 0 where
  pub in_tree : Contains tree (slice_index parents c)
  pub one_up : (((first_of (need_at needs (slice_index parents c))).clock ≡ c) × (slice_index depths (second_of (need_at needs (slice_index parents c))).clock + 1 ≡ slice_index depths c))
      ⊎ (((second_of (need_at needs (slice_index parents c))).clock ≡ c) × (slice_index depths (first_of (need_at needs (slice_index parents c))).clock + 1 ≡ slice_index depths c))

-- the rates and the ways up of the clocks that the tree reaches
pub record IsRated (needs : List Need) (root : ℕ) (tree parents depths : List ℕ) (rates : List Fraction) : Type 0 where
  pub rate : (c : ℕ) → IsReachedByTree needs root tree c → IsRateFraction (rate_at rates c)
  pub num : (rate_at rates root).num ≡ 1
  pub den : (rate_at rates root).den ≡ 1
  pub even : (k : ℕ) → Contains tree k → IsEvenBy needs rates k
  pub top : slice_index depths root ≡ 0
  pub up : (c : ℕ) → IsReachedByTree needs root tree c → (c ≡ root → ⊥) → IsUp needs tree parents depths c

-- clocks that had roots keep all, and the others have none or this one
pub record AreKept (root : ℕ) (old_roots old_parents old_depths : List ℕ) (old_rates : List Fraction) (roots parents depths : List ℕ) (rates : List Fraction) : Type 0 where
  pub root_kept : (c : ℕ) → (slice_index old_roots c ≡ no_number → ⊥) → slice_index roots c ≡ slice_index old_roots c
  pub parent_kept : (c : ℕ) → (slice_index old_roots c ≡ no_number → ⊥) → slice_index parents c ≡ slice_index old_parents c
  pub depth_kept : (c : ℕ) → (slice_index old_roots c ≡ no_number → ⊥) → slice_index depths c ≡ slice_index old_depths c
  pub rate_kept : (c : ℕ) → (slice_index old_roots c ≡ no_number → ⊥) → rate_at rates c ≡ rate_at old_rates c
  pub near : (c : ℕ) → slice_index old_roots c ≡ no_number → IsNear roots root c

-- the trees of all roots that the lists hold, the clocks below `at` being done
pub record ArePlanted (needs : List Need) (clocks at : ℕ) (tree : ℕ → List ℕ) (roots parents depths : List ℕ) (rates : List Fraction) : Type 0 where
  pub done : (c : ℕ) → c < at → slice_index roots c ≡ no_number → ⊥
  pub least : (c : ℕ) → c < clocks → (slice_index roots c ≡ no_number → ⊥) → slice_index roots c ≤ c
  pub below : (c : ℕ) → c < clocks → (slice_index roots c ≡ no_number → ⊥) → slice_index roots c < at
  pub own : (c : ℕ) → c < clocks → (slice_index roots c ≡ no_number → ⊥) → slice_index roots (slice_index roots c) ≡ slice_index roots c
  pub reached : (c : ℕ) → c < clocks → (slice_index roots c ≡ no_number → ⊥) → IsReachedByTree needs (slice_index roots c) (tree (slice_index roots c)) c
  pub apart : (k : ℕ) → k < length needs → slice_index roots (first_of (need_at needs k)).clock ≡ slice_index roots (second_of (need_at needs k)).clock
  pub is_tree : (r : ℕ) → r < clocks → slice_index roots r ≡ r → IsTree needs r (tree r)
  pub rated : (r : ℕ) → r < clocks → slice_index roots r ≡ r → IsRated needs r (tree r) parents depths rates

-- the forest of the needs' clocks, with the tree of each root
pub record IsGrown (needs : List Need) (clocks : ℕ) (forest : Forest) : Type 0 where
  pub is : IsForest needs clocks forest.roots.items forest.parents.items forest.rates.items
  pub tree : ℕ → List ℕ
  pub planted : ArePlanted needs clocks clocks tree forest.roots.items forest.parents.items forest.depths.items forest.rates.items
  pub depths_size : length forest.depths.items ≡ clocks

-- no clock is deeper than there are clocks with a root beside it
abbrev pub AreDeep : List ℕ → List ℕ → Type 0
AreDeep roots depths = (c : ℕ) → slice_index depths c + count_by (λ r. r == no_number) roots ≤ length roots

-- the rate that follows from a rate from one term to another has a number over the limit, in lowest terms
pub record IsLargeNext (rate : Fraction) (from to : Term) : Type 0 where
  pub num : ℕ
  pub den : ℕ
  pub lowest : IsGcd num den 1
  pub same : num * (rate.den * (length from.word.period * ones_in to.word.period)) ≡ rate.num * (ones_in from.word.period * length to.word.period) * den
  pub large : (most_rate < num) ⊎ (most_rate < den)

-- in the tree of the root some clock has a rate with a number over the limit
pub record HasLargeFrom (needs : List Need) (clocks root : ℕ) : Type 0 where
  pub tree : List ℕ
  pub is_tree : IsTree needs root tree
  pub walk : List ℕ
  pub in_tree : All (Contains tree) walk
  pub clock : ℕ
  pub within : clock < clocks
  pub a : ℕ
  pub b : ℕ
  pub along : IsNeedWalk needs walk root clock a b
  pub num : ℕ
  pub den : ℕ
  pub same : num * b ≡ a * den
  pub lowest : IsGcd num den 1
  pub large : (most_rate < num) ⊎ (most_rate < den)

-- no number stands twice in the list
abbrev pub IsSimple : List ℕ → Type 0
IsSimple list = (i j : ℕ) → i < j → j < length list → slice_index list i ≡ slice_index list j → ⊥

-- the other clock that the need of this number names
pub record IsOther (needs : List Need) (k clock other : ℕ) : Type 0 where
  pub first : (first_of (need_at needs k)).clock ≡ clock → other ≡ (second_of (need_at needs k)).clock
  pub second : ((first_of (need_at needs k)).clock ≡ clock → ⊥) → other ≡ (first_of (need_at needs k)).clock

-- the way from one clock to another along the tree of both
pub record IsWayBack (needs : List Need) (roots : List ℕ) (rates : List Fraction) (from to : ℕ) (way : List ℕ) : Type 0 where
  pub root : ℕ
  pub is_root : root ≡ slice_index roots to
  pub tree : List ℕ
  pub is_tree : IsTree needs root tree
  pub in_tree : All (Contains tree) way
  pub even : All (IsEvenBy needs rates) way
  pub num : ℕ
  pub den : ℕ
  pub returns : IsNeedWalk needs way from to num den
  pub simple : IsSimple way

-- the needs that lead up from two clocks to those that have been reached, the deeper of which goes on
pub record AreClimbing (needs : List Need) (clocks : ℕ) (root : ℕ) (tree roots parents depths : List ℕ) (from to : ℕ) (up down : List ℕ) (a b : ℕ) : Type 0 where
  pub a_within : a < clocks
  pub b_within : b < clocks
  pub a_root : slice_index roots a ≡ root
  pub b_root : slice_index roots b ≡ root
  pub up_num : ℕ
  pub up_den : ℕ
  pub up_walk : IsNeedWalk needs up from a up_num up_den
  pub up_in : All (Contains tree) up
  pub up_simple : IsSimple up
  pub down_num : ℕ
  pub down_den : ℕ
  pub down_walk : IsNeedWalk needs down to b down_num down_den
  pub down_in : All (Contains tree) down
  pub down_simple : IsSimple down
  pub disjoint : (k : ℕ) → Contains up k → Contains down k → ⊥
  pub passed : (z : ℕ) → IsUp needs tree parents depths z → (Contains up (slice_index parents z) ⊎ Contains down (slice_index parents z)) →
      (slice_index depths a ≤ slice_index depths z) × (slice_index depths b ≤ slice_index depths z) × (z ≡ a → ⊥) × (z ≡ b → ⊥)

-- the fault is the walk of the first need that isn't balanced
abbrev pub IsUnequal : List Need → RateFault → Type 0
IsUnequal needs (fault.Unequal walk) = IsFirstUnequal needs walk.items × IsUnequalWalk needs walk.items
IsUnequal needs (fault.Limit l) = ⊥
IsUnequal needs fault.OutOfMemory = ⊥
