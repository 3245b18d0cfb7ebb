-- The trees of all components, and the rates that they give, in lists by the numbers of the clocks.
use Rattle.std.specs.Prelude.{ℕ, ◌*◌, ◌<◌, ◌≤◌, ◌≡◌, List, length, slice_index, slice_index_or}
use Rattle.std.specs.Int.{IsGcd}
use Rattle.std.specs.List.{All}
use Rattle.lucy_need.specs.Meeting.{IsWithin}
use Rattle.lucy_need.specs.declared.need.Need.{Need}
use Rattle.lucy_rates.specs.declared.fraction.Fraction.{Fraction}
use Rattle.lucy_rates.specs.Walks.{need_at, IsNeedWalk, IsRoot, AreJoinedClocks}
use Rattle.lucy_rates.specs.Trees.{IsTreeRate, IsBalanced, most_rate}

-- what stands past the end of a list
abbrev pub no_rate : Fraction
no_rate = record { num = 0; den = 0 }

-- the rate of the clock of this number
abbrev pub rate_at : List Fraction → ℕ → Fraction
rate_at rates c = slice_index_or rates c no_rate

-- a rate in lowest terms, its numbers above 0 and within the limit
pub record IsRateFraction (rate : Fraction) : Type 0 where
  pub lowest : IsGcd rate.num rate.den 1
  pub num : 0 < rate.num
  pub den : 0 < rate.den
  pub num_few : rate.num ≤ most_rate
  pub den_few : rate.den ≤ most_rate

-- for each clock the root of its component and its rate, and how many parents there are
pub record IsForest (needs : List Need) (clocks : ℕ) (roots parents : List ℕ) (rates : List Fraction) : Type 0 where
  pub roots_size : length roots ≡ clocks
  pub parents_size : length parents ≡ clocks
  pub rates_size : length rates ≡ clocks
  pub root : (c : ℕ) → c < clocks → IsRoot needs (slice_index roots c) c
  pub one : (c d : ℕ) → c < clocks → d < clocks → AreJoinedClocks needs c d → slice_index roots c ≡ slice_index roots d
  pub joined : (c d : ℕ) → c < clocks → d < clocks → slice_index roots c ≡ slice_index roots d → AreJoinedClocks needs c d
  pub rate : (c : ℕ) → c < clocks → IsRateFraction (rate_at rates c)
  pub tree_rate : (c : ℕ) → c < clocks → IsTreeRate needs c (rate_at rates c).num (rate_at rates c).den
  pub only : (c num den : ℕ) → c < clocks → IsTreeRate needs c num den → (num ≡ (rate_at rates c).num) × (den ≡ (rate_at rates c).den)

-- where all needs are balanced, a walk multiplies the rate of its first clock to that of its last
abbrev pub BalanceLaw : Type 0
BalanceLaw = (needs : List Need) (clocks : ℕ) (roots parents : List ℕ) (rates : List Fraction) → All (IsWithin clocks) needs → IsForest needs clocks roots parents rates →
    ((k : ℕ) → k < length needs → IsBalanced needs (need_at needs k)) →
    (walk : List ℕ) (c d num den : ℕ) → c < clocks → IsNeedWalk needs walk c d num den →
    (rate_at rates d).num * (rate_at rates c).den * den ≡ (rate_at rates c).num * (rate_at rates d).den * num
