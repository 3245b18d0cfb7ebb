-- How the numbers of a shape are found.
use Rattle.std.specs.Prelude.{ℕ, zero, suc, ◌+◌, ◌*◌, ◌/◌, ◌^◌, ◌<◌, ◌≤◌, ◌≡◌, ◌↔◌, ◌==◌, ◌&&◌, ◌||◌, not, max, Bool, true, if◌then◌else◌, List, [], ◌∷◌, ◌++◌, length, slice_index}
use Prim.Native.Nat.{◌∣◌}
use Rattle.lucy_word.specs.Bits.{most_bits}
use Rattle.lucy_need.specs.declared.need.Term.{Term}
use Rattle.lucy_need.specs.declared.need.Need.{Need}
use Rattle.lucy_need.specs.declared.need.Needs.{Needs}
use Rattle.lucy_shape.specs.declared.shape.ClockShape.{ClockShape}
use Rattle.lucy_shape.specs.Fitting.{unused, variable_count, most_positions}
use Rattle.lucy_rates.specs.declared.fraction.Fraction.{Fraction}
use Rattle.lucy_rates.specs.Walks.{first_of, second_of, need_at}
use Rattle.lucy_rates.specs.Forests.{rate_at}
use Rattle.lucy_rates.specs.Vectors.{IsNamedBySome}

-- what the word of a term asks of the number that the rates of a root's component are multiplied by: that the clock's number is
-- then a multiple of the length of the word's period
abbrev pub AsksTerm : List ℕ → List Fraction → ℕ → Term → ℕ → Type 0
AsksTerm roots rates root t n = slice_index roots t.clock ≡ root → (length t.word.period * (rate_at rates t.clock).den) ∣ (n * (rate_at rates t.clock).num)

-- what the terms of a need ask
abbrev pub AsksNeed : List ℕ → List Fraction → ℕ → Need → ℕ → Type 0
AsksNeed roots rates root need n = AsksTerm roots rates root (first_of need) n × AsksTerm roots rates root (second_of need) n

-- what the first so many needs ask
abbrev pub AsksUpto : List Need → List ℕ → List Fraction → ℕ → ℕ → ℕ → Type 0
AsksUpto needs roots rates upto root n = (k : ℕ) → k < upto → AsksNeed roots rates root (need_at needs k) n

-- for each root the factor whose multiples are what the first so many needs ask for
pub record AreFactors (needs : List Need) (roots : List ℕ) (rates : List Fraction) (upto : ℕ) (factors : List ℕ) : Type 0 where
  pub size : length factors ≡ length roots
  pub some : (root : ℕ) → root < length roots → 0 < slice_index factors root
  pub few : (root : ℕ) → root < length roots → slice_index factors root ≤ most_positions
  pub exact : (root n : ℕ) → root < length roots → (slice_index factors root ∣ n ↔ AsksUpto needs roots rates upto root n)

-- the factors, each with what a term asks of it besides
pub record AreAsked (roots : List ℕ) (rates : List Fraction) (term : Term) (before after : List ℕ) : Type 0 where
  pub size : length after ≡ length before
  pub some : (root : ℕ) → root < length before → 0 < slice_index after root
  pub few : (root : ℕ) → root < length before → slice_index after root ≤ most_positions
  pub exact : (root n : ℕ) → root < length before → (slice_index after root ∣ n ↔ ((slice_index before root ∣ n) × AsksTerm roots rates root term n))

-- what is asked besides leaves no number within the limit
abbrev pub AsksTooMuch : List ℕ → List Fraction → Term → List ℕ → Type 0
AsksTooMuch roots rates term factors = (n : ℕ) → 0 < n → slice_index factors (slice_index roots term.clock) ∣ n → AsksTerm roots rates (slice_index roots term.clock) term n → most_positions < n

-- in the component of a clock that needs name, what they ask leaves no number within the limit
abbrev pub HasLargeFactor : List Need → List ℕ → List Fraction → Type 0
HasLargeFactor needs roots rates = (c : ℕ) × IsNamedBySome needs c × ((n : ℕ) → 0 < n → AsksUpto needs roots rates (length needs) (slice_index roots c) n → most_positions < n)

-- for each of the first so many clocks its rate times the factor of its root
pub record AreMultiplied (roots : List ℕ) (rates : List Fraction) (factors : List ℕ) (upto : ℕ) (vector : List ℕ) : Type 0 where
  pub size : length vector ≡ upto
  pub each : (c : ℕ) → c < upto → slice_index vector c ≡ slice_index factors (slice_index roots c) / (rate_at rates c).den * (rate_at rates c).num
  pub few : (c : ℕ) → c < upto → slice_index vector c ≤ 2 ^ 32

-- the numbers of the clocks, by some factors
pub record AreNumbers (needs : List Need) (roots : List ℕ) (rates : List Fraction) (vector : List ℕ) : Type 0 where
  pub factors : List ℕ
  pub are_factors : AreFactors needs roots rates (length needs) factors
  pub are_multiplied : AreMultiplied roots rates factors (length roots) vector

-- the clock's number counts for the top of this root's component: in the base's own the base alone does
abbrev pub counts_for : List ℕ → ℕ → ℕ → Bool
counts_for roots root c = (slice_index roots c == root) && ((c == 0) || not (root == 0))

-- the greatest of the numbers that count for it among the first so many clocks
abbrev pub top_to : List ℕ → (ℕ → ℕ) → ℕ → ℕ → ℕ
top_to roots vector root zero = 0
top_to roots vector root (suc c) = if counts_for roots root c then max (top_to roots vector root c) (vector c) else top_to roots vector root c

-- for each root the greatest of the numbers that count for it among the first so many clocks
pub record AreTops (roots vector : List ℕ) (upto : ℕ) (tops : List ℕ) : Type 0 where
  pub size : length tops ≡ length roots
  pub each : (root : ℕ) → root < length roots → slice_index tops root ≡ top_to roots (slice_index vector) root upto

-- the top of each clock's component has a one, and no more than the number of a clock
pub record HaveOnes (roots tops : List ℕ) : Type 0 where
  pub some : (c : ℕ) → c < length roots → 0 < slice_index tops (slice_index roots c)
  pub few : (c : ℕ) → c < length roots → slice_index tops (slice_index roots c) ≤ 2 ^ 32

-- a clock but the base, or the base where it is used
abbrev pub counts : Bool → ℕ → Bool
counts is_base_used c = not (c == 0) || is_base_used

-- the number that has exactly the common multiples of the tops of the first so many clocks that count
pub record IsCommonTo (is_base_used : Bool) (top : ℕ → ℕ) (upto period : ℕ) : Type 0 where
  pub some : 0 < period
  pub exact : (n : ℕ) → (period ∣ n ↔ ((c : ℕ) → c < upto → counts is_base_used c ≡ true → top c ∣ n))

-- the same, within the limit, where the tops stand in a list by the roots
pub record IsPeriodTo (is_base_used : Bool) (roots tops : List ℕ) (upto period : ℕ) : Type 0 where
  pub common : IsCommonTo is_base_used (λ c. slice_index tops (slice_index roots c)) upto period
  pub few : period ≤ most_positions

-- each common multiple of them is over the limit
abbrev pub HasLargeCommon : Bool → (ℕ → ℕ) → ℕ → Type 0
HasLargeCommon is_base_used top clocks = (n : ℕ) → 0 < n → ((c : ℕ) → c < clocks → counts is_base_used c ≡ true → top c ∣ n) → most_positions < n

-- so of the tops that these numbers have
abbrev pub HaveLargeCommon : Bool → List ℕ → List ℕ → Type 0
HaveLargeCommon is_base_used roots vector = (tops : List ℕ) × AreTops roots vector (length roots) tops × HasLargeCommon is_base_used (λ c. slice_index tops (slice_index roots c)) (length roots)

-- the length of a term's prefix where the term is of this clock, or 0
abbrev pub prefix_of : ℕ → Term → ℕ
prefix_of c t = if t.clock == c then length t.word.prefix else 0

-- the greatest among the first so many needs
abbrev pub longest_to : List Need → ℕ → ℕ → ℕ
longest_to needs c zero = 0
longest_to needs c (suc k) = max (max (longest_to needs c k) (prefix_of c (first_of (need_at needs k)))) (prefix_of c (second_of (need_at needs k)))

-- for each clock the greatest among the first so many needs, in bits
pub record AreLongest (needs : List Need) (clocks upto : ℕ) (prefixes : List ℕ) : Type 0 where
  pub size : length prefixes ≡ clocks
  pub each : (c : ℕ) → c < clocks → slice_index prefixes c ≡ longest_to needs c upto
  pub few : (c : ℕ) → c < clocks → slice_index prefixes c ≤ most_bits

-- how many instants a period has at most: the greatest common one, by the greatest scale
abbrev pub most_period : ℕ
most_period = 64 * most_positions

-- how many ones a clock has at most in a period
abbrev pub most_ones : ℕ
most_ones = 2 ^ 32 * most_period

-- for each of the first so many clocks the ones of a period
pub record AreOnes (roots vector tops : List ℕ) (period upto : ℕ) (ones : List ℕ) : Type 0 where
  pub size : length ones ≡ upto
  pub each : (c : ℕ) → c < upto → slice_index ones c ≡ slice_index vector c * (period / slice_index tops (slice_index roots c))
  pub few : (c : ℕ) → c < upto → slice_index ones c ≤ most_ones

-- a period, this many times as long as the common one, and for each clock its ones in it
pub record AreCounted (is_base_used : Bool) (roots vector : List ℕ) (scale period : ℕ) (ones : List ℕ) : Type 0 where
  pub tops : List ℕ
  pub are_tops : AreTops roots vector (length roots) tops
  pub common : ℕ
  pub is_common : IsPeriodTo is_base_used roots tops (length roots) common
  pub period_is : period ≡ scale * common
  pub are_ones : AreOnes roots vector tops (scale * common) (length roots) ones

-- the shape of a clock behind others
abbrev pub shape_behind : List ClockShape → Bool → ℕ → ℕ → ℕ → ClockShape
shape_behind before is_used lead ones prefix = if is_used then record { used = true; lead = lead * ones + prefix; ones = ones; first = variable_count before } else unused

-- the shapes of the first so many clocks, one behind the other
abbrev pub laid_out : Bool → ℕ → (ℕ → ℕ) → (ℕ → ℕ) → ℕ → List ClockShape
laid_out is_base_used lead ones prefix zero = []
laid_out is_base_used lead ones prefix (suc c) = laid_out is_base_used lead ones prefix c ++ shape_behind (laid_out is_base_used lead ones prefix c) (counts is_base_used c) lead (ones c) (prefix c) ∷ []

-- the shapes of the first so many clocks, with so many variables
pub record AreLaidOut (is_base_used : Bool) (lead : ℕ) (ones prefixes : List ℕ) (upto : ℕ) (shapes : List ClockShape) (first : ℕ) : Type 0 where
  pub are : shapes ≡ laid_out is_base_used lead (slice_index ones) (slice_index prefixes) upto
  pub count : first ≡ variable_count shapes
  pub few : first ≤ 1 + most_positions

-- the shapes of all clocks, each with so many ones and the longest prefix after it
pub record AreShapes (is_base_used : Bool) (lead : ℕ) (needs : Needs) (ones : List ℕ) (shapes : List ClockShape) : Type 0 where
  pub prefixes : List ℕ
  pub are_longest : AreLongest needs.list needs.clocks (length needs.list) prefixes
  pub are : shapes ≡ laid_out is_base_used lead (slice_index ones) (slice_index prefixes) (length ones)
