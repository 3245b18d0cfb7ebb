-- Numbers that meet bounds, neighbours and periods are the positions of an assignment that fits, and each that fits has positions.
use Rattle.std.proofs.Common.{◌≡◌, ℕ, ◌+◌, ◌-◌, ◌<◌, ◌≤◌, Bool, true, false, cond, eqb, zero, suc, List, [], ◌∷◌, ◌++◌, map, length, get_or, take, ℤ, pos, negsuc, neg_ℤ, inl, inr, sym, ap, ◌∙◌, subst, refl, arith, length-append}
use Rattle.std.specs.List.{AllByRecursion, range_with_len, sum_by}
use Rattle.std.proofs.lemmas.Int.{ints}
use Rattle.std.proofs.lemmas.Bool.{cases_lt, cases_eq, cases_Bool, false≢true}
use Rattle.std.proofs.lemmas.Bool.Decides.{eqb_tells}
use Rattle.std.proofs.lemmas.List.{get_or_append_left, get_or-append-add}
use Rattle.std.proofs.lemmas.List.Sums.{sum_by-cons}
use Rattle.std.proofs.lemmas.List.FromFn.{length-map-range_with_len, get_or-map-range_with_len}
use Rattle.lucy_word.specs.Bits.{Bits, IsWord}
use Rattle.lucy_word.specs.Shortest.{Same}
use Rattle.lucy_word.proofs.OnLaws.{always_word}
use Rattle.lucy_need.proofs.AllLaws.{all_front, all_back}
use Rattle.lucy_solve.specs.System.{value}
use Rattle.lucy_shape.specs.declared.shape.ClockShape.{ClockShape}
use Rattle.lucy_shape.specs.declared.shape.Shape.{Shape}
use Rattle.lucy_shape.proofs.RowLaws.{clock_law}
use Rattle.lucy_shape.proofs.Lists.{all_map_at, all_flat_at}
use Rattle.lucy_shape.proofs.Places.{index_always}
use Rattle.lucy_shape.proofs.Meeting.{each_to}
use Rattle.lucy_need.specs.Meeting.{Assignment}
use Rattle.lucy_shape.specs.Fitting.{variable_of, HasPositions, clock_at, position_count, IsUsed, IsLaidOut}
use Rattle.lucy_shape.specs.Index.{Recurs, index_of}
use Rattle.lucy_shape.specs.Inequalities.{bound_rows, base_rows, neighbour_rows, period_row, clock_rows, shape_rows, SolvesShape}
use Rattle.lucy_shape.specs.Laws.{FittingLaw, PositionsLaw}
use Rattle.lucy_shape.specs.Rows.{HoldsIn, SolvesClock}
use Rattle.lucy_word.specs.Always.{always}

-- the positions of the clocks from number c on, clock by clock
clock_positions : Assignment → ℕ → ClockShape → List ℤ
clock_positions w c s = cond s.used (map (λ m. pos (index_of (w c) m)) (range_with_len 1 (s.lead + s.ones))) []

positions_from : Assignment → ℕ → List ClockShape → List ℤ
positions_from w c [] = []
positions_from w c (s ∷ clocks) = clock_positions w c s ++ positions_from w (c + 1) clocks

clock_length : (w : Assignment) (c : ℕ) (s : ClockShape) → length (clock_positions w c s) ≡ position_count s
unfolding clock_positions
clock_length w c s =
    let f : ℕ → ℤ = λ m. pos (index_of (w c) m) in
    elim (s.used) as (λ b. length (cond b (map f (range_with_len 1 (s.lead + s.ones))) []) ≡ cond b (s.lead + s.ones) 0) [
      | true ↦ length-map-range_with_len f 1 (s.lead + s.ones)
      | false ↦ refl
    ]

all_length : (w : Assignment) (c : ℕ) (clocks : List ClockShape) → length (positions_from w c clocks) ≡ sum_by position_count clocks
unfolding positions_from
all_length w c [] = refl
all_length w c (s ∷ clocks) =
    let a = length-append (clock_positions w c s) (positions_from w (c + 1) clocks) in
    let b = clock_length w c s in
    let d = all_length w (c + 1) clocks in
    let e = sum_by-cons position_count s clocks in
    omega arith

shown : (w : Assignment) (c : ℕ) (s : ClockShape) (m : ℕ) → s.used ≡ true →
    get_or (clock_positions w c s) (m - 1) (pos 0) ≡ get_or (map (λ m. pos (index_of (w c) m)) (range_with_len 1 (s.lead + s.ones))) (m - 1) (pos 0)
unfolding clock_positions
shown w c s m u = ap (λ b. get_or (cond b (map (λ m. pos (index_of (w c) m)) (range_with_len 1 (s.lead + s.ones))) []) (m - 1) (pos 0)) u

place_of : (w : Assignment) (c : ℕ) (clocks : List ClockShape) (i m : ℕ) → i < length clocks → (clock_at clocks i).used ≡ true → 0 < m → m ≤ (clock_at clocks i).lead + (clock_at clocks i).ones →
    get_or (positions_from w c clocks) (sum_by position_count (take i clocks) + (m - 1)) (pos 0) ≡ pos (index_of (w (c + i)) m)
unfolding positions_from
place_of w c [] i m l u some few = absurd (omega arith)
place_of w c (s ∷ clocks) zero m l u some few =
    let f : ℕ → ℤ = λ m. pos (index_of (w c) m) in
    let len = clock_length w c s in
    let n : position_count s ≡ s.lead + s.ones = ap (λ b. cond b (s.lead + s.ones) 0) u in
    let a = get_or_append_left (clock_positions w c s) (positions_from w (c + 1) clocks) (pos 0) (m - 1) (omega arith) in
    let b : get_or (clock_positions w c s) (m - 1) (pos 0) ≡ get_or (map f (range_with_len 1 (s.lead + s.ones))) (m - 1) (pos 0) = shown w c s m u in
    let d = get_or-map-range_with_len f 1 (s.lead + s.ones) (m - 1) m (pos 0) (omega arith) (omega arith) in
    let e : index_of (w c) m ≡ index_of (w (c + 0)) m = ap (λ k. index_of (w k) m) (omega arith) in
    let z : sum_by position_count (take {A = ClockShape} 0 (s ∷ clocks)) + (m - 1) ≡ m - 1 = omega arith in
    ap (λ k. get_or (clock_positions w c s ++ positions_from w (c + 1) clocks) k (pos 0)) z ∙ a ∙ b ∙ d ∙ ap pos e
place_of w c (s ∷ clocks) (suc i) m l u some few =
    let len = clock_length w c s in
    let sum = sum_by-cons position_count s (take i clocks) in
    let e : sum_by position_count (take (suc i) (s ∷ clocks)) + (m - 1) ≡ length (clock_positions w c s) + (sum_by position_count (take i clocks) + (m - 1)) = omega arith in
    let a = get_or-append-add (clock_positions w c s) (positions_from w (c + 1) clocks) (sum_by position_count (take i clocks) + (m - 1)) (pos 0) in
    let b = place_of w (c + 1) clocks i m (omega arith) u some few in
    let d : index_of (w (c + 1 + i)) m ≡ index_of (w (c + suc i)) m = ap (λ k. index_of (w k) m) (omega arith) in
    ap (λ k. get_or (clock_positions w c s ++ positions_from w (c + 1) clocks) k (pos 0)) e ∙ a ∙ b ∙ ap pos d

pub positions_law : PositionsLaw
positions_law shape w laid =
    let xs : List ℤ = pos 0 ∷ positions_from w 0 shape.clocks in (
      xs,
      record {
        size = let a = all_length w 0 shape.clocks in omega arith;
        origin = refl;
        at = λ c u. record {
          at = λ m some few.
              let s = clock_at shape.clocks c in
              let first = laid.first c u in
              let e : s.first + m - 1 ≡ suc (sum_by position_count (take c shape.clocks) + (m - 1)) = omega arith in
              let a : value xs (s.first + m - 1) ≡ get_or (positions_from w 0 shape.clocks) (sum_by position_count (take c shape.clocks) + (m - 1)) (pos 0) = ap (value xs) e in
              let b : index_of (w (0 + c)) m ≡ index_of (w c) m = ap (λ k. index_of (w k) m) (omega arith) in
              a ∙ place_of w 0 shape.clocks c m u.0 u.1 some few ∙ ap pos b;
        };
      },
    )

-- the rows of one clock
module _ (shape : Shape) (xs : List ℤ) (laid : IsLaidOut shape) (solves : SolvesShape shape xs) where
  rows_of : (c : ℕ) → IsUsed shape.clocks c → AllByRecursion (HoldsIn xs) (cond (eqb c 0) (base_rows (clock_at shape.clocks c)) (bound_rows (clock_at shape.clocks c)) ++ (neighbour_rows (clock_at shape.clocks c) ++ period_row shape.period (clock_at shape.clocks c) ∷ []))
  rows_of c u =
      let s = clock_at shape.clocks c in
      let all = each_to xs (shape_rows shape) solves.each in
      let at = all_flat_at (HoldsIn xs) (λ c. clock_rows shape.period (eqb c 0) (clock_at shape.clocks c)) 0 (length shape.clocks) all c (omega arith) (let a = u.0 in omega arith) in
      subst (λ (b : Bool). AllByRecursion (HoldsIn xs) (cond b (cond (eqb c 0) (base_rows s) (bound_rows s) ++ (neighbour_rows s ++ period_row shape.period s ∷ [])) [])) u.1 at

  rest_of : (c : ℕ) → IsUsed shape.clocks c → AllByRecursion (HoldsIn xs) (neighbour_rows (clock_at shape.clocks c) ++ period_row shape.period (clock_at shape.clocks c) ∷ [])
  rest_of c u =
      let s = clock_at shape.clocks c in
      all_back (HoldsIn xs) (cond (eqb c 0) (base_rows s) (bound_rows s)) (neighbour_rows s ++ period_row shape.period s ∷ []) (rows_of c u)

  bounds_of : (c : ℕ) → IsUsed shape.clocks c → (m : ℕ) → 0 < m → m ≤ (clock_at shape.clocks c).lead + (clock_at shape.clocks c).ones →
      HoldsIn xs (record { left = 0; right = variable_of (clock_at shape.clocks c) m; most = negsuc 0 })
  bounds_of c u m low high =
      let s = clock_at shape.clocks c in
      let front = all_front (HoldsIn xs) (cond (eqb c 0) (base_rows s) (bound_rows s)) (neighbour_rows s ++ period_row shape.period s ∷ []) (rows_of c u) in
      elim (eqb_tells c 0) [
        | inl z ↦
            let rows = subst (λ (b : Bool). AllByRecursion (HoldsIn xs) (cond b (base_rows s) (bound_rows s))) z.0 front in
            let at = all_flat_at (HoldsIn xs) (λ m. record { left = 0; right = variable_of s m; most = neg_ℤ (pos m) } ∷ record { left = variable_of s m; right = 0; most = pos m } ∷ []) 1 (s.lead + s.ones) rows m low (omega arith) in
            let a = at.0 in
            omega (arith, ints)
        | inr z ↦
            let rows = subst (λ (b : Bool). AllByRecursion (HoldsIn xs) (cond b (base_rows s) (bound_rows s))) z.0 front in
            all_map_at (HoldsIn xs) (λ m. record { left = 0; right = variable_of s m; most = negsuc 0 }) 1 (s.lead + s.ones) rows m low (omega arith)
      ]

  pub solves_clock : (c : ℕ) → IsUsed shape.clocks c → SolvesClock shape.period (clock_at shape.clocks c) xs
  solves_clock c u =
      let s = clock_at shape.clocks c in
      let next = all_map_at (HoldsIn xs) (λ m. record { left = variable_of s m; right = variable_of s (m + 1); most = negsuc 0 }) 1 (s.lead + s.ones - 1)
      (all_front (HoldsIn xs) (neighbour_rows s) (period_row shape.period s ∷ []) (rest_of c u)) in
      record {
        origin = solves.origin;
        bounds = λ m low high. bounds_of c u m low high;
        neighbours = λ m low high. next m low (omega arith);
        period = (all_back (HoldsIn xs) (neighbour_rows s) (period_row shape.period s ∷ []) (rest_of c u)).0;
      }

  -- the base stands at each instant
  pub base_at : (u : IsUsed shape.clocks 0) → HasPositions (clock_at shape.clocks 0) (index_of always) xs
  base_at u =
      let s = clock_at shape.clocks 0 in
      let front = all_front (HoldsIn xs) (base_rows s) (neighbour_rows s ++ period_row shape.period s ∷ []) (rows_of 0 u) in
      let at = all_flat_at (HoldsIn xs) (λ m. record { left = 0; right = variable_of s m; most = neg_ℤ (pos m) } ∷ record { left = variable_of s m; right = 0; most = pos m } ∷ []) 1 (s.lead + s.ones) front in
      record {
        at = λ m low high.
            let both = at m low (omega arith) in
            let a = both.0 in
            let b = both.1.0 in
            let o = solves.origin in
            let e = index_always always (λ i h. refl) always_word m in
            omega (arith, ints);
      }

  base_fits : IsUsed shape.clocks 0 → Recurs (index_of always) (clock_at shape.clocks 0).lead (clock_at shape.clocks 0).ones shape.period
  base_fits u m h =
      let s = clock_at shape.clocks 0 in
      let a = index_always always (λ i h. refl) always_word m in
      let b = index_always always (λ i h. refl) always_word (m + s.ones) in
      let e = laid.base u in
      omega arith

  abbrev Pick : ℕ → Bits → Type 0
  Pick c b = IsWord b × (c ≡ 0 → Same b always) × ((u : IsUsed shape.clocks c) → Recurs (index_of b) (clock_at shape.clocks c).lead (clock_at shape.clocks c).ones shape.period × HasPositions (clock_at shape.clocks c) (index_of b) xs)

  pick : (c : ℕ) → (b : Bits) × Pick c b
  pick c = elim (cases_eq c 0) [
    | inl z ↦ subst (λ (k : ℕ). (b : Bits) × Pick k b) (sym z) (always, (always_word, λ e. λ i h. refl, λ u. (base_fits u, base_at u)))
    | inr n ↦ elim (cases_lt c (length shape.clocks)) [
      | inr past ↦ (always, (always_word, λ e. absurd (omega arith), λ u. (let l = u.0 in absurd (omega arith))))
      | inl within ↦ elim (cases_Bool (clock_at shape.clocks c).used) [
        | inr none ↦ (always, (always_word, λ e. absurd (omega arith), λ u. (absurd (false≢true (sym none ∙ u.1)))))
        | inl yes' ↦
            let u : IsUsed shape.clocks c = (within, yes') in
            let first = laid.first c u in
            let found = clock_law shape.period (clock_at shape.clocks c) xs (laid.ones c u) (omega arith) (solves_clock c u) in
            (found.0, (record { has_one = found.1 }, λ e. absurd (omega arith), λ v. (found.2, found.3)))
      ]
    ]
  ]

pub fitting_law : FittingLaw
fitting_law shape xs laid solves =
    let p = pick shape xs laid solves in (
      λ c. (p c).0,
      record { words = λ c h. (p c).1.0; base = (p 0).1.1 refl; fits = λ c u. ((p c).1.2 u).0 },
      record { size = solves.size; origin = solves.origin; at = λ c u. ((p c).1.2 u).1 },
    )
