-- Each variable has a bound, and clocks and terms of a shape can be spread.
use Rattle.std.proofs.Common.{◌≡◌, ℕ, ◌+◌, ◌-◌, ◌<◌, ◌≤◌, Bool, cond, eqb, zero, suc, List, [], ◌∷◌, ◌++◌, map, length, get_or, take, pos, negsuc, neg_ℤ, inl, inr, sym, ap, subst, refl, arith, length-append}
use Rattle.std.specs.List.{range_with_len, flat_map, sum_by, AllByRecursion}
use Rattle.std.proofs.lemmas.Int.{ints}
use Rattle.std.proofs.lemmas.Bool.{cases_lt, cases_eq, cases_Bool}
use Rattle.std.proofs.lemmas.Bool.Decides.{eqb_tells}
use Rattle.std.proofs.lemmas.List.{get_or_append_left, get_or-append-add}
use Rattle.std.proofs.lemmas.List.Sums.{sum_by_more_le, sum_by-cons}
use Rattle.lucy_need.specs.declared.need.Need.{Need}
use Rattle.lucy_need.specs.declared.need.Need.TheVariants.{Equal, Adapt}
use Rattle.lucy_solve.specs.declared.diffs.Diff.{Diff}
use Rattle.lucy_solve.specs.System.{IsBase, diff_at, no_diff}
use Rattle.lucy_shape.specs.declared.shape.ClockShape.{ClockShape}
use Rattle.lucy_shape.specs.declared.shape.Shape.{Shape}
use Rattle.std.proofs.lemmas.List.Elements.{All-from_recursion}
use Rattle.lucy_shape.specs.Added.{IsPlaced, IsNeedSpreadable}
use Rattle.lucy_need.specs.Stored.{HasWords}
use Rattle.lucy_shape.specs.Fitting.{variable_of, unused, clock_at, position_count, variable_count, IsUsed, IsLaidOut, IsCarried}
use Rattle.lucy_shape.specs.Inequalities.{bound_rows, base_rows, neighbour_rows, period_row, clock_rows, shape_rows}

abbrev Has : {A : Type 0} → A → (A → Type 0) → List A → Type 0
Has {A} d P xs = (i : ℕ) × (i < length xs) × P (get_or xs i d)

pub has_left : {A : Type 0} (d : A) (P : A → Type 0) (xs ys : List A) → Has d P xs → Has d P (xs ++ ys)
has_left d P xs ys h = (h.0, (let a = length-append xs ys in let b = h.1 in omega arith), subst P (sym (get_or_append_left xs ys d h.0 h.1)) h.2)

has_right : {A : Type 0} (d : A) (P : A → Type 0) (xs ys : List A) → Has d P ys → Has d P (xs ++ ys)
has_right d P xs ys h = (length xs + h.0, (let a = length-append xs ys in let b = h.1 in omega arith), subst P (sym (get_or-append-add xs ys h.0 d)) h.2)

has_map : {A : Type 0} (d : A) (P : A → Type 0) (f : ℕ → A) (a n j : ℕ) → a ≤ j → j < a + n → P (f j) → Has d P (map f (range_with_len a n))
has_map d P f a zero j l h p = absurd (omega arith)
has_map d P f a (suc n) j l h p = elim (cases_eq a j) [
  | inl e ↦ (0, omega arith, subst (λ (k : ℕ). P (f k)) (sym e) p)
  | inr e ↦ (let r = has_map d P f (a + 1) n j (omega arith) (omega arith) p in (suc r.0, (let b = r.1 in omega arith), r.2))
]

has_flat : {A : Type 0} (d : A) (P : A → Type 0) (f : ℕ → List A) (a n j : ℕ) → a ≤ j → j < a + n → Has d P (f j) → Has d P (flat_map f (range_with_len a n))
has_flat d P f a zero j l h p = absurd (omega arith)
has_flat d P f a (suc n) j l h p = elim (cases_eq a j) [
  | inl e ↦ has_left d P (f a) (flat_map f (range_with_len (a + 1) n)) (subst (λ (k : ℕ). Has d P (f k)) (sym e) p)
  | inr e ↦ has_right d P (f a) (flat_map f (range_with_len (a + 1) n)) (has_flat d P f (a + 1) n j (omega arith) (omega arith) p)
]

-- the clock whose variable this is
found_clock : (clocks : List ClockShape) (v : ℕ) → v < sum_by position_count clocks → (c : ℕ) × (c < length clocks) × (sum_by position_count (take c clocks) ≤ v) × (v < sum_by position_count (take c clocks) + position_count (clock_at clocks c))
found_clock [] v h = absurd (omega arith)
found_clock (s ∷ clocks) v h =
    let e = sum_by-cons position_count s clocks in
    elim (cases_lt v (position_count s)) [
      | inl l ↦ (0, omega arith, omega arith, omega arith)
      | inr l ↦
          let r = found_clock clocks (v - position_count s) (omega arith) in
          let f = sum_by-cons position_count s (take r.0 clocks) in
          (suc r.0, (let a = r.1 in omega arith), (let a = r.2 in omega arith), (let a = r.3 in omega arith))
    ]

pub placed : (shape : Shape) (c : ℕ) → IsLaidOut shape → IsUsed shape.clocks c → IsPlaced (variable_count shape.clocks) (clock_at shape.clocks c)
placed shape c laid u =
    let s = clock_at shape.clocks c in
    let first = laid.first c u in
    let n : position_count s ≡ s.lead + s.ones = ap (λ b. cond b (s.lead + s.ones) 0) u.1 in
    let within = sum_by_more_le position_count shape.clocks c unused u.0 in
    record { some = laid.ones c u; first = omega arith; within = omega arith }

pub base_of : (shape : Shape) (v : ℕ) → IsLaidOut shape → 0 < v → v < variable_count shape.clocks → (i : ℕ) × (i < length (shape_rows shape)) × IsBase v (diff_at (shape_rows shape) i)
base_of shape v laid some few =
    let at = found_clock shape.clocks (v - 1) (omega arith) in
    let c = at.0 in
    let s = clock_at shape.clocks c in
    elim (cases_Bool s.used) [
      | inr none ↦ absurd (let n : position_count s ≡ 0 = ap (λ b. cond b (s.lead + s.ones) 0) none in let a = at.2 in let b = at.3 in omega arith)
      | inl yes' ↦
          let u : IsUsed shape.clocks c = (at.1, yes') in
          let first = laid.first c u in
          let n : position_count s ≡ s.lead + s.ones = ap (λ b. cond b (s.lead + s.ones) 0) yes' in
          let m = v - s.first + 1 in
          let low = at.2 in
          let high = at.3 in
          let right : s.first + m - 1 ≡ v = omega arith in
          let rest : List Diff = neighbour_rows s ++ period_row shape.period s ∷ [] in
          let front : Has no_diff (IsBase v) (cond (eqb c 0) (base_rows s) (bound_rows s)) = elim (eqb_tells c 0) [
            | inl z ↦ subst (λ (b : Bool). Has no_diff (IsBase v) (cond b (base_rows s) (bound_rows s))) (sym z.0)
                (has_flat no_diff (IsBase v) (λ m. record { left = 0; right = variable_of s m; most = neg_ℤ (pos m) } ∷ record { left = variable_of s m; right = 0; most = pos m } ∷ []) 1 (s.lead + s.ones) m (omega arith) (omega arith)
                (0, omega arith, record { left = refl; right = right; most = omega (arith, ints) }))
            | inr z ↦ subst (λ (b : Bool). Has no_diff (IsBase v) (cond b (base_rows s) (bound_rows s))) (sym z.0)
                (has_map no_diff (IsBase v) (λ m. record { left = 0; right = variable_of s m; most = negsuc 0 }) 1 (s.lead + s.ones) m (omega arith) (omega arith)
                (record { left = refl; right = right; most = omega (arith, ints) }))
          ] in
          let all : Has no_diff (IsBase v) (clock_rows shape.period (eqb c 0) s) =
          subst (λ (b : Bool). Has no_diff (IsBase v) (cond b (cond (eqb c 0) (base_rows s) (bound_rows s) ++ rest) [])) (sym yes') (has_left no_diff (IsBase v) (cond (eqb c 0) (base_rows s) (bound_rows s)) rest front) in
          has_flat no_diff (IsBase v) (λ c. clock_rows shape.period (eqb c 0) (clock_at shape.clocks c)) 0 (length shape.clocks) c (omega arith) (let a = at.1 in omega arith) all
    ]

-- a need that a shape carries can be spread
pub need_spreads : (shape : Shape) (need : Need) → IsLaidOut shape → HasWords need → IsCarried shape.clocks need → IsNeedSpreadable (variable_count shape.clocks) shape.clocks need
need_spreads shape (Equal s t) laid words h = (
  h.first_used.0,
  h.second_used.0,
  record { placed = placed shape s.clock laid h.first_used; word = words.0.word; short = (let a = words.0.short in omega arith); whole = h.first_whole },
  record { placed = placed shape t.clock laid h.second_used; word = words.1.word; short = (let a = words.1.short in omega arith); whole = h.second_whole },
)
need_spreads shape (Adapt s t) laid words h = (
  h.first_used.0,
  h.second_used.0,
  record { placed = placed shape s.clock laid h.first_used; word = words.0.word; short = (let a = words.0.short in omega arith); whole = h.first_whole },
  record { placed = placed shape t.clock laid h.second_used; word = words.1.word; short = (let a = words.1.short in omega arith); whole = h.second_whole },
)

pub ready_at : (shape : Shape) (list : List Need) (k n : ℕ) (clocks : List ClockShape) (need : Need) → IsLaidOut shape → AllByRecursion HasWords list → AllByRecursion (IsCarried shape.clocks) list → k < length list → need ≡ get_or list k need →
    n ≡ variable_count shape.clocks → clocks ≡ shape.clocks → IsNeedSpreadable n clocks need
ready_at shape list k n clocks need laid words carried l is e f =
    let a : HasWords need = subst HasWords (sym is) (All-from_recursion HasWords list words k need l) in
    let b : IsCarried shape.clocks need = subst (IsCarried shape.clocks) (sym is) (All-from_recursion (IsCarried shape.clocks) list carried k need l) in
    subst (λ (m : ℕ). IsNeedSpreadable m clocks need) (sym e) (subst (λ (c : List ClockShape). IsNeedSpreadable (variable_count shape.clocks) c need) (sym f) (need_spreads shape need laid a b))
