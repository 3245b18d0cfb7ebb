-- Folded positions, and the inequality between two of them; numbers that meet the rows of one clock.
use Rattle.std.proofs.Common.{◌≡◌, ℕ, ◌+◌, ◌-◌, ◌*◌, ◌<◌, ◌≤◌, ℤ, pos, negsuc, ◌+ℤ◌, ◌≤ℤ◌, zero, suc, List, inl, inr, sym, ap, ◌∙◌, refl, arith}
use Rattle.std.proofs.lemmas.Int.{ints}
use Rattle.std.proofs.lemmas.Bool.{cases_lt, cases_eq}
use Rattle.std.proofs.lemmas.Nat.{mul-le}
use Rattle.std.proofs.Math.Nat.{div-add-mod, mod-lt}
use Rattle.lucy_solve.specs.System.{value}
use Rattle.lucy_shape.specs.declared.shape.ClockShape.{ClockShape}
use Rattle.lucy_shape.proofs.Indexes.{fits_same, many, continued_fits, continued_rises, at_turn, below}
use Rattle.lucy_shape.proofs.WordOf.{word_law}
use Rattle.lucy_shape.specs.Fitting.{variable_of, HasPositions}
use Rattle.lucy_shape.specs.Index.{Recurs, index_of}
use Rattle.lucy_shape.specs.Laws.{FoldLaw, RowLaw, ClockLaw}
use Rattle.lucy_shape.specs.Rows.{turns_of, folded, SolvesClock}
use Rattle.lucy_shape.specs.WordOf.{word_at, natural, numbers, continued, positions_of}

-- by how many periods a position is folded
pub fold_none : (c : ClockShape) (m : ℕ) → 0 < c.ones → m ≤ c.lead → turns_of c m ≡ 0
fold_none c m some h =
    let e = div-add-mod (m - c.lead - 1) c.ones in
    let z : turns_of c m * c.ones ≡ 0 = omega arith in
    elim (cases_eq (turns_of c m) 0) [
      | inl none ↦ none
      | inr more ↦ absurd (let a : 1 * 1 ≤ turns_of c m * c.ones = mul-le 1 1 (turns_of c m) c.ones (omega arith) some in omega arith)
    ]

-- a position past the lead is folded to one of the first period
pub fold_past : (c : ClockShape) (m : ℕ) → 0 < c.ones → c.lead < m → (c.lead < folded c m) × (folded c m ≤ c.lead + c.ones) × (folded c m + turns_of c m * c.ones ≡ m)
fold_past c m some h =
    let e = div-add-mod (m - c.lead - 1) c.ones in
    let l = mod-lt (m - c.lead - 1) some in
    (omega arith, omega arith, omega arith)

-- and one of the lead is not
pub fold_lead : (c : ClockShape) (m : ℕ) → 0 < c.ones → m ≤ c.lead → folded c m ≡ m
fold_lead c m some h =
    let e : turns_of c m * c.ones ≡ 0 * c.ones = ap (λ t. t * c.ones) (fold_none c m some h) in
    omega arith

pub fold_law : FoldLaw
fold_law c m t some =
    let e = div-add-mod (m - c.lead - 1) c.ones in
    let l = mod-lt (m - c.lead - 1) some in (
      λ h. (let a : turns_of c m * c.ones ≤ t * c.ones = mul-le (turns_of c m) c.ones t c.ones h (omega arith) in omega arith),
      λ h. elim (cases_lt t (turns_of c m)) [
        | inr few ↦ few
        | inl more ↦ absurd (let a : (t + 1) * c.ones ≤ turns_of c m * c.ones = mul-le (t + 1) c.ones (turns_of c m) c.ones (omega arith) (omega arith) in omega arith)
      ],
    )

pub placed : (P : ℕ) (c : ClockShape) (X : ℕ → ℕ) (xs : List ℤ) (m : ℕ) → 0 < c.ones → Recurs X c.lead c.ones P → HasPositions c X xs → 0 < m →
    value xs (variable_of c (folded c m)) +ℤ pos (turns_of c m * P) ≡ pos (X m)
placed P c X xs m some fits h positive =
    elim (cases_lt c.lead m) [
      | inr l ↦
          let e = fold_lead c m some l in
          let a : value xs (variable_of c (folded c m)) ≡ value xs (variable_of c m) = ap (λ k. value xs (variable_of c k)) e in
          let b : turns_of c m * P ≡ 0 * P = ap (λ t. t * P) (fold_none c m some l) in
          let d = h.at m positive (omega arith) in
          omega (arith, ints)
      | inl l ↦
          let e = fold_past c m some l in
          let low = e.0 in
          let d = h.at (folded c m) (omega arith) e.1 in
          let g = many X c.lead c.ones P fits (turns_of c m) (folded c m) low in
          let i : X (folded c m + turns_of c m * c.ones) ≡ X m = ap X e.2 in
          omega (arith, ints)
    ]

pub row_law : RowLaw
row_law P c d X Y xs m k some some' fits fits' h h' a b =
    let x = placed P c X xs m some fits h a in
    let y = placed P d Y xs k some' fits' h' b in
    (λ e. let e' = e in omega (arith, ints), λ e. omega (arith, ints))

natural_is : (z : ℤ) → pos 1 ≤ℤ z → pos (natural z) ≡ z
natural_is (pos n) h = refl
natural_is (negsuc n) h = absurd (omega (arith, ints))

number_is : (P : ℕ) (c : ClockShape) (xs : List ℤ) → 0 < c.first → SolvesClock P c xs → (m : ℕ) → 0 < m → m ≤ c.lead + c.ones → pos (numbers xs c.first m) ≡ value xs (c.first + m - 1)
unfolding numbers
number_is P c xs some h zero a b = absurd (omega arith)
number_is P c xs some h (suc m) a b =
    let e : c.first + suc m - 1 ≡ c.first + m = omega arith in
    let f = ap (value xs) e in
    let g = h.bounds (suc m) a b in
    let o = h.origin in
    natural_is (value xs (c.first + m)) (omega (arith, ints)) ∙ sym f

number_none : (xs : List ℤ) (first : ℕ) → numbers xs first 0 ≡ 0
unfolding numbers
number_none xs first = refl

up_to : (x : ℕ → ℕ) (n d : ℕ) → ((j : ℕ) → j < d → x (n + j) < x (n + j + 1)) → x n ≤ x (n + d)
up_to x n zero h = let a : x (n + 0) ≡ x n = ap x (omega arith) in omega arith
up_to x n (suc d) h =
    let a = up_to x n d (λ j l. h j (omega arith)) in
    let b = h d (omega arith) in
    let c : x (n + suc d) ≡ x (n + d + 1) = ap x (omega arith) in
    omega arith

-- what the positions of a clock are
pub record AreRising (P : ℕ) (c : ClockShape) (xs : List ℤ) : Type 0 where
  pub none : positions_of P c xs 0 ≡ 0
  pub up : (m : ℕ) → positions_of P c xs m < positions_of P c xs (m + 1)
  pub fits : Recurs (positions_of P c xs) c.lead c.ones P
  pub at : (m : ℕ) → 0 < m → m ≤ c.lead + c.ones → value xs (variable_of c m) ≡ pos (positions_of P c xs m)

pub rising_positions : (P : ℕ) (c : ClockShape) (xs : List ℤ) → 0 < c.ones → 0 < c.first → SolvesClock P c xs → AreRising P c xs
rising_positions P c xs some first h =
    let n = c.lead in
    let q = c.ones in
    let x = numbers xs c.first in
    let is = number_is P c xs first h in
    let up : (m : ℕ) → m < n + q → x m < x (m + 1) = λ m l. elim (cases_lt 0 m) [
      | inr z ↦ let zero' : m ≡ 0 = omega arith in
          let a : x m ≡ x 0 = ap x zero' in
          let b = number_none xs c.first in
          let d = is (m + 1) (omega arith) (omega arith) in
          let e = h.bounds (m + 1) (omega arith) (omega arith) in
          let o = h.origin in
          omega (arith, ints)
      | inl s ↦ let a = is m s (omega arith) in
          let b = is (m + 1) (omega arith) (omega arith) in
          let e = h.neighbours m s l in
          omega (arith, ints)
    ] in
    let turn : x (n + q) < x (n + 1) + P =
    let a = is (n + q) (omega arith) (omega arith) in
    let b = is (n + 1) (omega arith) (omega arith) in
    let f = h.period in
    omega (arith, ints) in
    let rises : x (n + 1) ≤ x (n + q) =
    let a = up_to x (n + 1) (q - 1) (λ j l. up (n + 1 + j) (omega arith)) in
    let b : x (n + 1 + (q - 1)) ≡ x (n + q) = ap x (omega arith) in
    omega arith in
    let X = continued x n q P in
    let none : X 0 ≡ 0 = below x n q P 0 (omega arith) ∙ number_none xs c.first in
    record {
      none = none;
      up = continued_rises x n q P some up turn;
      fits = continued_fits x n q P some;
      at = λ m a b.
          let f : X m ≡ x m = elim (cases_lt n m) [
            | inr l ↦ below x n q P m l
            | inl l ↦ let g = at_turn x n q P m 0 (m - n - 1) (omega arith) (omega arith) in
                let i : x (n + 1 + (m - n - 1)) ≡ x m = ap x (omega arith) in omega arith
          ] in
          let g = is m a b in
          omega (arith, ints);
    }

pub clock_law : ClockLaw
clock_law P c xs some first h =
    let r = rising_positions P c xs some first h in
    let X = positions_of P c xs in
    let rises : P ≡ 0 → ⊥ = λ z. (let a = r.up (c.lead + c.ones) in let b = r.fits (c.lead + 1) (omega arith) in
    let d : X (c.lead + 1 + c.ones) ≡ X (c.lead + c.ones + 1) = ap X (omega arith) in
    let e = up_to X (c.lead + 1) (c.ones - 1) (λ j l. r.up (c.lead + 1 + j)) in
    let f : X (c.lead + 1 + (c.ones - 1)) ≡ X (c.lead + c.ones) = ap X (omega arith) in omega arith) in
    let law = word_law X c.lead c.ones P (elim (cases_eq P 0) [ inl z ↦ absurd (rises z) | inr n ↦ omega arith ]) r.none r.up r.fits in (
      word_at X c.lead P,
      law.0,
      fits_same (index_of (word_at X c.lead P)) X c.lead c.ones P law.1 r.fits,
      record { at = λ m a b. let e = law.1 m in let f = r.at m a b in omega (arith, ints) },
    )
