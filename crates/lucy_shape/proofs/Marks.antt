-- The word that is written from positions, bit by bit.
use Rattle.std.proofs.Common.{◌≡◌, ℕ, ◌+◌, ◌-◌, ◌<◌, ◌≤◌, ◌↔◌, Bool, true, false, zero, suc, List, [], ◌∷◌, map, length, get_or, ℤ, pos, ◌≤ℤ◌, inl, inr, sym, ap, ◌∙◌, subst, refl, arith}
use Rattle.std.specs.List.{All, range_with_len}
use Rattle.std.proofs.lemmas.Int.{ints}
use Rattle.std.proofs.lemmas.Bool.{cases_lt, cases_eq}
use Rattle.std.proofs.lemmas.List.Elements.{All-from_get_or}
use Rattle.lucy_word.specs.Bits.{Bits}
use Rattle.lucy_solve.specs.System.{value}
use Rattle.lucy_shape.specs.declared.shape.ClockShape.{ClockShape}
use Rattle.lucy_shape.proofs.PositionWord.{found, finds, climbs, before}
use Rattle.lucy_shape.proofs.RowLaws.{AreRising, rising_positions}
use Rattle.lucy_shape.specs.Marking.{IsBetween, IsAmongFirst, AreMarks}
use Rattle.lucy_shape.specs.Rows.{SolvesClock}
use Rattle.lucy_shape.specs.WordOf.{at_position, positions_of, written_word}

list_is : {A : Type 0} (f : ℕ → A) (a n : ℕ) (xs : List A) (d : A) → length xs ≡ n → ((k : ℕ) → k < n → get_or xs k d ≡ f (a + k)) → xs ≡ map f (range_with_len a n)
list_is f a zero [] d len at = refl
list_is f a zero (x ∷ xs) d len at = absurd (omega arith)
list_is f a (suc n) [] d len at = absurd (omega arith)
list_is f a (suc n) (x ∷ xs) d len at =
    let e : x ≡ f a = at 0 (omega arith) ∙ ap f (let z : a + 0 ≡ a = omega arith in z) in
    let r : xs ≡ map f (range_with_len (a + 1) n) = list_is f (a + 1) n xs d (omega arith) (λ k l. at (suc k) (omega arith) ∙ ap f (let z : a + suc k ≡ a + 1 + k = omega arith in z)) in
    ap (λ y. y ∷ xs) e ∙ ap (λ ys. f a ∷ ys) r

abbrev bits_of : List Bool → List Bool → Bits
bits_of u v = record { prefix = u; period = v }

bool_is : (x y : Bool) → (x ≡ true → y ≡ true) → (y ≡ true → x ≡ true) → x ≡ y
bool_is true true f g = refl
bool_is true false f g = sym (f refl)
bool_is false true f g = g refl
bool_is false false f g = refl

-- positions that stand below a number come before it
module _ (X : ℕ → ℕ) (n q P : ℕ) (none : X 0 ≡ 0) (up : (m : ℕ) → X m < X (m + 1)) (turn : X (n + 1 + q) ≡ X (n + 1) + P) where
  low_bit : (own : List ℤ) (i : ℕ) → length own ≡ n → ((j : ℕ) → j < n → value own j ≡ pos (X (j + 1))) → 0 < i → i < X (n + 1) →
      (IsAmongFirst own (length own) i ↔ at_position X i i ≡ true)
  low_bit own i len at some low = (
    λ a. (let b = a.1 in let e : pos (X (a.0 + 1)) ≡ pos i = sym (at a.0 (omega arith)) ∙ a.2 in
        let c = climbs X up 0 (a.0 + 1) in let d : X (0 + (a.0 + 1)) ≡ X (a.0 + 1) = ap X (omega arith) in
        let f : X (a.0 + 1) ≡ i = omega (arith, ints) in finds X i i (a.0 + 1) (omega arith) f),
    λ t. (let m = found X i i t in
        let e = m.1 in
        let l : m.0 < n + 1 = before X up m.0 (n + 1) (omega arith) in
        let p : 0 < m.0 = elim (cases_eq m.0 0) [ inl z ↦ (let f : X m.0 ≡ X 0 = ap X z in absurd (omega arith)) | inr z ↦ omega arith ] in
        let f : X (m.0 - 1 + 1) ≡ X m.0 = ap X (omega arith) in
        (m.0 - 1, omega arith, at (m.0 - 1) (omega arith) ∙ ap pos (f ∙ e))),
  )

  high_bit : (own : List ℤ) (i : ℕ) → length own ≡ q → ((j : ℕ) → j < q → value own j ≡ pos (X (n + 1 + j))) → X (n + 1) ≤ i → i < X (n + 1) + P →
      (IsAmongFirst own (length own) i ↔ at_position X i i ≡ true)
  high_bit own i len at some low = (
    λ a. (let b = a.1 in let e : pos (X (n + 1 + a.0)) ≡ pos i = sym (at a.0 (omega arith)) ∙ a.2 in
        let c = climbs X up 0 (n + 1 + a.0) in let d : X (0 + (n + 1 + a.0)) ≡ X (n + 1 + a.0) = ap X (omega arith) in
        let f : X (n + 1 + a.0) ≡ i = omega (arith, ints) in finds X i i (n + 1 + a.0) (omega arith) f),
    λ t. (let m = found X i i t in
        let e = m.1 in
        let l : m.0 < n + 1 + q = before X up m.0 (n + 1 + q) (omega arith) in
        let k : n < m.0 = elim (cases_lt n m.0) [
          | inl z ↦ z
          | inr z ↦
              (let c = climbs X up m.0 (n + 1 - m.0) in let d : X (m.0 + (n + 1 - m.0)) ≡ X (n + 1) = ap X (omega arith) in absurd (omega arith))
        ] in
        let f : X (n + 1 + (m.0 - n - 1)) ≡ X m.0 = ap X (omega arith) in
        (m.0 - n - 1, omega arith, at (m.0 - n - 1) (omega arith) ∙ ap pos (f ∙ e))),
  )

pub written_is : (P : ℕ) (c : ClockShape) (xs low high : List ℤ) (prefix period : List Bool) → 0 < c.ones → AreRising P c xs →
    length low ≡ c.lead → ((j : ℕ) → j < c.lead → value low j ≡ value xs (c.first + j)) → length high ≡ c.ones → ((j : ℕ) → j < c.ones → value high j ≡ value xs (c.first + c.lead + j)) →
    length prefix ≡ positions_of P c xs (c.lead + 1) - 1 → length period ≡ P → AreMarks 1 low prefix → AreMarks (positions_of P c xs (c.lead + 1)) high period →
    written_word P c xs ≡ record { prefix = prefix; period = period }
written_is P c xs low high prefix period some r len_low at_low len_high at_high len_prefix len_period marks_low marks_high =
    let X = positions_of P c xs in
    let n = c.lead in
    let q = c.ones in
    let here : ℕ → Bool = λ i. at_position X i i in
    let turn : X (n + 1 + q) ≡ X (n + 1) + P = r.fits (n + 1) (omega arith) in
    let first : 0 < X (n + 1) = (let a = climbs X r.up 0 (n + 1) in let b : X (0 + (n + 1)) ≡ X (n + 1) = ap X (omega arith) in omega arith) in
    let xl : (j : ℕ) → j < n → value low j ≡ pos (X (j + 1)) = λ j l.
    (let a = r.at (j + 1) (omega arith) (omega arith) in at_low j l ∙ ap (value xs) (let e : c.first + j ≡ c.first + (j + 1) - 1 = omega arith in e) ∙ a) in
    let xh : (j : ℕ) → j < q → value high j ≡ pos (X (n + 1 + j)) = λ j l.
    (let a = r.at (n + 1 + j) (omega arith) (omega arith) in at_high j l ∙ ap (value xs) (let e : c.first + n + j ≡ c.first + (n + 1 + j) - 1 = omega arith in e) ∙ a) in
    let ep : prefix ≡ map here (range_with_len 1 (X (n + 1) - 1)) = list_is here 1 (X (n + 1) - 1) prefix false len_prefix (λ k l.
    (let m = marks_low k (omega arith) in let b = low_bit X n q P r.none r.up turn low (1 + k) len_low xl (omega arith) (omega arith) in
    bool_is (get_or prefix k false) (here (1 + k)) (λ t. b.0 (m.0 t)) (λ t. m.1 (b.1 t)))) in
    let et : period ≡ map here (range_with_len (X (n + 1)) P) = list_is here (X (n + 1)) P period false len_period (λ k l.
    (let m = marks_high k (omega arith) in let b = high_bit X n q P r.none r.up turn high (X (n + 1) + k) len_high xh (omega arith) (omega arith) in
    bool_is (get_or period k false) (here (X (n + 1) + k)) (λ t. b.0 (m.0 t)) (λ t. m.1 (b.1 t)))) in
    sym (ap (λ (u : List Bool). bits_of u period) ep ∙ ap (λ (v : List Bool). bits_of (map here (range_with_len 1 (X (n + 1) - 1))) v) et)

-- the numbers of a clock's variables, as they are cut out of all
pub record AreParts (P : ℕ) (c : ClockShape) (xs low high : List ℤ) : Type 0 where
  pub some : 0 < c.ones
  pub rising : AreRising P c xs
  pub len_low : length low ≡ c.lead
  pub at_low : (j : ℕ) → j < c.lead → value low j ≡ value xs (c.first + j)
  pub len_high : length high ≡ c.ones
  pub at_high : (j : ℕ) → j < c.ones → value high j ≡ value xs (c.first + c.lead + j)

module _ (P : ℕ) (c : ClockShape) (xs low high : List ℤ) (are : AreParts P c xs low high) where
  low_at : (j : ℕ) → j < c.lead → value low j ≡ pos (positions_of P c xs (j + 1))
  low_at j l =
      let a = are.rising.at (j + 1) (omega arith) (omega arith) in
      are.at_low j l ∙ ap (value xs) (let e : c.first + j ≡ c.first + (j + 1) - 1 = omega arith in e) ∙ a

  high_at : (j : ℕ) → j < c.ones → value high j ≡ pos (positions_of P c xs (c.lead + 1 + j))
  high_at j l =
      let a = are.rising.at (c.lead + 1 + j) (omega arith) (omega arith) in
      are.at_high j l ∙ ap (value xs) (let e : c.first + c.lead + j ≡ c.first + (c.lead + 1 + j) - 1 = omega arith in e) ∙ a

  later : (m d : ℕ) → positions_of P c xs m + d ≤ positions_of P c xs (m + d)
  later m d = climbs (positions_of P c xs) are.rising.up m d

  pub start_some : pos 1 ≤ℤ value high 0
  start_some =
      let a = high_at 0 are.some in
      let b = later 0 (c.lead + 1 + 0) in
      let e : positions_of P c xs (0 + (c.lead + 1 + 0)) ≡ positions_of P c xs (c.lead + 1 + 0) = ap (positions_of P c xs) (omega arith) in
      omega (arith, ints)

  pub start_is : (start : ℕ) → pos start ≡ value high 0 → start ≡ positions_of P c xs (c.lead + 1)
  start_is start h =
      let a = high_at 0 are.some in
      let e : positions_of P c xs (c.lead + 1 + 0) ≡ positions_of P c xs (c.lead + 1) = ap (positions_of P c xs) (omega arith) in
      omega (arith, ints)

  pub low_between : (start : ℕ) → pos start ≡ value high 0 → All (IsBetween 1 (start - 1)) low
  low_between start h = All-from_get_or (IsBetween 1 (start - 1)) low (pos 0) (λ j l.
      let a = low_at j (let e = are.len_low in omega arith) in
      let s = start_is start h in
      let n = are.len_low in
      let b = later 0 (j + 1) in
      let e : positions_of P c xs (0 + (j + 1)) ≡ positions_of P c xs (j + 1) = ap (positions_of P c xs) (omega arith) in
      let d = later (j + 1) (c.lead - j) in
      let f : positions_of P c xs (j + 1 + (c.lead - j)) ≡ positions_of P c xs (c.lead + 1) = ap (positions_of P c xs) (omega arith) in
      (omega (arith, ints), omega (arith, ints)))

  pub high_between : (start : ℕ) → pos start ≡ value high 0 → All (IsBetween start P) high
  high_between start h = All-from_get_or (IsBetween start P) high (pos 0) (λ j l.
      let n = are.len_high in
      let a = high_at j (omega arith) in
      let s = start_is start h in
      let b = later (c.lead + 1) j in
      let d = later (c.lead + 1 + j) (c.ones - j) in
      let f : positions_of P c xs (c.lead + 1 + j + (c.ones - j)) ≡ positions_of P c xs (c.lead + 1 + c.ones) = ap (positions_of P c xs) (omega arith) in
      let g = are.rising.fits (c.lead + 1) (omega arith) in
      (omega (arith, ints), omega (arith, ints)))

  pub period_more : 0 < P
  period_more =
      let d = later (c.lead + 1) c.ones in
      let g = are.rising.fits (c.lead + 1) (omega arith) in
      let s = are.some in
      omega arith

  pub parts_written : (start : ℕ) (prefix period : List Bool) → pos start ≡ value high 0 → length prefix ≡ start - 1 → length period ≡ P → AreMarks 1 low prefix → AreMarks start high period →
      written_word P c xs ≡ record { prefix = prefix; period = period }
  parts_written start prefix period h len_prefix len_period marks_low marks_high =
      let s = start_is start h in
      written_is P c xs low high prefix period are.some are.rising are.len_low are.at_low are.len_high are.at_high (omega arith) len_period marks_low
      (subst (λ (n : ℕ). AreMarks n high period) s marks_high)

pub parts_are : (P : ℕ) (c : ClockShape) (xs low high : List ℤ) → 0 < c.ones → 0 < c.first → SolvesClock P c xs →
    length low ≡ c.lead → ((j : ℕ) → j < c.lead → value low j ≡ value xs (c.first + j)) → length high ≡ c.ones → ((j : ℕ) → j < c.ones → value high j ≡ value xs (c.first + c.lead + j)) → AreParts P c xs low high
parts_are P c xs low high some first solves a b d e = record { some = some; rising = rising_positions P c xs some first solves; len_low = a; at_low = b; len_high = d; at_high = e }
