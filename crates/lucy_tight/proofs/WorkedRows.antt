-- A worked row: `o = merge (10) x (buffer x)` in a shape of period 2. The least size of its buffer is 1, as a cycle shows.
use Rattle.std.proofs.Common.{◌≡◌, ℕ, ◌+◌, ◌<◌, ℤ, pos, negsuc, true, false, List, [], ◌∷◌, zero, suc, length, get_or, sym, subst, refl, arith}
use Rattle.std.specs.List.{AllByRecursion}
use Rattle.std.proofs.lemmas.Int.{ints}
use Rattle.lucy_word.specs.Bits.{bit_at, ones_to}
use Rattle.lucy_need.specs.Meeting.{alone, term}
use Rattle.lucy_need.specs.declared.need.Need.TheVariants.{Equal, Adapt}
use Rattle.lucy_need.specs.declared.need.Needs.{Needs}
use Rattle.lucy_solve.specs.declared.diffs.Diff.{Diff}
use Rattle.lucy_solve.specs.System.{Solves, HasNoSolution, IsNegativeCycle, diff_at}
use Rattle.lucy_shape.specs.declared.shape.Shape.{Shape}
use Rattle.lucy_shape.specs.Rows.{HoldsIn}
use Rattle.lucy_shape.specs.Sized.{sized_inequalities, sized_system}
use Rattle.lucy_shape.proofs.Meeting.{each_from}
use Rattle.lucy_tight.specs.Least.{IsLeast}

-- of x, o and the buffer, whose numbers are 1 to 3
abbrev needs : Needs
needs = record {
  clocks = 4;
  list = Equal (alone 1) (term 2 (record { prefix = []; period = true ∷ false ∷ [] })) ∷ Equal (alone 3) (term 2 (record { prefix = []; period = false ∷ true ∷ [] }))
      ∷ Adapt (alone 1) (alone 3) ∷ [];
}

abbrev shape : Shape
shape = record {
  period = 2;
  clocks = record { used = false; lead = 0; ones = 0; first = 0 } ∷ record { used = true; lead = 0; ones = 1; first = 1 } ∷ record { used = true; lead = 0; ones = 2; first = 2 }
      ∷ record { used = true; lead = 0; ones = 1; first = 4 } ∷ [];
}

abbrev diff : ℕ → ℕ → ℤ → Diff
diff l r m = record { left = l; right = r; most = m }

-- those of x, of o and of the buffer, the three needs, and the row of the size
abbrev rows : ℤ → List Diff
rows last = diff 0 1 (negsuc 0) ∷ diff 1 1 (pos 1) ∷ diff 0 2 (negsuc 0) ∷ diff 0 3 (negsuc 0) ∷ diff 2 3 (negsuc 0) ∷ diff 3 2 (pos 1) ∷ diff 0 4 (negsuc 0) ∷ diff 4 4 (pos 1)
    ∷ diff 1 2 (pos 0) ∷ diff 2 1 (pos 0) ∷ diff 4 3 (pos 0) ∷ diff 3 4 (pos 0) ∷ diff 1 4 (pos 0) ∷ diff 4 1 last ∷ []

rows_of_none : sized_inequalities needs shape 1 3 0 ≡ rows (pos 0)
unfolding ones_to bit_at
rows_of_none = refl

rows_of_one : sized_inequalities needs shape 1 3 1 ≡ rows (pos 2)
unfolding ones_to bit_at
rows_of_one = refl

-- x and the buffer have a one each, and o has two
abbrev places : List ℤ
places = pos 0 ∷ pos 1 ∷ pos 1 ∷ pos 2 ∷ pos 2 ∷ []

hold : AllByRecursion (HoldsIn places) (rows (pos 2))
hold = (
  omega (arith, ints),
  (
    omega (arith, ints),
    (
      omega (arith, ints),
      (
        omega (arith, ints),
        (
          omega (arith, ints),
          (
            omega (arith, ints),
            (
              omega (arith, ints),
              (
                omega (arith, ints),
                (omega (arith, ints), (omega (arith, ints), (omega (arith, ints), (omega (arith, ints), (omega (arith, ints), (omega (arith, ints), tt)))))),
              ),
            ),
          ),
        ),
      ),
    ),
  ),
)

one_solves : Solves (sized_system needs shape 1 3 1) places
one_solves = record {
  size = refl;
  origin = refl;
  each = each_from places (sized_inequalities needs shape 1 3 1) (subst (λ (l : List Diff). AllByRecursion (HoldsIn places) l) (sym rows_of_one) hold);
}

-- x no later than the first of o, that before its second, that no later than the buffer, and that no later than x
abbrev circle : List ℕ
circle = 8 ∷ 4 ∷ 11 ∷ 13 ∷ []

stays_within : (k : ℕ) → k < length circle → get_or circle k 0 < length (rows (pos 0))
stays_within zero h = omega arith
stays_within (suc zero) h = omega arith
stays_within (suc (suc zero)) h = omega arith
stays_within (suc (suc (suc zero))) h = omega arith
stays_within (suc (suc (suc (suc k)))) h = absurd (omega arith)

is_joined : (k : ℕ) → k + 1 < length circle → (diff_at (rows (pos 0)) (get_or circle k 0)).right ≡ (diff_at (rows (pos 0)) (get_or circle (k + 1) 0)).left
is_joined zero h = refl
is_joined (suc zero) h = refl
is_joined (suc (suc zero)) h = refl
is_joined (suc (suc (suc k))) h = absurd (omega arith)

is_closed : (k : ℕ) → k + 1 ≡ length circle → (diff_at (rows (pos 0)) (get_or circle k 0)).right ≡ (diff_at (rows (pos 0)) (get_or circle 0 0)).left
is_closed zero h = absurd (omega arith)
is_closed (suc zero) h = absurd (omega arith)
is_closed (suc (suc zero)) h = absurd (omega arith)
is_closed (suc (suc (suc zero))) h = refl
is_closed (suc (suc (suc (suc k)))) h = absurd (omega arith)

circle_is_negative : IsNegativeCycle (rows (pos 0)) circle
circle_is_negative = record { some = omega arith; few = omega arith; within = stays_within; joined = is_joined; closed = is_closed; negative = omega (arith, ints) }

none_is_too_small : HasNoSolution (sized_system needs shape 1 3 0)
none_is_too_small xs solves =
    let s : Solves (record { count = 5; list = rows (pos 0) }) xs = subst (λ (l : List Diff). Solves (record { count = 5; list = l }) xs) rows_of_none solves in
    let a = s.each 8 (omega arith) in
    let b = s.each 4 (omega arith) in
    let c = s.each 11 (omega arith) in
    let d = s.each 13 (omega arith) in
    omega (arith, ints)

one_is_least : IsLeast needs shape 1 3 1
one_is_least = record {
  solved = (places, one_solves);
  none = λ size less. subst (λ (n : ℕ). HasNoSolution (sized_system needs shape 1 3 n)) (let e : 0 ≡ size = omega arith in e) none_is_too_small;
}
