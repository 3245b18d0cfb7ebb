-- Lists of one operand, of two, and of three or more.
use Rattle.std.proofs.Common.{◌≡◌, ◌<◌, ◌≤◌, List, [], ◌∷◌, length, drop, get_or, ap, sym, ◌∙◌, arith}

-- a list of one entry
pub only_one : {A : Type 0} (xs : List A) (a : A) → 1 ≤ length xs → length xs < 2 → a ≡ get_or xs 0 a → xs ≡ a ∷ []
only_one [] a low high e = absurd (omega (arith, low))
only_one (x ∷ []) a low high e = ap (λ u. u ∷ []) (sym e)
only_one (x ∷ y ∷ xs) a low high e = absurd (omega (arith, high))

-- a list of two entries, and one of three or more
pub only_two : {A : Type 0} (xs : List A) (a b : A) → 2 ≤ length xs → length xs < 3 → a ≡ get_or xs 0 a → b ≡ get_or xs 1 b → xs ≡ a ∷ b ∷ []
only_two [] a b low high e f = absurd (omega (arith, low))
only_two (x ∷ []) a b low high e f = absurd (omega (arith, low))
only_two (x ∷ y ∷ []) a b low high e f = ap (λ u. u ∷ y ∷ []) (sym e) ∙ ap (λ u. a ∷ u ∷ []) (sym f)
only_two (x ∷ y ∷ z ∷ xs) a b low high e f = absurd (omega (arith, high))

pub first_three : {A : Type 0} (xs : List A) (a b c : A) → 3 ≤ length xs → a ≡ get_or xs 0 a → b ≡ get_or xs 1 b → c ≡ get_or xs 2 c → xs ≡ a ∷ b ∷ c ∷ drop 3 xs
first_three [] a b c low e f g = absurd (omega (arith, low))
first_three (x ∷ []) a b c low e f g = absurd (omega (arith, low))
first_three (x ∷ y ∷ []) a b c low e f g = absurd (omega (arith, low))
first_three (x ∷ y ∷ z ∷ xs) a b c low e f g = ap (λ u. u ∷ y ∷ z ∷ xs) (sym e) ∙ ap (λ u. a ∷ u ∷ z ∷ xs) (sym f) ∙ ap (λ u. a ∷ b ∷ u ∷ xs) (sym g)
