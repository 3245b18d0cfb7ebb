-- A number of the command line lies between its limits.
use Rattle.std.proofs.Common.{ℕ, ◌≤◌, ◌≡◌, Bool, true, false, List, [], ◌∷◌, length, Some, None, refl}
use Rattle.std.specs.Prelude.{◌&&◌, nat_le, if◌then◌else◌, IfSome}
use Rattle.std.specs.Str.{all_ascii_digits}
use Rattle.std.specs.Str.Parse.{digits_value}
use Rattle.std.proofs.lemmas.Bool.{and_parts, leb-true}
use Rattle.lucy_fields.specs.Numbers.{is_number, number_of}

-- what is told only where this holds
told_so : (P : ℕ → Type 0) (t : Bool) (v : ℕ) → (t ≡ true → P v) → IfSome (if t then Some v else None) P
told_so P true v h = h refl
told_so P false v h = tt

-- digits that are a number
between : (digits least most b : ℕ) (bytes : List ℕ) → is_number digits least most (b ∷ bytes) ≡ true →
    (least ≤ digits_value 10 (b ∷ bytes)) × (digits_value 10 (b ∷ bytes) ≤ most)
between digits least most b bytes e =
    let v : ℕ = digits_value 10 (b ∷ bytes) in
    let few = and_parts (nat_le (length (b ∷ bytes)) digits) (all_ascii_digits (b ∷ bytes) && (nat_le least v && nat_le v most)) e in
    let spelled = and_parts (all_ascii_digits (b ∷ bytes)) (nat_le least v && nat_le v most) few.1 in
    let within = and_parts (nat_le least v) (nat_le v most) spelled.1 in
    (leb-true least v within.0, leb-true v most within.1)

pub number_least : (digits least most : ℕ) (bytes : List ℕ) → IfSome (number_of digits least most bytes) (λ n. least ≤ n)
number_least digits least most [] = tt
number_least digits least most (b ∷ bytes) =
    told_so (λ n. least ≤ n) (is_number digits least most (b ∷ bytes)) (digits_value 10 (b ∷ bytes)) (λ e. (between digits least most b bytes e).0)

pub number_most : (digits least most : ℕ) (bytes : List ℕ) → IfSome (number_of digits least most bytes) (λ n. n ≤ most)
number_most digits least most [] = tt
number_most digits least most (b ∷ bytes) =
    told_so (λ n. n ≤ most) (is_number digits least most (b ∷ bytes)) (digits_value 10 (b ∷ bytes)) (λ e. (between digits least most b bytes e).1)
