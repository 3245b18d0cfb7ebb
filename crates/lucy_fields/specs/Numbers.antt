-- Numbers in decimal digits.
use Rattle.std.specs.Prelude.{ℕ, ℤ, pos, neg_ℤ, ◌-◌, ◌^◌, Bool, false, ◌&&◌, nat_le, List, [], ◌∷◌, length, drop, Option, Some, None, if◌then◌else◌}
use Rattle.std.specs.Option.{option_map}
use Rattle.std.specs.Str.{all_ascii_digits}
use Rattle.std.specs.Str.Parse.{digits_value, starts_with_minus}

-- decimal digits, one at least and at most so many, of a number between these
abbrev pub is_number : (digits least most : ℕ) → List ℕ → Bool
is_number digits least most [] = false
is_number digits least most (digit ∷ more) =
    nat_le (length (digit ∷ more)) digits && (all_ascii_digits (digit ∷ more)
    && (nat_le least (digits_value 10 (digit ∷ more)) && nat_le (digits_value 10 (digit ∷ more)) most))

-- the number that bytes are, where they are one
abbrev pub number_of : (digits least most : ℕ) → (bytes : List ℕ) → Option ℕ
number_of digits least most bytes = if is_number digits least most bytes then Some (digits_value 10 bytes) else None

-- the number that digits are behind a `-`, from the least of 64 bits on
abbrev pub negative_of : (digits : List ℕ) → Option ℤ
negative_of digits = option_map (λ n. neg_ℤ (pos n)) (number_of (length digits) 0 (2 ^ 63) digits)

-- the number that digits are, up to the greatest of 64 bits
abbrev pub positive_of : (digits : List ℕ) → Option ℤ
positive_of digits = option_map (λ n. pos n) (number_of (length digits) 0 (2 ^ 63 - 1) digits)

-- the number of 64 bits that bytes are, where they are one: an optional `-`, and digits
abbrev pub int_of : (bytes : List ℕ) → Option ℤ
int_of bytes = if starts_with_minus bytes then negative_of (drop 1 bytes) else positive_of bytes
