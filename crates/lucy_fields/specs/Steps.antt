-- Where a reader of fields stands.
use Rattle.std.specs.Prelude.{ℕ, ◌≡◌, true, false, List, [], ◌∷◌}
use Rattle.std.specs.List.{All}
use Rattle.lucy_fields.specs.Fields.{is_blank}

-- nothing, or a blank first
abbrev pub BeginsGap : List ℕ → Type 0
BeginsGap [] = Unit {0}
BeginsGap (c ∷ text) = is_blank c ≡ true

-- nothing, or a byte first that is no blank
abbrev pub BeginsField : List ℕ → Type 0
BeginsField [] = Unit {0}
BeginsField (c ∷ text) = is_blank c ≡ false

-- no byte is a blank
abbrev pub IsFull : List ℕ → Type 0
IsFull field = All (λ c. is_blank c ≡ false) field
