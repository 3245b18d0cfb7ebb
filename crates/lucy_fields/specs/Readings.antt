-- What the fields of a text are read as.
use Rattle.std.specs.Prelude.{ℕ, ◌≡◌, List, ◌∷◌, ◌++◌, map, Option, Result, Ok, Err, ok_or}
use Rattle.lucy_fields.specs.Fields.{fields}

-- what a field is read as: its value, or its offset where it has none
abbrev pub reading : {A : Type 0} → (value : List ℕ → Option A) → ℕ × List ℕ → Result A ℕ
reading value (at, field) = ok_or (value field) at

-- what the fields of a text are read as, in order
abbrev pub readings : {A : Type 0} → (value : List ℕ → Option A) → (text : List ℕ) → List (Result A ℕ)
readings value text = map (reading value) (fields text)

-- every field has a value, and these are the values
abbrev pub AreRead : {A : Type 0} → List (Result A ℕ) → List A → Type 0
AreRead readings values = readings ≡ map (λ v. Ok v) values

-- a field has no value; the first such begins at this offset
abbrev pub IsFirstBad : {A : Type 0} → List (Result A ℕ) → (place : ℕ) → Type 0
IsFirstBad {A} readings place = (front : List A) × (rest : List (Result A ℕ)) × (readings ≡ map (λ v. Ok v) front ++ Err place ∷ rest)
