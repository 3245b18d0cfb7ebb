-- Lines as they are printed.
use Rattle.std.specs.Prelude.{ℕ, zero, ℤ, pos, List, [], ◌∷◌, ◌++◌, codes}
use Rattle.std.specs.Fmt.{signed_decimal}
use Rattle.lucy_host.specs.declared.data_type.DataType.{DataType}
use Rattle.lucy_host.specs.declared.data_type.DataType.TheVariants.{Int, Bool}

-- a value of the type in print; each number but 0 is true
abbrev pub value_text : DataType → ℤ → List ℕ
value_text Int v = signed_decimal v
value_text Bool (pos zero) = codes "false"
value_text Bool v = codes "true"

-- a name, a space, a text and a line feed
abbrev pub line_with : (name text : List ℕ) → List ℕ
line_with name text = name ++ 32 ∷ (text ++ 10 ∷ [])

-- the line of a value: its name, a space, the value and a line feed
abbrev pub line_of : List ℕ → DataType → ℤ → List ℕ
line_of name holds v = line_with name (value_text holds v)

-- lines in room for so many bytes
pub record LinesState : Type 0 where
  pub bytes : List ℕ
  pub room : ℕ
