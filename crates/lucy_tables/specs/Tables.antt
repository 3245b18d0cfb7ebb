-- What the text of a table is.
use Rattle.std.specs.Prelude.{ℕ, ℤ, ◌<◌, ◌≤◌, ◌≡◌, List, length, take, Result}
use Rattle.lucy_word.specs.Limits.{limit_number}
use Rattle.lucy_word.specs.declared.limit.Limit.TheVariants as limit
use Rattle.lucy_fields.specs.Numbers.{int_of}
use Rattle.lucy_fields.specs.Readings.{readings, AreRead, IsFirstBad}
use Rattle.lucy_tables.specs.declared.error.TableError.{TableError}
use Rattle.lucy_tables.specs.declared.error.TableError.TheVariants.{BadNumber, Limit, OutOfMemory}

-- for each field of a text, in order, the number that it is, or its offset where it is none
abbrev pub numbers_of : (text : List ℕ) → List (Result ℤ ℕ)
numbers_of text = readings int_of text

-- how many items a table may have
abbrev pub most_items : ℕ
most_items = limit_number limit.TableItems

-- a text whose fields are all numbers, these, and no more than a table may have
pub record IsTableText (text : List ℕ) (items : List ℤ) : Type 0 where
  pub read : AreRead (numbers_of text) items
  pub short : length items ≤ most_items

-- why a text is no table: of as many fields as a table may have items this is the first that is no number; or all of these are
-- numbers, and there is one field more
abbrev pub RefusesTable : (text : List ℕ) → TableError → Type 0
RefusesTable text (BadNumber place) = IsFirstBad (take most_items (numbers_of text)) place
RefusesTable text (Limit l) =
    (l ≡ limit.TableItems) × ((items : List ℤ) × AreRead (take most_items (numbers_of text)) items)
    × (most_items < length (numbers_of text))
RefusesTable text OutOfMemory = ⊥
