-- The output lines of a run: by instant from 1 on, and within an instant in the order of the outputs. The lists have the values
-- of the outputs: the first is of the first output, and so on.
use Rattle.std.specs.Prelude.{ℕ, suc, zero, ◌+◌, ◌-◌, ℤ, List, [], ◌∷◌, ◌++◌, Option, Some, None, slice_get, if◌then◌else◌}
use Rattle.lucy_word.specs.Bits.{bit_at, ones_to}
use Rattle.lucy_lines.specs.Written.{line_of}
use Rattle.lucy_lines.specs.declared.output.OutputSpec.{OutputSpec}

-- the line of an output's value, where there is one
abbrev pub line_with_value : OutputSpec → Option ℤ → List ℕ
line_with_value o None = []
line_with_value o (Some value) = line_of o.name o.holds value

-- the value of an output at an instant: where its word has a one, the item with the number of that one, both counted from 1
abbrev pub value_at : OutputSpec → (items : List ℤ) → (instant : ℕ) → Option ℤ
value_at o items t = if bit_at o.word t then slice_get items (ones_to o.word t - 1) else None

-- the lines of an instant; an output without a list has none
unfoldable pub instant_text : List OutputSpec → (lists : List (List ℤ)) → (instant : ℕ) → List ℕ
instant_text [] lists t = []
instant_text (o ∷ outputs) [] t = []
instant_text (o ∷ outputs) (items ∷ lists) t = line_with_value o (value_at o items t) ++ instant_text outputs lists t

-- the lines of so many instants
unfoldable pub output_text : List OutputSpec → (lists : List (List ℤ)) → (instants : ℕ) → List ℕ
output_text outputs lists zero = []
output_text outputs lists (suc t) = output_text outputs lists t ++ instant_text outputs lists (t + 1)

-- the value of an output at an instant, in a list that lacks the values of so many instants: the item with the number of the
-- instant's one among the ones past those instants
abbrev pub value_after : OutputSpec → (items : List ℤ) → (before instant : ℕ) → Option ℤ
value_after o items before t = if bit_at o.word t then slice_get items (ones_to o.word t - 1 - ones_to o.word before) else None

-- the lines of an instant, by lists that lack the values of so many instants
unfoldable pub instant_after : List OutputSpec → (lists : List (List ℤ)) → (before instant : ℕ) → List ℕ
instant_after [] lists before t = []
instant_after (o ∷ outputs) [] before t = []
instant_after (o ∷ outputs) (items ∷ lists) before t = line_with_value o (value_after o items before t) ++ instant_after outputs lists before t

-- the lines of so many instants more
unfoldable pub more_lines : List OutputSpec → (lists : List (List ℤ)) → (before more : ℕ) → List ℕ
more_lines outputs lists before zero = []
more_lines outputs lists before (suc n) = more_lines outputs lists before n ++ instant_after outputs lists before (before + (n + 1))

-- the lines of the instants after so many, up to an instant
abbrev pub lines_after : List OutputSpec → (lists : List (List ℤ)) → (before instants : ℕ) → List ℕ
lines_after outputs lists before instants = more_lines outputs lists before (instants - before)
