-- The fields of a text, which blanks part.
use Rattle.std.specs.Prelude.{ℕ, ◌+◌, Bool, true, false, ◌||◌, ◌==◌, List, [], ◌∷◌, length}
use Rattle.std.specs.List.{slice_split, filter}

-- a space, a tab, CR or LF
abbrev pub is_blank : ℕ → Bool
is_blank byte = byte == 32 || byte == 9 || byte == 13 || byte == 10

-- pieces that stand behind one another, with a byte between two, each with the offset of its first byte
abbrev pub placed : ℕ → List (List ℕ) → List (ℕ × List ℕ)
placed at [] = []
placed at (piece ∷ pieces) = (at, piece) ∷ placed (at + length piece + 1) pieces

-- whether the piece has a byte
abbrev pub is_field : ℕ × List ℕ → Bool
is_field (at, []) = false
is_field (at, c ∷ piece) = true

-- the pieces between blanks, but for the empty ones, of a text that begins at an offset
unfoldable pub fields_from : ℕ → List ℕ → List (ℕ × List ℕ)
fields_from at text = filter is_field (placed at (slice_split is_blank text))

-- the fields of a text, each with the offset of its first byte
abbrev pub fields : List ℕ → List (ℕ × List ℕ)
fields text = fields_from 0 text
