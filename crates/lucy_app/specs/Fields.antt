-- The fields of a text, which blanks part.
use Rattle.std.specs.Prelude.{ℕ, not, ◌==◌, List, length}
use Rattle.std.specs.List.{slice_split, filter}
use Rattle.lucy_fields.specs.Fields.{is_blank}

-- the pieces between blanks, but for the empty ones
abbrev pub field_texts : List ℕ → List (List ℕ)
field_texts text = filter (λ piece. not (length piece == 0)) (slice_split is_blank text)
