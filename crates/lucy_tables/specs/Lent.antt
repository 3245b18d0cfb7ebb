-- What the words of a call come to, as its parts hand it on.
use Rattle.std.specs.Prelude.{ℕ, ◌≡◌, List, ◌++◌, map, string_bytes, Result, Ok, Err}
use Rattle.lucy_host.specs.Operators.{Operator}
use Rattle.lucy_text.specs.Shelf.{SeenShelf}
use Rattle.lucy_app.specs.Operators.{program_operators}
use Rattle.lucy_tables.specs.Ends.{Begins}
use Rattle.lucy_tables.specs.Seen.{loading_answer}
use Rattle.lucy_tables.specs.declared.refusal.Refusal.{Refusal}
use Rattle.lucy_tables.specs.declared.lending.Lent.{Lent}

-- these are the operators of the program and of its tables, and the words behind; or the words are refused so
abbrev pub IsLent : (words : List (List ℕ)) → (before after : SeenShelf) → Result Lent Refusal → Type 0
IsLent words before after (Ok lent) =
    (more : List Operator) × Begins program_operators words before after (Ok (more, map string_bytes lent.rest.now))
    × (lent.ops ≡ program_operators ++ more) × (lent.kinds ≡ lent.ops)
IsLent words before after (Err e) = Begins program_operators words before after (Err (loading_answer e))
