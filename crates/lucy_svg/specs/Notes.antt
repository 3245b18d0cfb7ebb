-- What is told of a chronogram: how many instants it has, and when it comes again.
use Rattle.std.specs.Prelude.{ℕ, min, nat_eq, nat_lt, List, ◌++◌, Option, Some, None, codes, if◌then◌else◌}
use Rattle.std.specs.Fmt.{decimal}
use Rattle.lucy_picture.specs.declared.turn.Turn.{Turn}
use Rattle.lucy_picture.specs.Turns.{whole}

-- as many instants as are given, else those up to the end of the second period, but at most 200
abbrev pub shown_of : Option Turn → (instants : Option ℕ) → ℕ
shown_of turn (Some instants) = instants
shown_of None None = 200
shown_of (Some turn) None = min (whole turn) 200

-- when all comes again behind a prefix
abbrev pub later_text : (prefix period : ℕ) → List ℕ
later_text prefix period = decimal prefix ++ (codes " first, then again after " ++ decimal period)

-- when all comes again together
abbrev pub turn_text : Option Turn → List ℕ
turn_text None = codes "no period within the limit Schedule"
turn_text (Some turn) =
    if nat_eq turn.prefix 0 then codes "again after " ++ decimal turn.period
    else later_text turn.prefix turn.period

-- how many instants are shown, where no more are told
abbrev pub all_text : (shown : ℕ) → List ℕ
all_text shown = codes "the first " ++ (decimal shown ++ codes " instants")

-- the same, of those up to the end of the second period where these are more
abbrev pub shown_text : Option Turn → (shown : ℕ) → List ℕ
shown_text None shown = all_text shown
shown_text (Some turn) shown =
    if nat_lt shown (whole turn) then codes "the first " ++ (decimal shown ++ (codes " of " ++ (decimal (whole turn) ++ codes " instants")))
    else all_text shown
