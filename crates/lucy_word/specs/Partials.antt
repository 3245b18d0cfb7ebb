-- The text of a form read byte by byte: what was read is a front of a form, and in the end its items.
use Rattle.std.specs.Prelude.{ℕ, ◌==◌, Bool, List, [], ◌∷◌, ◌++◌, Option, Some, None, if◌then◌else◌}
use Rattle.lucy_word.specs.Bits.{Bits}
use Rattle.lucy_word.specs.Items.{WordItem, alone, counted, items_bits}
use Rattle.lucy_word.specs.Spelling.{is_digit}
use Rattle.lucy_word.specs.Stages.{is_decimal}

-- what was read behind whole items: nothing, a digit, a digit and its `{`, or some digits of its count besides
pub data At : Type 0 where
  item : At
  digit : Bool → At
  brace : Bool → At
  count : Bool → List ℕ → At

-- what was read: items, behind those of the prefix where its `(` was read; or all
pub data Partial : Type 0 where
  going : Option (List WordItem) → List WordItem → At → Partial
  whole : List WordItem → List WordItem → Partial

-- its `(` is read behind the items of a prefix, and its `)` behind those of a period
abbrev pub opened : Option (List WordItem) → List WordItem → Option Partial
opened None is = Some (going (Some is) [] item)
opened (Some ps) is = None

-- its `)` is read behind the items of a period
abbrev pub shut : Option (List WordItem) → List WordItem → Option Partial
shut None is = None
shut (Some ps) [] = None
shut (Some ps) (j ∷ js) = Some (whole ps (j ∷ js))

-- behind whole items, a `(` or a `)` is read
abbrev pub ends : Option (List WordItem) → List WordItem → ℕ → Option Partial
ends b is c = if c == 40 then opened b is else if c == 41 then shut b is else None

-- one byte more is read
abbrev pub step : Partial → ℕ → Option Partial
step (going b is item) c = if is_digit c then Some (going b is (digit (c == 49))) else ends b is c
step (going b is (digit x)) c =
    if is_digit c then Some (going b (is ++ alone x ∷ []) (digit (c == 49)))
    else if c == 123 then Some (going b is (brace x))
    else ends b (is ++ alone x ∷ []) c
step (going b is (brace x)) c = if is_decimal c then Some (going b is (count x (c ∷ []))) else None
step (going b is (count x ds)) c =
    if is_decimal c then Some (going b is (count x (ds ++ c ∷ [])))
    else if c == 125 then Some (going b (is ++ counted x ds ∷ []) item)
    else None
step (whole ps is) c = None

-- bytes are read
abbrev pub run : Option Partial → List ℕ → Option Partial
run None text = None
run (Some p) [] = Some p
run (Some p) (c ∷ text) = run (step p c) text

-- before the first byte
abbrev pub start : Partial
start = going None [] item

-- the bits of what was read to its end
abbrev pub read_bits : Option Partial → Bits
read_bits (Some (whole ps is)) = record { prefix = items_bits ps; period = items_bits is }
read_bits (Some (going b is at)) = record { prefix = []; period = [] }
read_bits None = record { prefix = []; period = [] }

-- the bits that a text stands for, none where it is that of no form
unfoldable pub expanded : List ℕ → Bits
expanded text = read_bits (run (Some start) text)
