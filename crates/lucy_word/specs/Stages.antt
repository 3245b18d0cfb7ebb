-- The form of a word's text by its bytes in turn: which byte may stand behind those that were read.
use Rattle.std.specs.Prelude.{ℕ, Bool, true, false, List, [], ◌∷◌, Option, Some, None, if◌then◌else◌, ◌==◌, ◌&&◌, not, nat_le}
use Rattle.lucy_word.specs.Spelling.{is_digit}
use Rattle.lucy_word.specs.declared.form.Stage.{Stage}
use Rattle.lucy_word.specs.declared.form.Stage.TheVariants.{Item, Digit, Brace, Count, Closed}

-- a decimal digit
abbrev pub is_decimal : ℕ → Bool
is_decimal c = nat_le 48 c && nat_le c 57

-- before the first byte
abbrev pub begin : Stage
begin = Item false false

-- a `(` ends the prefix, and a `)` a period with an item
abbrev pub ended : Bool → Bool → ℕ → Option Stage
ended inside some c = if c == 40 && not inside then Some (Item true false) else if c == 41 && inside && some then Some Closed else None

-- behind one byte more
abbrev pub next : Stage → ℕ → Option Stage
next (Item inside some) c = if is_digit c then Some (Digit inside) else ended inside some c
next (Digit inside) c = if is_digit c then Some (Digit inside) else if c == 123 then Some (Brace inside) else ended inside true c
next (Brace inside) c = if is_decimal c then Some (Count inside) else None
next (Count inside) c = if is_decimal c then Some (Count inside) else if c == 125 then Some (Item inside true) else None
next Closed c = None

-- behind bytes
abbrev pub behind : Option Stage → List ℕ → Option Stage
behind None text = None
behind (Some s) [] = Some s
behind (Some s) (c ∷ text) = behind (next s c) text
