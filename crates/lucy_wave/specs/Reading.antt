-- What a value change dump says (IEEE 1364), by its lines.
use Rattle.std.specs.Prelude.{ℕ, suc, zero, ◌+◌, ◌<◌, ◌≤◌, ◌^◌, ◌≡◌, ◌≢◌, ◌⊎◌, ℤ, Bool, true, false, List, [], ◌∷◌, ◌++◌, Option, Some, None, slice_get, nat_eq, filter}
use Rattle.std.specs.Int.{w64, cast_signed}
use Rattle.std.specs.List.{AllByRecursion}
use Rattle.std.specs.Fmt.{decimal}
use Rattle.std.specs.Str.Parse.{IsNumeral, digits_value}
use Rattle.lucy_lines.specs.declared.output.OutputSpec.{OutputSpec}
use Rattle.lucy_lines.specs.Outputs.{line_with_value}
use Rattle.lucy_wave.specs.Dumps.{declaration, time_line, text_of}
use Rattle.lucy_wave.specs.Names.{there_name}

-- these are the lines of a text: each ends with a line feed, and has none before
abbrev pub AreLines : List (List ℕ) → (text : List ℕ) → Type 0
AreLines lines text = (text ≡ text_of lines) × AllByRecursion (λ line. AllByRecursion (λ byte. byte ≢ 10) line) lines

-- a line declares the variable of this code under a name
abbrev pub IsDeclared : List (List ℕ) → (is_wide : Bool) → (code name : List ℕ) → Type 0
IsDeclared lines is_wide code name = (k : ℕ) × (slice_get lines k ≡ Some (declaration is_wide code name))

-- the line sets the time
abbrev pub IsTime : (line : List ℕ) → (step : ℕ) → Type 0
IsTime line t = (line ≡ 35 ∷ decimal t) × (t < 2 ^ 64)

-- the line begins with `#`, as one that sets the time does
abbrev pub sets_time : (line : List ℕ) → Bool
sets_time [] = false
sets_time (byte ∷ rest) = nat_eq byte 35

-- the lines that set the times from 1 to a step
abbrev pub time_lines : (step : ℕ) → List (List ℕ)
time_lines zero = []
time_lines (suc t) = time_lines t ++ time_line (suc t) ∷ []

-- the dump has so many steps: its lines that set the time are those of the steps, in order, and one that ends the last
abbrev pub HasSteps : (lines : List (List ℕ)) → (count : ℕ) → Type 0
HasSteps lines count = filter sets_time lines ≡ time_lines (suc count)

-- the line gives the variable of a code this value: one digit stands before the code, or `b`, binary digits and a blank
abbrev pub IsChange : (line code : List ℕ) → (value : ℕ) → Type 0
IsChange line code value =
    ((line ≡ 48 ∷ code) × (value ≡ 0)) ⊎ ((line ≡ 49 ∷ code) × (value ≡ 1))
    ⊎ ((ds : List ℕ) × (line ≡ 98 ∷ (ds ++ 32 ∷ code)) × IsNumeral 2 ds × (value ≡ digits_value 2 ds))

-- the value of a variable at a step is that of the last change up to it, before a time past the step; before the lines it has this one
abbrev pub ReadsFrom : (code : List ℕ) → (step : ℕ) → (held : Option ℕ) → List (List ℕ) → (value : Option ℕ) → Type 0
ReadsFrom code t held [] value = value ≡ held
ReadsFrom code t held (line ∷ lines) value =
    ((u : ℕ) × IsTime line u × (t < u) × (value ≡ held))
    ⊎ ((new : ℕ) × IsChange line code new × ReadsFrom code t (Some new) lines value)
    ⊎ (((u : ℕ) → IsTime line u → u ≤ t) × ((new : ℕ) → IsChange line code new → ⊥) × ReadsFrom code t held lines value)

-- the dump says that the variable of a name has this value at a step
abbrev pub HasValue : List (List ℕ) → (is_wide : Bool) → (name : List ℕ) → (step value : ℕ) → Type 0
HasValue lines is_wide name t value = (code : List ℕ) × IsDeclared lines is_wide code name × ReadsFrom code t None lines (Some value)

-- it says of the stream of a name which item comes at a step, if one does: its number is read in two's complement
abbrev pub Says : List (List ℕ) → (name : List ℕ) → (step : ℕ) → Option ℤ → Type 0
Says lines name t None = HasValue lines false (there_name name) t 0
Says lines name t (Some item) = HasValue lines false (there_name name) t 1 × (value : ℕ) × HasValue lines true name t value × (item ≡ cast_signed w64 value)

-- the lines of an instant, by what the dump says of the outputs
abbrev pub SaysInstant : List (List ℕ) → List OutputSpec → (step : ℕ) → (text : List ℕ) → Type 0
SaysInstant lines [] t text = text ≡ []
SaysInstant lines (o ∷ outputs) t text =
    (item : Option ℤ) × (rest : List ℕ) × Says lines o.name t item × SaysInstant lines outputs t rest × (text ≡ line_with_value o item ++ rest)

-- those of so many instants
abbrev pub SaysTo : List (List ℕ) → List OutputSpec → (count : ℕ) → (text : List ℕ) → Type 0
SaysTo lines outputs zero text = text ≡ []
SaysTo lines outputs (suc t) text =
    (front last : List ℕ) × SaysTo lines outputs t front × SaysInstant lines outputs (t + 1) last × (text ≡ front ++ last)

-- a text, read as a dump of so many steps, says that these are the output lines of so many instants
abbrev pub SaysOutput : (text : List ℕ) → List OutputSpec → (count : ℕ) → (output : List ℕ) → Type 0
SaysOutput text outputs count output = (lines : List (List ℕ)) × AreLines lines text × HasSteps lines count × SaysTo lines outputs count output
