-- A value change dump (IEEE 1364): lines that declare variables, and then, step by step, lines of the values that changed. Steps count from 1.
use Rattle.std.specs.Prelude.{ℕ, suc, zero, ◌+◌, ◌-◌, Bool, true, false, not, ◌||◌, nat_eq, List, [], ◌∷◌, ◌++◌, flat_map, codes, if◌then◌else◌}
use Rattle.std.specs.Fmt.{decimal, digits}

-- a variable: its name, whether it has 64 bits or one, and its value at each step, of 64 bits as an unsigned number
pub record Variable : Type 0 where
  pub name : List ℕ
  pub is_wide : Bool
  pub value : ℕ → ℕ

-- the code of a variable, by its number from 0
abbrev pub code_of : (number : ℕ) → List ℕ
code_of number = codes "v" ++ decimal number

-- the kind of a variable and its number of bits
abbrev pub kind_of : (is_wide : Bool) → List ℕ
kind_of true = codes "integer 64 "
kind_of false = codes "wire 1 "

-- the line that declares a variable
abbrev pub declaration : (is_wide : Bool) → (code name : List ℕ) → List ℕ
declaration is_wide code name = codes "$var " ++ (kind_of is_wide ++ (code ++ (codes " " ++ (name ++ codes " $end"))))

-- those of variables from a number on
abbrev pub declarations : (number : ℕ) → List Variable → List (List ℕ)
declarations number [] = []
declarations number (v ∷ vs) = declaration v.is_wide (code_of number) v.name ∷ declarations (number + 1) vs

-- the line with which a step begins
abbrev pub time_line : (step : ℕ) → List ℕ
time_line t = codes "#" ++ decimal t

-- the digit of a bit
abbrev pub bit_digit : ℕ → ℕ
bit_digit value = if nat_eq value 0 then 48 else 49

-- the line that gives the variable of a code a value: one digit before the code, or binary digits and a blank
abbrev pub change_line : (is_wide : Bool) → (code : List ℕ) → (value : ℕ) → List ℕ
change_line true code value = codes "b" ++ (digits 2 false value ++ (codes " " ++ code))
change_line false code value = bit_digit value ∷ code

-- whether a value is another than a step before; at the first step it counts as changed
abbrev pub is_changed : (value : ℕ → ℕ) → (step : ℕ) → Bool
is_changed value t = nat_eq t 1 || not (nat_eq (value t) (value (t - 1)))

-- the line of a variable at a step, where its value changed
abbrev pub change : (number : ℕ) → Variable → (step : ℕ) → List (List ℕ)
change number v t = if is_changed v.value t then change_line v.is_wide (code_of number) (v.value t) ∷ [] else []

-- those of variables from a number on
abbrev pub changes : (number : ℕ) → List Variable → (step : ℕ) → List (List ℕ)
changes number [] t = []
changes number (v ∷ vs) t = change number v t ++ changes (number + 1) vs t

-- the lines of so many steps
unfoldable pub steps : List Variable → (count : ℕ) → List (List ℕ)
steps vs zero = []
steps vs (suc t) = steps vs t ++ (time_line (suc t) ∷ changes 0 vs (suc t))

-- the lines above the steps: a step is a nanosecond, and the variables stand in one scope
abbrev pub header : (scope : List ℕ) → List Variable → List (List ℕ)
header scope vs =
    codes "$timescale 1 ns $end" ∷ ((codes "$scope module " ++ (scope ++ codes " $end"))
    ∷ (declarations 0 vs ++ (codes "$upscope $end" ∷ (codes "$enddefinitions $end" ∷ []))))

-- a dump of so many steps; the time behind the last one ends it
abbrev pub dump : (scope : List ℕ) → List Variable → (count : ℕ) → List (List ℕ)
dump scope vs t = header scope vs ++ (steps vs t ++ (time_line (suc t) ∷ []))

-- lines, with a line feed behind each
abbrev pub text_of : List (List ℕ) → List ℕ
text_of lines = flat_map (λ line. line ++ codes "\n") lines
