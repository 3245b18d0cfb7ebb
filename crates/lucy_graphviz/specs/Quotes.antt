-- How a text stands between the quotes of a label in the language of Graphviz: a quote, a backslash and a line feed behind a backslash,
-- and any other byte as it is.
use Rattle.std.specs.Prelude.{ℕ, ◌==◌, Bool, true, false, List, [], ◌∷◌, ◌++◌, Option, Some, None, if◌then◌else◌}
use Rattle.std.specs.List.{flat_map}
use Rattle.std.specs.Option.{option_map}

-- a byte between quotes: 34 is a quote, 92 a backslash, 10 a line feed
abbrev pub byte_in_label : ℕ → List ℕ
byte_in_label byte =
    if byte == 34 then 92 ∷ 34 ∷ []
    else (if byte == 92 then 92 ∷ 92 ∷ []
    else (if byte == 10 then 92 ∷ 110 ∷ []
    else (byte ∷ [])))

-- a text between quotes
abbrev pub in_label : List ℕ → List ℕ
in_label text = flat_map byte_in_label text

-- with both quotes
abbrev pub quoted : List ℕ → List ℕ
quoted text = 34 ∷ (in_label text ++ 34 ∷ [])

-- what a byte behind a backslash stands for
abbrev pub meant : ℕ → ℕ
meant byte = if byte == 110 then 10 else byte

-- a text, and what stands behind its closing quote
pub record Quoted : Type 0 where
  pub text : List ℕ
  pub rest : List ℕ

-- a byte more before it
abbrev pub put_before : ℕ → Quoted → Quoted
put_before byte q = record { text = byte ∷ q.text; rest = q.rest }

-- what is read from behind the opening quote on, up to the closing one, which is the first quote that isn't behind a backslash; behind
-- one is what comes next, where this is said
abbrev pub read_quoted : (behind : Bool) → List ℕ → Option Quoted
read_quoted behind [] = None
read_quoted true (byte ∷ rest) = option_map (put_before (meant byte)) (read_quoted false rest)
read_quoted false (byte ∷ rest) =
    if byte == 34 then Some (record { text = []; rest = rest })
    else (if byte == 92 then read_quoted true rest
    else option_map (put_before byte) (read_quoted false rest))
