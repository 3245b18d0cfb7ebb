-- What the words behind the name of a command are: operands, and options with their texts, in any order.
use Rattle.std.specs.Prelude.{ℕ, Bool, false, ◌==◌, List, [], ◌∷◌, map, length, Option, Some, None, codes, if◌then◌else◌}
use Rattle.std.specs.List.{before_first, after_first, position_or_len}
use Rattle.std.specs.Option.{option_map, option_and_then}
use Rattle.std.specs.Str.{bytes_eq}
use Rattle.lucy_command.specs.declared.names.Name.{Name}
use Rattle.lucy_command.specs.declared.names.Setting.{Setting}
use Rattle.lucy_command.specs.declared.names.Setting.TheVariants.{Scale, Lead, Instants, Workers, Block}
use Rattle.lucy_command.specs.Names.{allowed}

-- an operand, such as FILE or a number of stages, or an option with its text
pub data Part : Type 0 where
  Operand : (text : List ℕ) → Part
  Given : (setting : Setting) (text : List ℕ) → Part

-- a word that begins with `-` is no operand, unless that is all of it
abbrev pub is_dashed : List ℕ → Bool
is_dashed [] = false
is_dashed (byte ∷ []) = false
is_dashed (byte ∷ (other ∷ more)) = byte == 45

-- what stands before the first such byte of a word, and behind it, where it has one
abbrev pub halves_at : (sign : ℕ) (word : List ℕ) → Option (List ℕ × List ℕ)
halves_at sign word = if position_or_len (λ byte. byte == sign) word == length word then None else Some (before_first (λ byte. byte == sign) word, after_first (λ byte. byte == sign) word)

-- so with the first `=`
abbrev pub halves : (word : List ℕ) → Option (List ℕ × List ℕ)
halves word = halves_at 61 word

-- the parts with one before them
abbrev pub cons : Part → Option (List Part) → Option (List Part)
cons part parts = option_map (λ ps. part ∷ ps) parts

-- an option of the command as one word, `--x=TEXT`, before other parts
abbrev pub joined : Name → (option text : List ℕ) → (behind : Option (List Part)) → Option (List Part)
joined name option text behind = option_and_then (λ setting. cons (Given setting text) behind) (allowed name option)

-- as two, `--x TEXT`
abbrev pub apart : Name → (option : List ℕ) (rest : List (List ℕ)) → (beyond : Option (List Part)) → Option (List Part)
apart name option [] beyond = None
apart name option (text ∷ more) beyond = joined name option text beyond

-- the parts of a word that is an option of the command, as one word or two
abbrev pub option_parts : Name → (word : List ℕ) → Option (List ℕ × List ℕ) → (rest : List (List ℕ)) → (behind beyond : Option (List Part)) → Option (List Part)
option_parts name word None rest behind beyond = apart name word rest beyond
option_parts name word (Some (option, text)) rest behind beyond = joined name option text behind

-- the parts of a word and the rest, which are those behind the word, or beyond the first word of the rest where that is its text:
-- behind `--` all words are operands; a word that begins with `-` and is longer is an option of the command, or these are no parts
abbrev pub parts_from : Name → (word : List ℕ) (rest : List (List ℕ)) → (behind beyond : Option (List Part)) → Option (List Part)
parts_from name word rest behind beyond =
    if bytes_eq word (codes "--") then Some (map Operand rest)
    else (if is_dashed word then option_parts name word (halves word) rest behind beyond
    else cons (Operand word) behind)

-- the parts that words are behind the name of this command, where they are parts
abbrev pub parts : Name → (words : List (List ℕ)) → Option (List Part)
parts name [] = Some []
parts name (word ∷ []) = parts_from name word [] (Some []) None
parts name (word ∷ (text ∷ more)) = parts_from name word (text ∷ more) (parts name (text ∷ more)) (parts name more)

-- the texts of parts: that of each option, and of each operand
pub record Texts : Type 0 where
  pub scale : Option (List ℕ)
  pub lead : Option (List ℕ)
  pub instants : Option (List ℕ)
  pub workers : Option (List ℕ)
  pub block : Option (List ℕ)
  pub first : Option (List ℕ)
  pub second : Option (List ℕ)

-- those of no parts
abbrev pub no_texts : Texts
no_texts = record { scale = None; lead = None; instants = None; workers = None; block = None; first = None; second = None }

-- a text that is not empty, where none has stood before
abbrev pub once : (before : Option (List ℕ)) (text : List ℕ) → Option (List ℕ)
once None [] = None
once None (byte ∷ more) = Some (byte ∷ more)
once (Some other) text = None

-- the texts with that of one operand more: the first, or the second where there is a first
abbrev pub with_operand : Texts → (first : Option (List ℕ)) → (text : List ℕ) → Option Texts
with_operand t None text = option_map (λ found. record t { first = Some found }) (once None text)
with_operand t (Some first) text = option_map (λ found. record t { second = Some found }) (once t.second text)

-- the texts with that of one part more: an operand where one is free, or an option that has not stood before
abbrev pub with_part : Texts → Part → Option Texts
with_part t (Operand text) = with_operand t t.first text
with_part t (Given Scale text) = option_map (λ found. record t { scale = Some found }) (once t.scale text)
with_part t (Given Lead text) = option_map (λ found. record t { lead = Some found }) (once t.lead text)
with_part t (Given Instants text) = option_map (λ found. record t { instants = Some found }) (once t.instants text)
with_part t (Given Workers text) = option_map (λ found. record t { workers = Some found }) (once t.workers text)
with_part t (Given Block text) = option_map (λ found. record t { block = Some found }) (once t.block text)

-- the texts with those of parts
abbrev pub with_parts : Texts → List Part → Option Texts
with_parts t [] = Some t
with_parts t (part ∷ more) = option_and_then (λ u. with_parts u more) (with_part t part)

-- the texts of words behind the name of a command: each option once at most, and at most two operands
abbrev pub texts_of : Name → (words : List (List ℕ)) → Option Texts
texts_of name words = option_and_then (with_parts no_texts) (parts name words)
