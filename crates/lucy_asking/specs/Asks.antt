-- What the words ask for.
use Rattle.std.specs.Prelude.{ℕ, ◌≤◌, ◌≡◌, ◌≢◌, ◌⊎◌, min, max, Bool, true, false, List, ◌++◌, Option, Some, None, IfSome, IsSomeAnd, MatchOption, codes, if◌then◌else◌}
use Rattle.std.specs.Option.{option_map, option_and_then, unwrap_or}
use Rattle.std.specs.Borrow.{Bor}
use Rattle.std.specs.Str.{bytes_eq}
use Rattle.std.specs.Str.Parse.{ParsesUnsigned}
use Rattle.clap.specs.Walk.{Row, first_of, one_of}
use Rattle.clap.specs.Simple.{subcommand_of}
use Rattle.clap.specs.Matches.{ReadsOne}
use Rattle.lucy_word.specs.Limits.{limit_number}
use Rattle.lucy_word.specs.declared.limit.Limit.TheVariants as limit
use Rattle.lucy_fields.specs.Numbers.{number_of}
use Rattle.lucy_command.specs.Named.{IsScale}
use Rattle.lucy_command.specs.Names.{most_buffer}
use Rattle.lucy_command.specs.Parts.{halves_at}
use Rattle.lucy_asking.specs.declared.name.Name.{Name}
use Rattle.lucy_asking.specs.declared.name.Name.TheVariants as name
use Rattle.lucy_asking.specs.declared.ask.FileWords.{FileWords}
use Rattle.lucy_asking.specs.declared.ask.Sought.{Sought}
use Rattle.lucy_asking.specs.declared.ask.Sought.TheVariants as sought
use Rattle.lucy_asking.specs.declared.ask.Picture.{Picture}
use Rattle.lucy_asking.specs.declared.ask.Picture.TheVariants.{Time, Net, Where, Page, Explain, Why, Freeze}
use Rattle.lucy_asking.specs.declared.ask.Ask.{Ask}
use Rattle.lucy_asking.specs.declared.ask.Ask.TheVariants as ask
use Rattle.lucy_asking.specs.CommandLine.{line}

-- the command that a word names, in full
abbrev pub name_of : (word : List ℕ) → Option Name
name_of word =
    if bytes_eq word (codes "time") then Some name.Time
    else (if bytes_eq word (codes "net") then Some name.Net
    else (if bytes_eq word (codes "wave") then Some name.Wave
    else (if bytes_eq word (codes "where") then Some name.Where
    else (if bytes_eq word (codes "page") then Some name.Page
    else (if bytes_eq word (codes "explain") then Some name.Explain
    else (if bytes_eq word (codes "why") then Some name.Why
    else (if bytes_eq word (codes "freeze") then Some name.Freeze
    else None)))))))

-- the command that the words name, as `clap` reads them
abbrev pub name_in : (words : List (List ℕ)) → Option Name
name_in words = option_and_then (λ s. name_of s.0) (subcommand_of line words)

-- the command that shows such a picture
abbrev pub picture_name : Picture → Name
picture_name (Time w) = name.Time
picture_name (Net w) = name.Net
picture_name (Where w) = name.Where
picture_name (Page w) = name.Page
picture_name (Explain w) = name.Explain
picture_name (Why w) = name.Why
picture_name (Freeze w) = name.Freeze

-- the command that is asked for
abbrev pub asked_name : Ask → Name
asked_name (ask.Wave w) = name.Wave
asked_name (ask.Picture p) = picture_name p

-- the number of so many bits that a text spells, as std reads it, where it spells one
abbrev pub Spells : (bits : ℕ) (text : List ℕ) → (number : Option ℕ) → Type 0
Spells bits text number = ReadsOne (ParsesUnsigned {E = Unit {0}} bits 10) text number

-- the number of an option, as `clap` has its text, where one stands there
abbrev pub HasNumber : (option : List ℕ) → List Row → (number : Option ℕ) → Type 0
HasNumber option rows number = MatchOption (one_of option rows) (number ≡ None) (λ text. Spells 64 text number)

-- a number from 1 to 64, which is 1 where none stands there; `clap` has refused all others
abbrev pub HasFactor : (option : List ℕ) → List Row → (factor : ℕ) → Type 0
HasFactor option rows factor = (number : Option ℕ) × HasNumber option rows number × (factor ≡ min (max (unwrap_or number 1) 1) 64)

-- the instants of a run, no more than their limit; `clap` has refused all others
abbrev pub HasInstants : List Row → (instants : Option ℕ) → Type 0
HasInstants rows instants =
    (number : Option ℕ) × HasNumber (codes "instants") rows number × (instants ≡ option_map (λ n. min n (limit_number limit.Instants)) number)

-- whether a word stands there that stands alone
abbrev pub HasFlag : (flag : List ℕ) → List Row → (on : Bool) → Type 0
HasFlag flag rows on =
    (one_of flag rows ≡ Some (codes "true") → on ≡ true) × (one_of flag rows ≡ Some (codes "false") → on ≡ false)
    × (one_of flag rows ≡ None → on ≡ false)

-- the text of an operand, where one stands there
abbrev pub HasOperand : (operand : List ℕ) → List Row → (text : Option (Bor (List ℕ))) → Type 0
HasOperand operand rows text = option_map (λ s. s.now) text ≡ first_of operand rows

-- FILE, and how the clocks of its program are found
abbrev pub SaysProgram : List Row → FileWords → Type 0
SaysProgram rows w = HasOperand (codes "FILE") rows (Some w.file) × HasFactor (codes "scale") rows w.scale × HasFactor (codes "lead") rows w.lead

-- what AT looks for: a place behind `#`, or an offset
abbrev pub Seeks : (text : List ℕ) → Option Sought → Type 0
Seeks text found =
    ((rest : List ℕ) × (number : Option ℕ) × (text ≡ codes "#" ++ rest) × Spells 32 rest number × (found ≡ option_map sought.Place number))
    ⊎ ((number : Option ℕ) × ((rest : List ℕ) → text ≢ codes "#" ++ rest) × Spells 64 text number × (found ≡ option_map sought.Offset number))

-- what BUFFER names: a node, and a buffer by one to seven digits, with a point between them
abbrev pub buffer_in : (text : List ℕ) → Option (List ℕ × ℕ)
buffer_in text = option_and_then (λ h. option_map (λ number. (h.0, number)) (number_of 7 0 most_buffer h.1)) (halves_at 46 text)

-- what stands behind the name of a picture's command; of the instants of `page` nothing is owed
abbrev pub SaysPicture : List Row → Picture → Type 0
SaysPicture rows (Time w) =
    SaysProgram rows w.program × HasOperand (codes "NODE") rows w.node × HasNumber (codes "instants") rows w.instants × HasFlag (codes "svg") rows w.svg
SaysPicture rows (Net w) = SaysProgram rows w.program × HasOperand (codes "NODE") rows w.node × HasFlag (codes "flat") rows w.flat
SaysPicture rows (Where w) =
    HasOperand (codes "FILE") rows (Some w.file) × HasOperand (codes "NODE") rows w.node × IsSomeAnd (first_of (codes "AT") rows) (λ text. Seeks text w.sought)
SaysPicture rows (Page w) = SaysProgram rows w.program × HasNumber (codes "instants") rows w.instants
SaysPicture rows (Explain w) = SaysProgram rows w
SaysPicture rows (Why w) =
    SaysProgram rows w.program × IsSomeAnd (first_of (codes "BUFFER") rows) (λ text. option_map (λ b. (b.0.now, b.1)) w.buffer ≡ buffer_in text)
SaysPicture rows (Freeze w) = SaysProgram rows w

-- what stands behind the name of a command
abbrev pub Says : List Row → Ask → Type 0
Says rows (ask.Wave w) = SaysProgram rows w.program × HasInstants rows w.instants
Says rows (ask.Picture p) = SaysPicture rows p

-- what `clap` found of a command asks for this
abbrev pub AsksBy : (found : Option (List ℕ × List Row)) → Ask → Type 0
AsksBy found a = (s : List ℕ × List Row) × (found ≡ Some s) × (name_of s.0 ≡ Some (asked_name a)) × Says s.1 a

-- the words ask for this
abbrev pub Asks : (words : List (List ℕ)) → Ask → Type 0
Asks words a = AsksBy (subcommand_of line words) a

-- the scale and the lead are from 1 to 64
abbrev pub AreFactors : FileWords → Type 0
AreFactors w = IsScale w.scale × IsScale w.lead

-- those of a picture are
abbrev pub IsPictureWithin : Picture → Type 0
IsPictureWithin (Time w) = AreFactors w.program
IsPictureWithin (Net w) = AreFactors w.program
IsPictureWithin (Where w) = Unit {0}
IsPictureWithin (Page w) = AreFactors w.program
IsPictureWithin (Explain w) = AreFactors w
IsPictureWithin (Why w) = AreFactors w.program
IsPictureWithin (Freeze w) = AreFactors w

-- the numbers of what is asked for are within their limits
abbrev pub IsWithin : Ask → Type 0
IsWithin (ask.Wave w) = AreFactors w.program × IfSome w.instants (λ n. n ≤ limit_number limit.Instants)
IsWithin (ask.Picture p) = IsPictureWithin p
