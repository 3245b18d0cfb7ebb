-- What commands work with: how they find the clocks of a program, and what they call.
use Rattle.std.specs.Prelude.{ℕ, ◌≢◌, false, true, List, [], ◌∷◌, drop, Option, Some, None, Result, IsSomeAnd, IsOkAnd}
use Rattle.std.specs.Option.{option_map, option_and_then}
use Rattle.lucy_word.specs.Limits.{limit_number}
use Rattle.lucy_word.specs.declared.limit.Limit.TheVariants as limit
use Rattle.lucy_fields.specs.Readings.{AreRead}
use Rattle.lucy_trace.specs.Logs.{picks_of}
use Rattle.lucy_host.specs.Operators.{Operator}
use Rattle.lucy_text.specs.declared.shelf.ShelfError.{ShelfError}
use Rattle.lucy_lines.specs.Feeding.{IsAsked}
use Rattle.lucy_program.specs.declared.accepted.Accepted.{Accepted}
use Rattle.lucy_program.specs.declared.options.Options.{Options}
use Rattle.lucy_program.specs.Accepting.{IsAccepted}
use Rattle.lucy_program.specs.Names.{of_one}
use Rattle.lucy_command.specs.Commands.{ProgramWords, Command, Order, Show, Types, Check, Clocks, Run, Kahn, Tighten, Replay, Trace}

-- each node has to be written
abbrev pub written_options : Options
written_options = record { scale = 1; lead = 1; written_only = true }

-- the clocks of the others are inferred with this scale and this lead
abbrev pub inferring_options : (scale lead : ℕ) → Options
inferring_options scale lead = record { scale = scale; lead = lead; written_only = false }

-- what a shelf is asked for: a name, and the most bytes that its file may have
pub record Wanted : Type 0 where
  pub file : List ℕ
  pub most : ℕ

-- the text of a program
abbrev pub program_of : (file : List ℕ) → Wanted
program_of file = record { file = file; most = limit_number limit.Text }

-- the text of a log
abbrev pub log_of : (file : List ℕ) → Wanted
log_of file = record { file = file; most = limit_number limit.Log }

-- what a command works on that runs the program of FILE
abbrev pub running_words : Command → Option ProgramWords
running_words (Run words workers block) = Some words
running_words (Kahn words) = Some words
running_words (Replay words log) = Some words
running_words (Trace words workers) = Some words
running_words command = None

-- a command that looks at one file, and reads and runs nothing
abbrev pub LooksAtFile : Command → Type 0
LooksAtFile (Show file) = Unit {0}
LooksAtFile (Types file) = Unit {0}
LooksAtFile (Check file) = Unit {0}
LooksAtFile (Clocks words) = Unit {0}
LooksAtFile (Tighten words node buffer) = Unit {0}
LooksAtFile command = ⊥

-- what the shelf is asked for in turn, where the words name this command or none
abbrev pub files_of : Option Command → List Wanted
files_of (Some (Show file)) = program_of file ∷ []
files_of (Some (Types file)) = program_of file ∷ []
files_of (Some (Check file)) = program_of file ∷ []
files_of (Some (Clocks words)) = program_of words.file ∷ []
files_of (Some (Tighten words node buffer)) = program_of words.file ∷ []
files_of (Some (Replay words log)) = program_of words.file ∷ (log_of log ∷ [])
files_of found = of_one (λ words. program_of words.file ∷ []) (option_and_then running_words found)

-- how many bytes may be taken from the source, and one more, where the words name a command that may read it
abbrev pub most_input : Option Command → Option ℕ
most_input (Some Order) = Some (limit_number limit.OrderInput)
most_input found = option_map (λ words. limit_number limit.Input) (option_and_then running_words found)

-- what was fetched first is a text of which this holds
abbrev pub HasText : List (Result (List ℕ) ShelfError) → (Holds : List ℕ → Type 0) → Type 0
HasText [] Holds = ⊥
HasText (fetched ∷ more) Holds = IsOkAnd fetched Holds

-- it is accepted as a program with inputs, and these bytes of its input were asked for
abbrev pub TakesInput : List Operator → Options → (fetched : List (Result (List ℕ) ShelfError)) → (taken : List ℕ) → Type 0
TakesInput ops o fetched taken = HasText fetched (λ text. (a : Accepted) × IsAccepted ops o text a × (a.inputs.items ≢ []) × IsAsked a.inputs.items taken)

-- a command takes these bytes from the source where the host has these operators and this was fetched; `replay` where what was fetched
-- next is a log of numbers of actors
abbrev pub ReadsSource : Command → List Operator → (fetched : List (Result (List ℕ) ShelfError)) → (taken : List ℕ) → Type 0
ReadsSource Order ops fetched taken = Unit {0}
ReadsSource (Replay words log) ops fetched taken =
    TakesInput ops (inferring_options words.scale words.lead) fetched taken
    × HasText (drop 1 fetched) (λ text. (picks : List ℕ) × AreRead (picks_of text) picks)
ReadsSource command ops fetched taken =
    IsSomeAnd (running_words command) (λ words. TakesInput ops (inferring_options words.scale words.lead) fetched taken)
