-- What a call meets where the words ask for this: what is fetched, and what is read.
use Rattle.std.specs.Prelude.{ℕ, ◌≡◌, ◌⊎◌, List, [], ◌∷◌, Option, Some, None, Result, MatchOption}
use Rattle.lucy_word.specs.Limits.{limit_number}
use Rattle.lucy_word.specs.declared.limit.Limit.TheVariants as limit
use Rattle.lucy_host.specs.Operators.{Operator}
use Rattle.lucy_text.specs.declared.shelf.ShelfError.{ShelfError}
use Rattle.lucy_text.specs.Sources.{Unread, Read}
use Rattle.lucy_program.specs.declared.options.Options.{Options}
use Rattle.lucy_app.specs.Commands.{inferring_options, program_of, TakesInput}
use Rattle.lucy_app.specs.World.{World, Given, Fetched}
use Rattle.lucy_asking.specs.declared.ask.FileWords.{FileWords}
use Rattle.lucy_asking.specs.declared.ask.Picture.{Picture}
use Rattle.lucy_asking.specs.declared.ask.Picture.TheVariants.{Time, Net, Where, Page, Explain, Why, Freeze}
use Rattle.lucy_asking.specs.declared.ask.Ask.{Ask}
use Rattle.lucy_asking.specs.declared.ask.Ask.TheVariants as ask

-- how the clocks of a program are found
abbrev pub options_of : FileWords → Options
options_of w = inferring_options w.scale w.lead

-- the file of a picture
abbrev pub picture_file : Picture → List ℕ
picture_file (Time w) = w.program.file.now
picture_file (Net w) = w.program.file.now
picture_file (Where w) = w.file.now
picture_file (Page w) = w.program.file.now
picture_file (Explain w) = w.file.now
picture_file (Why w) = w.program.file.now
picture_file (Freeze w) = w.file.now

-- the file that is asked for
abbrev pub file_of : Ask → List ℕ
file_of (ask.Wave w) = w.program.file.now
file_of (ask.Picture p) = picture_file p

-- how many bytes may be taken from the source, and one more: only a run reads it
abbrev pub most_input : Ask → Option ℕ
most_input (ask.Wave w) = Some (limit_number limit.Input)
most_input (ask.Picture p) = None

-- these bytes are taken from the source where the host has these operators and this was fetched
abbrev pub ReadsSource : Ask → List Operator → (fetched : List (Result (List ℕ) ShelfError)) → (taken : List ℕ) → Type 0
ReadsSource (ask.Wave w) ops fetched taken = TakesInput ops (options_of w.program) fetched taken
ReadsSource (ask.Picture p) ops fetched taken = ⊥

-- this is met: the file is fetched, once and with the limit of a program's text, which gave this, and the source is as it was where it need
-- not be read
pub record Meets (a : Ask) (before after : World) (given : Given) : Type 0 where
  pub shelf : (fetched : Result (List ℕ) ShelfError) × (given.fetched ≡ fetched ∷ [])
      × Fetched (program_of (file_of a)) before.shelf after.shelf fetched
  pub source : MatchOption (most_input a) ((given.taken ≡ []) × (given.stop ≡ Unread) × (after.source ≡ before.source))
      (λ most. Read most before.source after.source given.taken given.stop)
  pub unread : (after.source ≡ before.source) ⊎ ReadsSource a before.operators given.fetched given.taken
  pub operators : given.operators ≡ before.operators
