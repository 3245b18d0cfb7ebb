-- What the top call is lent, as contracts see it, and what a command has met there.
use Rattle.std.specs.Prelude.{ℕ, ◌≤◌, ◌≡◌, ◌≢◌, ◌↔◌, ◌⊎◌, List, [], ◌∷◌, length, Some, IfSome, MatchOption, IfOk, Result, Ok, Err}
use Rattle.std.specs.Option.{option_map}
use Rattle.std.specs.declared.alloc.Global.{Global}
use Rattle.std.specs.declared.vec.Vec.{Vec}
use Rattle.lucy_host.specs.Operators.{Operator}
use Rattle.lucy_text.specs.Outside.{one_more, SeenSource, SeenSink}
use Rattle.lucy_text.specs.Shelf.{SeenShelf, IsHeld, Lacks, IsLonger, IsCut, CountsFaults}
use Rattle.lucy_text.specs.declared.shelf.ShelfError.{ShelfError}
use Rattle.lucy_text.specs.declared.shelf.ShelfError.TheVariants as shelf
use Rattle.lucy_text.specs.Sources.{ReadStop, Unread, Read}
use Rattle.lucy_command.specs.Commands.{Command}
use Rattle.lucy_app.specs.Commands.{Wanted, files_of, most_input, ReadsSource}

-- all that the top call is lent, with the operators of the host
pub record World : Type 0 where
  pub shelf : SeenShelf
  pub source : SeenSource
  pub out : SeenSink
  pub err : SeenSink
  pub operators : List Operator

-- these, with the operators of a host
abbrev pub world : (shelf : SeenShelf) (source : SeenSource) (out err : SeenSink) (operators : List Operator) → World
world shelf source out err operators = record { shelf = shelf; source = source; out = out; err = err; operators = operators }

-- what a command has met: what the fetches gave in turn, the bytes taken from the source, how reading stopped, and the operators of
-- the host
pub record Given : Type 0 where
  pub fetched : List (Result (List ℕ) ShelfError)
  pub taken : List ℕ
  pub stop : ReadStop
  pub operators : List Operator

-- the bytes that a fetch gave
abbrev pub bytes_of : Result (Vec ℕ Global) ShelfError → Result (List ℕ) ShelfError
bytes_of (Ok text) = Ok text.items
bytes_of (Err e) = Err e

-- one fetch of what is wanted, which gave this
pub record Fetched (wanted : Wanted) (before after : SeenShelf) (fetched : Result (List ℕ) ShelfError) : Type 0 where
  pub held : IfOk fetched (λ text. IsHeld before.files wanted.file text × (length text ≤ wanted.most))
  pub missing : (fetched ≡ Err shelf.Missing) ↔ (Lacks before.files wanted.file × (fetched ≢ Err shelf.OutOfMemory))
  pub too_long : IfSome before.files (λ files. (fetched ≡ Err shelf.TooLong) ↔ (IsLonger (files wanted.file) wanted.most × (IsCut fetched → ⊥)))
  pub files : after.files ≡ before.files
  pub faults : CountsFaults before.faults after.faults fetched
  pub fetches : after.fetches ≡ option_map one_more before.fetches

-- the fetches of a front of what is wanted, in turn, which gave these
abbrev pub Fetches : List Wanted → (before after : SeenShelf) → List (Result (List ℕ) ShelfError) → Type 0
Fetches wanted before after [] = after ≡ before
Fetches [] before after (fetched ∷ more) = ⊥
Fetches (w ∷ wanted) before after (fetched ∷ more) = (between : SeenShelf) × Fetched w before between fetched × Fetches wanted between after more

-- this is what a command has met; one that reads nothing doesn't call the source, which is as it was where the command need not read it, and
-- else no byte more was asked for
pub record HasMetWorld (command : Command) (before after : World) (given : Given) : Type 0 where
  pub shelf : Fetches (files_of (Some command)) before.shelf after.shelf given.fetched
  pub source : MatchOption (most_input (Some command)) ((given.taken ≡ []) × (given.stop ≡ Unread) × (after.source ≡ before.source))
      (λ most. Read most before.source after.source given.taken given.stop)
  pub unread : (after.source ≡ before.source) ⊎ ReadsSource command before.operators given.fetched given.taken
  pub operators : given.operators ≡ before.operators
