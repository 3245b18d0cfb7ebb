-- A command owes one answer, and one output may stand.
use Rattle.std.specs.Prelude.{ℕ, ◌≡◌, List}
use Rattle.lucy_command.specs.Commands.{Command, Show}
use Rattle.lucy_app.specs.World.{World, Given}
use Rattle.lucy_app.specs.Answers.{Answer, AreOneBut, MayDiffer, Alike, printed}
use Rattle.lucy_app.specs.Owes.{Owes, HasRun}
use Rattle.lucy_app.specs.Complete.{MayPrint, MayRun}

-- a command that has met the same things owes one answer, but for what is left open
abbrev pub OwesAlike : Type 0
OwesAlike = (command : Command) (given : Given) (a b : Answer) → Owes command given a → Owes command given b → Alike (HasRun given) command a b

-- this command owes exactly one answer
abbrev pub OwesOne : Command → Type 0
OwesOne command = (given : Given) (a b : Answer) → Owes command given a → Owes command given b → a ≡ b

-- so does `show`
abbrev pub ShowOwesOne : Type 0
ShowOwesOne = (file : List ℕ) → OwesOne (Show file)

-- of a command that nothing refuses one output may stand, but for what is left open
abbrev pub MayPrintOne : Type 0
MayPrintOne =
    (command : Command) (before : World) (a b : List ℕ) → MayPrint command before a → MayPrint command before b →
    AreOneBut (MayDiffer (MayRun before) command) (printed a) (printed b)
