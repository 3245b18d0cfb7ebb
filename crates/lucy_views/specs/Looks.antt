-- How a call of `lucy_view` ends: its status, and what it leaves of what it is lent.
use Rattle.std.specs.Prelude.{ℕ, ◌≡◌, ◌⊎◌, Bool, true, false, List, []}
use Rattle.clap.specs.Kinds.{IsAmong}
use Rattle.clap.specs.Faults.{fault_of}
use Rattle.clap.specs.declared.error.kind.ErrorKind.{ErrorKind}
use Rattle.clap.specs.declared.error.kind.ErrorKind.TheVariants as kind
use Rattle.lucy_text.specs.Outside.{SeenSink}
use Rattle.lucy_run.specs.Ends.{IsFrontOf}
use Rattle.lucy_app.specs.Answers.{Answer, OutputOf, printed, refused}
use Rattle.lucy_app.specs.World.{World, Given}
use Rattle.lucy_app.specs.Ends.{EndsBy}
use Rattle.lucy_asking.specs.declared.ask.Ask.{Ask}
use Rattle.lucy_asking.specs.declared.ask.Ask.TheVariants as ask
use Rattle.lucy_views.specs.declared.missing.Missing.TheVariants.{Command}
use Rattle.lucy_asking.specs.CommandLine.{line}
use Rattle.lucy_asking.specs.Asks.{Asks}
use Rattle.lucy_views.specs.Meets.{Meets}
use Rattle.lucy_views.specs.Owes.{missing, Owes}

-- an output that is owed
abbrev pub OwesOutput : Ask → Given → (output : List ℕ) → Type 0
OwesOutput a given output = OutputOf (Owes a given) output

-- where memory runs out a front of the dump of a run stands there, and nothing of a picture
abbrev pub MayStand : Ask → Given → (front : List ℕ) → Type 0
MayStand (ask.Wave w) given front = IsFrontOf (OwesOutput (ask.Wave w) given) front
MayStand (ask.Picture p) given front = front ≡ []

-- what was asked for was answered, by what was met
abbrev pub EndsGiven : Ask → Given → (out out' err err' : SeenSink) (status : ℕ) → Type 0
EndsGiven a given out out' err err' status = EndsBy (Owes a given) (MayStand a given) (OwesOutput a given) out out' err err' status

-- how the call ends that answers what was asked for
abbrev pub EndsSo : Ask → (before after : World) (status : ℕ) → Type 0
EndsSo a before after status = (given : Given) × Meets a before after given
    × EndsGiven a given before.out after.out before.err after.err status

-- all that `clap` refuses words for is a fault but that they ask for the help or the version
abbrev pub is_fault : ErrorKind → Bool
is_fault kind.DisplayHelp = false
is_fault kind.DisplayVersion = false
is_fault why = true

-- a text of `clap` says what is wrong with the words, or it is the help or the version, and is printed
abbrev pub said : (fault : Bool) (text : List ℕ) → Answer
said true text = refused 2 text
said false text = printed text

-- such a text is owed, whatever it is: the rows test it
abbrev pub OwesSaid : (fault : Bool) → Answer → Type 0
OwesSaid fault answer = (text : List ℕ) × (answer ≡ said fault text)

-- why the words ask for nothing: `clap` refuses them, for a kind that may come of them, of which the word `help` has one that is a fault and
-- one that is none; or it takes them, and they name no command with its operands, for which no words are known
abbrev pub OwesWords : (words : List (List ℕ)) → Answer → Type 0
OwesWords words answer =
    ((why : ErrorKind) × IsAmong why (fault_of line words) × OwesSaid (is_fault why) answer)
    ⊎ ((fault_of line words ≡ []) × ((a : Ask) → Asks words a → ⊥) × (answer ≡ missing Command))

-- neither the shelf nor the source is called, and that is answered
abbrev pub EndsAtWords : (words : List (List ℕ)) → (before after : World) (status : ℕ) → Type 0
EndsAtWords words before after status =
    (after.shelf ≡ before.shelf) × (after.source ≡ before.source)
    × EndsBy (OwesWords words) (λ front. front ≡ []) (OutputOf (OwesWords words)) before.out after.out before.err after.err status

-- how the call ends: the words ask for nothing of a program, or `clap` takes them, and they ask for this
abbrev pub Looks : (words : List (List ℕ)) → (before after : World) (status : ℕ) → Type 0
Looks words before after status =
    EndsAtWords words before after status
    ⊎ ((fault_of line words ≡ []) × (a : Ask) × Asks words a × EndsSo a before after status)
