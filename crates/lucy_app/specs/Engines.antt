-- How a call ends that has an engine play what `run` would run, in one piece, what it asks the engine for, and when it is done.
use Rattle.std.specs.Prelude.{ℕ, ◌≡◌, ◌⊎◌, List, [], Option, None, Some, Result}
use Rattle.lucy_host.specs.Operators.{Operator}
use Rattle.lucy_text.specs.Outside.{SeenSink}
use Rattle.lucy_text.specs.declared.shelf.ShelfError.{ShelfError}
use Rattle.lucy_text.specs.Sources.{ReadStop}
use Rattle.lucy_program.specs.declared.options.Options.{Options}
use Rattle.lucy_run.specs.Engines.{PlayRequest, AsksUnless, AsksToRun, FailsInPiece}
use Rattle.lucy_command.specs.Commands.{Command, Run}
use Rattle.lucy_app.specs.Commands.{inferring_options}
use Rattle.lucy_app.specs.World.{World, Given, HasMetWorld}
use Rattle.lucy_app.specs.Answers.{printed, no_command, out_of_memory}
use Rattle.lucy_app.specs.Running.{OfProgram, OfRunnable}
use Rattle.lucy_app.specs.Owes.{Owes, OwesOutput}
use Rattle.lucy_app.specs.Ends.{Answers, EndsBy, MayStand, Declines}
use Rattle.lucy_app.specs.Complete.{IsFaultless, MayPrint, Suits}

-- the command, where this block is none
abbrev pub in_one_piece : Command → (block : Option ℕ) → Option Command
in_one_piece command None = Some command
in_one_piece command (Some block) = None

-- the command, where it is `run` and no block is given
abbrev pub whole_run : Option Command → Option Command
whole_run (Some (Run words workers block)) = in_one_piece (Run words workers block) block
whole_run found = None

-- the engine is asked once, to play the program that was fetched on what main is fed up to its horizon, by so many workers; or for
-- nothing, where no program can be run, a write failed, or memory ran out
abbrev pub AsksEngineFor : List Operator → Options → (instants : Option ℕ) (workers : ℕ) (taken : List ℕ) → ReadStop →
    (fetched : List (Result (List ℕ) ShelfError)) → (asked asked' : Option (List PlayRequest)) (status : ℕ) → Type 0
AsksEngineFor ops o instants workers taken stop fetched asked asked' status =
    AsksUnless ((OfRunnable (λ a. Unit {0}) ops o instants fetched → ⊥) ⊎ (status ≡ 5) ⊎ (status ≡ 7))
    (λ one. OfRunnable (λ a. AsksToRun a instants workers taken stop one) ops o instants fetched) asked asked'

-- so a command asks it that has met this, as its words say
abbrev pub AsksEngine : Command → Given → (asked asked' : Option (List PlayRequest)) (status : ℕ) → Type 0
AsksEngine (Run words workers block) given asked asked' status =
    AsksEngineFor given.operators (inferring_options words.scale words.lead) words.instants workers given.taken given.stop given.fetched
    asked asked' status
AsksEngine command given asked asked' status = Unit {0}

-- where the output fails nothing more is done: behind a report that failed nothing was read and nothing was played, and behind a line that
-- did the engine had been asked once
abbrev pub StopsInPiece : Command → Given → (asked asked' : Option (List PlayRequest)) (out out' : SeenSink) → Type 0
StopsInPiece (Run words workers block) given asked asked' out out' =
    OfProgram (λ a. FailsInPiece a words.instants workers given.taken given.stop asked asked' out out') given.operators
    (inferring_options words.scale words.lead) given.fetched
StopsInPiece command given asked asked' out out' = Unit {0}

-- how a run in one piece ends, by what it has met and what its engine was asked for before and after: as `run` does, but that the whole
-- input may have been read where a write of a line failed
abbrev pub EndsPlayed : Command → (asked asked' : Option (List PlayRequest)) (before after : World) (status : ℕ) → Type 0
EndsPlayed command asked asked' before after status =
    (given : Given) × HasMetWorld command before after given × AsksEngine command given asked asked' status
    × EndsBy (Owes command given) (MayStand command given)
    (λ output. OwesOutput command given output × StopsInPiece command given asked asked' before.out after.out)
    before.out after.out before.err after.err status

-- how the call ends, where the words name such a run or none; memory may run out before that is known, or before it begins
abbrev pub EndsPlaying : Option Command → (asked asked' : Option (List PlayRequest)) (before after : World) (status : ℕ) → Type 0
EndsPlaying None asked asked' before after status =
    (asked' ≡ asked) × (Declines no_command before after status ⊎ Declines (out_of_memory []) before after status)
EndsPlaying (Some command) asked asked' before after status =
    EndsPlayed command asked asked' before after status ⊎ ((asked' ≡ asked) × Declines (out_of_memory []) before after status)

-- a run in one piece that nothing refuses is done and its output stands, whole, or memory runs out
abbrev pub PlayingCompletes : Type 0
PlayingCompletes = (command : Command) (asked asked' : Option (List PlayRequest)) (before after : World) (status : ℕ) →
    EndsPlaying (Some command) asked asked' before after status → IsFaultless before after → Suits command before →
    ((status ≡ 0) × (output : List ℕ) × MayPrint command before output
    × Answers (printed output) before.out after.out before.err after.err status) ⊎ (status ≡ 7)
