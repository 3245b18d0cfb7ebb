-- How a command ends: its status, and what it leaves of what it was lent.
use Rattle.std.specs.Prelude.{ℕ, ◌≡◌, ◌⊎◌, List, [], Option, None, Some, MatchOption}
use Rattle.lucy_text.specs.Outside.{SeenSink, Writes, Fails}
use Rattle.lucy_host.specs.Operators.{kinds_of}
use Rattle.lucy_program.specs.declared.accepted.Accepted.{Accepted}
use Rattle.lucy_program.specs.Accepting.{IsAccepted}
use Rattle.lucy_front.specs.Refusals.{limit_line, memory_line}
use Rattle.lucy_run.specs.declared.ending.Ending.{Ending}
use Rattle.lucy_run.specs.declared.ending.Ending.TheVariants as ending
use Rattle.lucy_run.specs.Ends.{IsFrontOf, FailsInOrder}
use Rattle.lucy_command.specs.Commands.{Command, Run}
use Rattle.lucy_command.specs.Named.{block_or_default}
use Rattle.lucy_app.specs.Commands.{inferring_options, running_words, HasText}
use Rattle.lucy_app.specs.World.{World, Given, HasMetWorld}
use Rattle.lucy_app.specs.Answers.{Answer, no_command, out_of_memory}
use Rattle.lucy_app.specs.Endings.{write_fault_line, fault_told, ending_told}
use Rattle.lucy_app.specs.Owes.{Owes, OwesOutput}

-- the lines were told and the call ends with their status, or they failed
abbrev pub Tells : (told : ℕ) (lines : List ℕ) (err err' : SeenSink) (status : ℕ) → Type 0
Tells told lines err err' status = ((status ≡ told) × Writes err err' lines) ⊎ ((status ≡ 5) × Fails err err' lines)

-- how a run ended was told; of a fault or a limit, or else that memory ran out
abbrev pub TellsEnding : Ending → (err err' : SeenSink) (status : ℕ) → Type 0
TellsEnding (ending.Input fault) err err' status =
    Tells (fault_told fault).0 (fault_told fault).1 err err' status ⊎ Tells 7 memory_line err err' status
TellsEnding (ending.Limit passed) err err' status = Tells 6 (limit_line passed) err err' status ⊎ Tells 7 memory_line err err' status
TellsEnding end err err' status = Tells (ending_told end).0 (ending_told end).1 err err' status

-- the answer's output stands, and its lines were told
pub record Answers (answer : Answer) (out out' err err' : SeenSink) (status : ℕ) : Type 0 where
  pub printed : Writes out out' answer.out
  pub told : Tells answer.status answer.err err err' status

-- the output failed, and the line that says so was told
pub record Breaks (output : List ℕ) (out out' err err' : SeenSink) (status : ℕ) : Type 0 where
  pub failed : Fails out out' output
  pub told : Tells 5 write_fault_line err err' status

-- how a command ends that owes such answers, and whose output may fail so: an answer that is owed was given, or memory ran out, when such a
-- front stands there; or its output failed
abbrev pub EndsBy : (Owed : Answer → Type 0) (Stands MayFail : List ℕ → Type 0) → (out out' err err' : SeenSink) (status : ℕ) → Type 0
EndsBy Owed Stands MayFail out out' err err' status =
    ((answer : Answer) × (Owed answer ⊎ ((front : List ℕ) × Stands front × (answer ≡ out_of_memory front))) × Answers answer out out' err err' status)
    ⊎ ((output : List ℕ) × MayFail output × Breaks output out out' err err' status)

-- where memory runs out a front of an output that is owed stands of the commands that run FILE, and nothing of the others
abbrev pub MayStand : Command → Given → (front : List ℕ) → Type 0
MayStand command given front = MatchOption (running_words command) (front ≡ []) (λ words. IsFrontOf (OwesOutput command given) front)

-- where the output fails nothing more is read: `run` has read nothing behind a report that failed, and no more than its block needs
-- behind a line that did; the others read before they write
abbrev pub StopsInOrder : Command → Given → (out out' : SeenSink) → Type 0
StopsInOrder (Run words workers block) given out out' = HasText given.fetched (λ text. (a : Accepted) × IsAccepted given.operators (inferring_options words.scale words.lead) text a
    × FailsInOrder (kinds_of given.operators) a words.instants (block_or_default block) given.taken given.stop out out')
StopsInOrder command given out out' = Unit {0}

-- an output that is owed may fail, in order
abbrev pub MayFail : Command → Given → (out out' : SeenSink) → (output : List ℕ) → Type 0
MayFail command given out out' output = OwesOutput command given output × StopsInOrder command given out out'

-- nothing is called and nothing is printed, and this is answered
abbrev pub Declines : Answer → (before after : World) (status : ℕ) → Type 0
Declines answer before after status = (after.shelf ≡ before.shelf) × (after.source ≡ before.source) × Answers answer before.out after.out before.err after.err status

-- how the top call ends that carries out a command, by what it has met
abbrev pub EndsSo : Command → (before after : World) (status : ℕ) → Type 0
EndsSo command before after status =
    (given : Given) × HasMetWorld command before after given
    × EndsBy (Owes command given) (MayStand command given) (MayFail command given before.out after.out) before.out after.out before.err after.err status

-- how the top call ends, where the words name this command or none; memory may run out before the command is carried out
abbrev pub Ends : Option Command → (before after : World) (status : ℕ) → Type 0
Ends None before after status = Declines no_command before after status
Ends (Some command) before after status = EndsSo command before after status ⊎ Declines (out_of_memory []) before after status
