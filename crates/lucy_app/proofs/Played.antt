-- How a call ends that has an engine play.
use Rattle.std.proofs.Common.{ℕ, ◌≡◌, ◌⊎◌, List, [], ◌∷◌, Option, Some, None, Result, Ok, Err, refl, sym, ◌∙◌, subst, inl, inr}
use Rattle.lucy_word.specs.Limits.{limit_number}
use Rattle.lucy_word.specs.declared.limit.Limit.TheVariants as limit
use Rattle.lucy_host.specs.declared.kind.HostKind.{HostKind}
use Rattle.lucy_host.specs.Operators.{Operator, kinds_of}
use Rattle.lucy_text.specs.declared.shelf.ShelfError.{ShelfError}
use Rattle.lucy_text.specs.Outside.{SeenSource, SeenSink}
use Rattle.lucy_text.specs.Sources.{ReadStop, Unread, Read}
use Rattle.lucy_lines.specs.Feeding.{IsAsked}
use Rattle.lucy_program.specs.declared.accepted.Accepted.{Accepted}
use Rattle.lucy_program.specs.declared.options.Options.{Options}
use Rattle.lucy_front.specs.Refusals.{memory_line}
use Rattle.lucy_run.specs.declared.ending.Ending.{Ending}
use Rattle.lucy_run.specs.Owes.{OwesRun, LinesAllow}
use Rattle.lucy_run.specs.Engines.{PlayRequest, AsksUnless, AsksToRun, FailsInPiece, HasBroken, EndsRunBy}
use Rattle.lucy_run.proofs.FedLaws.{owed_allowed}
use Rattle.lucy_command.specs.Commands.{ProgramWords, Command, Run}
use Rattle.lucy_app.specs.Commands.{inferring_options, HasText}
use Rattle.lucy_app.specs.World.{World, Given}
use Rattle.lucy_app.specs.Answers.{Answer, no_command, out_of_memory}
use Rattle.lucy_app.specs.Endings.{write_fault_line}
use Rattle.lucy_app.specs.Owes.{Owes, OwesOutput}
use Rattle.lucy_app.specs.Ends.{Tells, TellsEnding, EndsBy, MayStand, Ends}
use Rattle.lucy_app.specs.Complete.{IsFaultless}
use Rattle.lucy_app.specs.Running.{IsRunnable, OfProgram, OfRunnable, OwesRunning}
use Rattle.lucy_app.specs.Engines.{AsksEngineFor, StopsInPiece, EndsPlaying}
use Rattle.lucy_app.specs.Outcomes.{refusal_answer, TellsRefusal, NoRun, EndsRunning}
use Rattle.lucy_app.specs.declared.refusal.Refusal.{Refusal}
use Rattle.lucy_app.specs.declared.refusal.Refusal.TheVariants as refusal
use Rattle.lucy_app.proofs.Checked.{checks_apart}
use Rattle.lucy_app.proofs.RunsOnce.{accepted_same}
use Rattle.lucy_app.proofs.Sinks.{declines}
use Rattle.lucy_app.proofs.Runs.{ends_run}
use Rattle.lucy_app.proofs.RunEnds.{ReadsSo, of_program, of_runnable, reads_so}

-- what was told ends with its status, or with that of a write fault
told_status : (told : ℕ) (lines : List ℕ) (err err' : SeenSink) (status : ℕ) → Tells told lines err err' status → (status ≡ 5) ⊎ (status ≡ told)
told_status told lines err err' status (inl is) = inr is.0
told_status told lines err err' status (inr is) = inl is.0

-- so ends a run that broke off
broken_status : (end : Ending) (err err' : SeenSink) (status : ℕ) → HasBroken end → TellsEnding end err err' status → (status ≡ 5) ⊎ (status ≡ 7)
broken_status end err err' status (inl is) told =
    let P : Ending → Type 0 = λ e. TellsEnding e err err' status in
    elim (told_status 5 write_fault_line err err' status (subst P is told)) [ inl five ↦ inl five | inr five ↦ inl five ]
broken_status end err err' status (inr is) told =
    let P : Ending → Type 0 = λ e. TellsEnding e err err' status in
    told_status 7 memory_line err err' status (subst P is told)

-- and a call that memory was too short for
short_status : (e : Refusal) (err err' : SeenSink) (status : ℕ) → e ≡ refusal.OutOfMemory → TellsRefusal e err err' status → (status ≡ 5) ⊎ (status ≡ 7)
short_status e err err' status is told =
    let P : Refusal → Type 0 = λ r. TellsRefusal r err err' status in
    let short : TellsRefusal refusal.OutOfMemory err err' status = subst P is told in
    elim short [ inl line ↦ told_status 7 memory_line err err' status line | inr line ↦ told_status 7 memory_line err err' status line ]

-- what has an answer without a run is no program that can be run
unrunnable : (ops : List Operator) (o : Options) (instants : Option ℕ) (fetched : List (Result (List ℕ) ShelfError)) (answer : Answer) →
    OwesRunning NoRun ops o instants Unread fetched answer → OfRunnable (λ a. Unit {0}) ops o instants fetched → ⊥
unrunnable ops o instants [] answer owed can = can
unrunnable ops o instants (Err e ∷ more) answer owed can = can
unrunnable ops o instants (Ok text ∷ more) answer (inl ((why, bad, is), unread)) (a, can, so) = checks_apart ops o text a why can.0 bad
unrunnable ops o instants (Ok text ∷ more) answer (inr (b, is, inl (lacks, told, unread))) (a, can, so) =
    can.1 (sym (accepted_same ops o text b a is can.0).inputs ∙ lacks.0, lacks.1)
unrunnable ops o instants (Ok text ∷ more) answer (inr (b, is, inr owed)) (a, can, so) = absurd owed.3

-- what an engine is asked for that has no program played
pub asks_nothing : (ops : List Operator) (o : Options) (instants : Option ℕ) (workers : ℕ) (taken : List ℕ) (stop : ReadStop)
    (fetched : List (Result (List ℕ) ShelfError)) (asked : Option (List PlayRequest)) (e : Refusal) (err err' : SeenSink) (status : ℕ) →
    (e ≡ refusal.OutOfMemory) ⊎ OwesRunning NoRun ops o instants Unread fetched (refusal_answer e) → TellsRefusal e err err' status →
    AsksEngineFor ops o instants workers taken stop fetched asked asked status
asks_nothing ops o instants workers taken stop fetched asked e err err' status (inl short) told =
    inr (inr (short_status e err err' status short told), refl)
asks_nothing ops o instants workers taken stop fetched asked e err err' status (inr owed) told =
    inr (inl (unrunnable ops o instants fetched (refusal_answer e) owed), refl)

-- an engine had a program played that can be run
module _ (kinds : List HostKind) (ops : List Operator) (o : Options) (instants : Option ℕ) (workers : ℕ) (fetched : List (Result (List ℕ) ShelfError))
    (a : Accepted) (runnable : HasText fetched (λ text. IsRunnable ops o instants text a)) (asked asked' : Option (List PlayRequest)) where
  -- what it was asked for
  asks_of : (taken : List ℕ) (stop : ReadStop) (status : ℕ) (MayNot : Type 0) → (MayNot → (status ≡ 5) ⊎ (status ≡ 7)) →
      AsksUnless MayNot (AsksToRun a instants workers taken stop) asked asked' →
      AsksEngineFor ops o instants workers taken stop fetched asked asked' status
  asks_of taken stop status MayNot may (inl (one, is, e)) =
      inl (one, of_runnable ops o instants fetched a runnable (λ b. AsksToRun b instants workers taken stop one) is, e)
  asks_of taken stop status MayNot may (inr (p, e)) = inr (inr (may p), e)

  -- how that ended
  pub played : (before after : SeenSource) (out out' err err' : SeenSink) (status : ℕ) (end : Ending) → (a.inputs.items ≡ [] → after ≡ before) →
      (taken : List ℕ) (stop : ReadStop) → Read (limit_number limit.Input) before after taken stop → IsAsked a.inputs.items taken →
      EndsRunBy kinds a instants workers taken stop asked asked' out out' end → TellsEnding end err err' status →
      (others : List ℕ) × (halt : ReadStop) × Read (limit_number limit.Input) before after others halt × ReadsSo ops o fetched before after others
      × AsksEngineFor ops o instants workers others halt fetched asked asked' status
      × EndsRunning (λ b. OwesRun kinds b instants others halt) (λ b. LinesAllow kinds b instants others halt)
      (OfProgram (λ b. FailsInPiece b instants workers others halt asked asked' out out') ops o fetched) ops o instants halt fetched out out' err err' status
  played before after out out' err err' status end alone taken stop read bytes left told = (
    taken,
    stop,
    read,
    reads_so ops o instants fetched a runnable before after taken alone bytes,
    asks_of taken stop status (HasBroken end) (λ broken. broken_status end err err' status broken told) left.asks,
    ends_run (λ b. OwesRun kinds b instants taken stop) (λ b. LinesAllow kinds b instants taken stop) _ ops o instants fetched stop a runnable
        (owed_allowed kinds a instants taken stop) end out out' err err' status left.output
        (λ fault. of_program ops o instants fetched a runnable (λ b. FailsInPiece b instants workers taken stop asked asked' out out') (left.in_order fault)) told,
  )

-- a run in one piece that has met this ends so
pub played_met : (words : ProgramWords) (workers : ℕ) (block : Option ℕ) (given : Given) (asked asked' : Option (List PlayRequest)) (out out' err err' : SeenSink) (status : ℕ) →
    EndsRunning (λ a. OwesRun (kinds_of given.operators) a words.instants given.taken given.stop)
    (λ a. LinesAllow (kinds_of given.operators) a words.instants given.taken given.stop)
    (OfProgram (λ a. FailsInPiece a words.instants workers given.taken given.stop asked asked' out out') given.operators
    (inferring_options words.scale words.lead) given.fetched)
    given.operators (inferring_options words.scale words.lead) words.instants given.stop given.fetched
    out out' err err' status →
    EndsBy (Owes (Run words workers block) given) (MayStand (Run words workers block) given)
    (λ output. OwesOutput (Run words workers block) given output × StopsInPiece (Run words workers block) given asked asked' out out') out out' err err' status
played_met words workers block given asked asked' out out' err err' status ends = ends

-- words that name none
pub plays_none : (found : Option Command) (asked : Option (List PlayRequest)) (before after : World) (status : ℕ) → None ≡ found →
    after.shelf ≡ before.shelf → after.source ≡ before.source → after.out ≡ before.out →
    Tells 2 no_command.err before.err after.err status → EndsPlaying found asked asked before after status
plays_none found asked before after status is shelf source out told =
    let P : Option Command → Type 0 = λ o. EndsPlaying o asked asked before after status in
    subst P is (refl, inl (declines no_command before after status refl shelf source out told))

-- words that memory is too short to read
pub plays_short : (found : Option Command) (asked : Option (List PlayRequest)) (before after : World) (status : ℕ) → after.shelf ≡ before.shelf →
    after.source ≡ before.source → after.out ≡ before.out →
    Tells 7 memory_line before.err after.err status → EndsPlaying found asked asked before after status
plays_short None asked before after status shelf source out told =
    (refl, inr (declines (out_of_memory []) before after status refl shelf source out told))
plays_short (Some command) asked before after status shelf source out told =
    inr (refl, declines (out_of_memory []) before after status refl shelf source out told)

-- where no count has risen, a run in one piece ends as `run` does
pub plays_as_run : (command : Command) (asked asked' : Option (List PlayRequest)) (before after : World) (status : ℕ) →
    EndsPlaying (Some command) asked asked' before after status → IsFaultless before after → Ends (Some command) before after status
plays_as_run command asked asked' before after status (inl (given, met, asks, inl answered)) none = inl (given, met, inl answered)
plays_as_run command asked asked' before after status (inl (given, met, asks, inr (output, may, breaks))) none = absurd (none.out breaks.failed.faults)
plays_as_run command asked asked' before after status (inr (same, declined)) none = inr declined
