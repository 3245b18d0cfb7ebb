-- How a command ends that came out so and was told so.
use Rattle.std.proofs.Common.{ℕ, ◌≡◌, ◌⊎◌, List, [], Option, Some, None, Result, Ok, Err, refl, sym, subst, inl, inr}
use Rattle.std.specs.Prelude.{MatchOption}
use Rattle.std.specs.declared.alloc.Global.{Global}
use Rattle.std.specs.declared.vec.Vec.{Vec}
use Rattle.lucy_command.specs.Commands.{ProgramWords, Command, Run}
use Rattle.lucy_app.specs.Commands.{running_words}
use Rattle.lucy_run.specs.Ends.{IsFrontOf}
use Rattle.lucy_text.specs.Outside.{SeenSink, Writes}
use Rattle.lucy_lines.proofs.SinkLaws.{unwritten}
use Rattle.lucy_app.specs.World.{World, Given, HasMetWorld}
use Rattle.lucy_app.specs.Endings.{write_fault_line}
use Rattle.lucy_front.specs.Refusals.{memory_line}
use Rattle.lucy_app.specs.Answers.{Answer, printed, no_command, no_instants, no_buffer, read_fault, out_of_memory}
use Rattle.lucy_app.specs.Owes.{Owes, OwesOutput}
use Rattle.lucy_app.specs.Ends.{Tells, EndsBy, MayStand, StopsInOrder, MayFail, Declines, EndsSo, Ends}
use Rattle.lucy_run.specs.declared.ending.Ending.{Ending}
use Rattle.lucy_run.specs.declared.ending.Ending.TheVariants as ending
use Rattle.lucy_app.specs.Outcomes.{refusal_answer, IsOwedOutcome, TellsRefusal, Delivers, TellsEnding, EndsGiven}
use Rattle.lucy_app.specs.declared.refusal.Refusal.{Refusal}
use Rattle.lucy_app.specs.declared.refusal.Refusal.TheVariants.{Program, Input, NoInstants, NoBuffer, Log, ReadFault, OutOfMemory}

-- a sink that is as it was has no more bytes
pub nothing_written : (s t : SeenSink) (bytes : List ℕ) → t ≡ s → bytes ≡ [] → Writes s t bytes
nothing_written s t bytes same none =
    let P : SeenSink → Type 0 = λ u. Writes s u bytes in
    let Q : List ℕ → Type 0 = λ u. Writes s s u in
    subst P (sym same) (subst Q (sym none) (unwritten s))

-- a refusal prints nothing
prints_nothing : (e : Refusal) → (refusal_answer e).out ≡ []
prints_nothing (Program reason) = refl
prints_nothing (Input cause) = refl
prints_nothing NoInstants = refl
prints_nothing NoBuffer = refl
prints_nothing (Log e) = refl
prints_nothing ReadFault = refl
prints_nothing OutOfMemory = refl

module _ (Owed : Answer → Type 0) (Stands Failing : List ℕ → Type 0) (nothing : Stands []) where
  may_refuse : (e : Refusal) → (e ≡ OutOfMemory) ⊎ Owed (refusal_answer e) →
      Owed (refusal_answer e) ⊎ ((front : List ℕ) × Stands front × (refusal_answer e ≡ out_of_memory front))
  may_refuse e (inl out) =
      let P : Refusal → Type 0 = λ r. Owed (refusal_answer r) ⊎ ((front : List ℕ) × Stands front × (refusal_answer r ≡ out_of_memory front)) in
      subst P (sym out) (inr ([], nothing, refl))
  may_refuse e (inr owed) = inl owed

  -- a command that is refused, and this was told
  pub ends_refused : (e : Refusal) (out out' err err' : SeenSink) (status : ℕ) → (e ≡ OutOfMemory) ⊎ Owed (refusal_answer e) → out' ≡ out → TellsRefusal e err err' status →
      EndsBy Owed Stands Failing out out' err err' status
  ends_refused e out out' err err' status owed same (inl line) =
      inl (refusal_answer e, may_refuse e owed, record { printed = nothing_written out out' (refusal_answer e).out same (prints_nothing e); told = line })
  ends_refused e out out' err err' status owed same (inr line) =
      inl (out_of_memory [], inr ([], nothing, refl), record { printed = nothing_written out out' [] same refl; told = line })

-- a command that runs no program owes what it prints
prints_owed : (command : Command) (given : Given) (print : List ℕ) → running_words command ≡ None → Owes command given (printed print) → OwesOutput command given print
prints_owed (Run words workers block) given print none owed = cc
prints_owed command given print none owed = (printed print, owed, refl)

-- of it nothing may stand
nothing_stands : (command : Command) (given : Given) → running_words command ≡ None → MayStand command given []
nothing_stands command given none =
    let empty : List ℕ = [] in
    let P : Option ProgramWords → Type 0 = λ o. MatchOption o (empty ≡ []) (λ words. IsFrontOf (OwesOutput command given) empty) in
    subst P (sym none) refl

-- a command that came out so, and whose outcome was delivered
ends_so : (command : Command) (given : Given) (outcome : Result (Vec ℕ Global) Refusal) (before after : World) (status : ℕ) → running_words command ≡ None → StopsInOrder command given before.out after.out →
    IsOwedOutcome (Owes command given) outcome → Delivers outcome before.out after.out before.err after.err status → EndsGiven command given before after status
ends_so command given (Ok print) before after status none order owed (inl answers) = inl (printed print.items, inl owed, answers)
ends_so command given (Ok print) before after status none order owed (inr breaks) = inr (print.items, (prints_owed command given print.items none owed, order), breaks)
ends_so command given (Err e) before after status none order owed told =
    ends_refused (Owes command given) (MayStand command given) (MayFail command given before.out after.out) (nothing_stands command given none) e before.out after.out before.err after.err status owed
    told.0 told.1

-- a read fault was told
pub tells_fault : (e : Refusal) (err err' : SeenSink) (status : ℕ) → e ≡ ReadFault → Tells 4 read_fault.err err err' status → TellsRefusal e err err' status
tells_fault e err err' status is told =
    let P : Refusal → Type 0 = λ r. TellsRefusal r err err' status in
    subst P (sym is) (inl told)

-- or that the instants are missing
pub tells_missing : (e : Refusal) (err err' : SeenSink) (status : ℕ) → e ≡ NoInstants → Tells 2 no_instants.err err err' status → TellsRefusal e err err' status
tells_missing e err err' status is told =
    let P : Refusal → Type 0 = λ r. TellsRefusal r err err' status in
    subst P (sym is) (inl told)

-- or that the buffer isn't there
pub tells_lost : (e : Refusal) (err err' : SeenSink) (status : ℕ) → e ≡ NoBuffer → Tells 2 no_buffer.err err err' status →
    TellsRefusal e err err' status
tells_lost e err err' status is told =
    let P : Refusal → Type 0 = λ r. TellsRefusal r err err' status in
    subst P (sym is) (inl told)

-- or that a write failed
pub tells_write_fault : (end : Ending) (err err' : SeenSink) (status : ℕ) → end ≡ ending.WriteFault → Tells 5 write_fault_line err err' status → TellsEnding end err err' status
tells_write_fault end err err' status is told =
    let P : Ending → Type 0 = λ x. TellsEnding x err err' status in
    subst P (sym is) told

-- nothing is called, and this is answered
pub declines : (answer : Answer) (before after : World) (status : ℕ) → answer.out ≡ [] → after.shelf ≡ before.shelf → after.source ≡ before.source → after.out ≡ before.out →
    Tells answer.status answer.err before.err after.err status → Declines answer before after status
declines answer before after status none shelf source out told = (shelf, source, record { printed = nothing_written before.out after.out answer.out out none; told = told })

-- words that name no command
pub ends_none : (found : Option Command) (before after : World) (status : ℕ) → None ≡ found → after.shelf ≡ before.shelf → after.source ≡ before.source → after.out ≡ before.out →
    Tells 2 no_command.err before.err after.err status → Ends found before after status
ends_none found before after status is shelf source out told =
    let P : Option Command → Type 0 = λ o. Ends o before after status in
    subst P is (declines no_command before after status refl shelf source out told)

-- words that name one, which memory is too short to read
pub ends_short : (found : Option Command) (before after : World) (status : ℕ) → (found ≡ None → ⊥) → after.shelf ≡ before.shelf → after.source ≡ before.source → after.out ≡ before.out →
    Tells 7 memory_line before.err after.err status → Ends found before after status
ends_short None before after status some shelf source out told = absurd (some refl)
ends_short (Some command) before after status some shelf source out told = inr (declines (out_of_memory []) before after status refl shelf source out told)

-- words that name one, which was carried out
pub ends_begun : (found : Option Command) (command : Command) (before after : World) (status : ℕ) → Some command ≡ found → EndsSo command before after status → Ends found before after status
ends_begun found command before after status is ends =
    let P : Option Command → Type 0 = λ o. Ends o before after status in
    subst P is (inl ends)

-- a command that was carried out, and came out so
pub ends_some : (found command : Command) (given : Given) (outcome : Result (Vec ℕ Global) Refusal) (before after : World) (status : ℕ) → command ≡ found → HasMetWorld command before after given →
    running_words command ≡ None → StopsInOrder command given before.out after.out → IsOwedOutcome (Owes command given) outcome → Delivers outcome before.out after.out before.err after.err status → EndsSo found before after status
ends_some found command given outcome before after status is met none order owed told =
    let P : Command → Type 0 = λ c. EndsSo c before after status in
    subst P is (given, met, ends_so command given outcome before after status none order owed told)

-- and that ends so
pub ends_with : (found command : Command) (given : Given) (before after : World) (status : ℕ) → command ≡ found → HasMetWorld command before after given → EndsGiven command given before after status →
    EndsSo found before after status
ends_with found command given before after status is met ends =
    let P : Command → Type 0 = λ c. EndsSo c before after status in
    subst P is (given, met, ends)

-- and so where the command is told in other words
pub ends_as : (found command : Command) (before after : World) (status : ℕ) → command ≡ found → EndsSo command before after status → EndsSo found before after status
ends_as found command before after status is ends =
    let P : Command → Type 0 = λ c. EndsSo c before after status in
    subst P is ends
