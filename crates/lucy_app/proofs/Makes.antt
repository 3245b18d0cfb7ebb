-- How `make` ends, by how its parts came out.
use Rattle.std.proofs.Common.{ℕ, ◌≡◌, ◌⊎◌, List, [], ◌∷◌, Option, Some, None, Result, Ok, Err, refl, subst, inl, inr}
use Rattle.std.specs.Prelude.{ℤ, ◌≢◌}
use Rattle.lucy_word.specs.Bits.{Bits}
use Rattle.lucy_host.specs.Operators.{Operator, kinds_of}
use Rattle.lucy_lines.specs.declared.reader.TextFault.{TextFault}
use Rattle.lucy_text.specs.Sources.{Unread}
use Rattle.lucy_text.specs.Outside.{SeenSink}
use Rattle.lucy_program.specs.declared.options.Options.{Options}
use Rattle.lucy_program.specs.declared.accepted.Accepted.{Accepted}
use Rattle.lucy_run.specs.declared.ending.Ending.{Ending}
use Rattle.lucy_run.specs.declared.ending.Ending.TheVariants as ending
use Rattle.lucy_run.specs.Owes.{EndsFor}
use Rattle.lucy_make.specs.Text.{made_text}
use Rattle.lucy_make.specs.Owes.{OwesSummary}
use Rattle.lucy_text.specs.declared.shelf.ShelfError.{ShelfError}
use Rattle.lucy_lines.proofs.SinkLaws.{unwritten}
use Rattle.lucy_command.specs.declared.words.MakeWords.{MakeWords}
use Rattle.lucy_command.specs.Commands.{Make}
use Rattle.lucy_app.specs.Commands.{inferring_options}
use Rattle.lucy_app.specs.Answers.{printed, out_of_memory}
use Rattle.lucy_app.specs.Endings.{ending_told, ended_answer}
use Rattle.lucy_front.specs.Refusals.{memory_line}
use Rattle.lucy_app.specs.Ends.{Tells, MayStand, MayFail}
use Rattle.lucy_app.specs.Owes.{Owes}
use Rattle.lucy_app.specs.Running.{IsRunnable, OwesRunning}
use Rattle.lucy_app.specs.Outcomes.{IsAccepting, refusal_answer, EndsMake, Prints, TellsEnding, TellsRefusal, made_given, NoRun}
use Rattle.lucy_app.specs.declared.refusal.Refusal.{Refusal}
use Rattle.lucy_app.specs.declared.refusal.Refusal.TheVariants as refusal
use Rattle.lucy_app.proofs.Sinks.{ends_refused}
use Rattle.lucy_app.proofs.Runs.{unrun_owed}

-- no run ends with a failed write, as far as its input says
no_fault : (words : List Bits) (lists : List (List ℤ)) (fault : Option TextFault) → EndsFor words None lists fault ending.WriteFault → ⊥
no_fault words lists (Some f) e = let x : ending.WriteFault ≡ ending.Input f = e in cc x
no_fault words lists None (inl e) = let x = e.0 in cc x
no_fault words lists None (inr e) = let x = e.0 in cc x

module _ (words : MakeWords) (lends : List Operator) where
  abbrev Owed : Accepted → List ℕ → Ending → Type 0
  Owed a = OwesSummary words.stages (kinds_of lends) a

  abbrev made : List (Result (List ℕ) ShelfError)
  made = Ok (made_text words.stages) ∷ []

  -- there was no memory for the text
  pub untold : (out err err' : SeenSink) (status : ℕ) → TellsRefusal refusal.OutOfMemory err err' status → EndsMake words lends out out err err' status
  untold out err err' status told =
      ends_refused (Owes (Make words) (made_given lends)) (MayStand (Make words) (made_given lends)) (MayFail (Make words) (made_given lends) out out) refl refusal.OutOfMemory out out err err' status (inl refl) refl told

  refusal_owed : (e : Refusal) → (e ≡ refusal.OutOfMemory) ⊎ OwesRunning NoRun lends (inferring_options 1 1) None Unread made (refusal_answer e) →
      (e ≡ refusal.OutOfMemory) ⊎ Owes (Make words) (made_given lends) (refusal_answer e)
  refusal_owed e (inl out) = inl out
  refusal_owed e (inr owed) = inr (unrun_owed Owed (λ a output. Unit {0}) (Unit {0}) lends (inferring_options 1 1) None made (refusal_answer e) owed)

  module _ (ops : List Operator) (o : Options) (text : List ℕ) (answer : Result Accepted Refusal) (same : ops ≡ lends) (inferring : o ≡ inferring_options 1 1) (told : text ≡ made_text words.stages)
      (accepting : IsAccepting ops o None (Ok text ∷ []) answer) where
    accepting_so : IsAccepting lends (inferring_options 1 1) None made answer
    accepting_so =
        let P : List Operator → Type 0 = λ u. IsAccepting u o None (Ok text ∷ []) answer in
        let Q : Options → Type 0 = λ u. IsAccepting lends u None (Ok text ∷ []) answer in
        let R : List ℕ → Type 0 = λ u. IsAccepting lends (inferring_options 1 1) None (Ok u ∷ []) answer in
        subst R told (subst Q inferring (subst P same accepting))

    -- the text was refused
    pub unmade : (e : Refusal) (out err err' : SeenSink) (status : ℕ) → answer ≡ Err e → TellsRefusal e err err' status → EndsMake words lends out out err err' status
    unmade e out err err' status is told =
        let P : Result Accepted Refusal → Type 0 = λ r. IsAccepting lends (inferring_options 1 1) None made r in
        ends_refused (Owes (Make words) (made_given lends)) (MayStand (Make words) (made_given lends)) (MayFail (Make words) (made_given lends) out out) refl e out out err err' status (refusal_owed e (subst P is accepting_so)) refl told

    module _ (a : Accepted) (is : answer ≡ Ok a) where
      runnable : IsRunnable lends (inferring_options 1 1) None (made_text words.stages) a
      runnable =
          let P : Result Accepted Refusal → Type 0 = λ r. IsAccepting lends (inferring_options 1 1) None made r in
          subst P is accepting_so

      -- the figures were printed, as far as they could be
      pub figured : (print : List ℕ) (out out' err err' : SeenSink) (status : ℕ) → Owed a print ending.Done → Prints print out out' err err' status → EndsMake words lends out out' err err' status
      figured print out out' err err' status owed (inl answers) = inl (printed print, inl (inr (a, runnable.0, inr (runnable.1, print, ending.Done, owed, refl))), answers)
      figured print out out' err err' status owed (inr breaks) = inr (print, ((printed print, inr (a, runnable.0, inr (runnable.1, print, ending.Done, owed, refl)), refl), tt), breaks)

      -- nothing was printed, and why was told
      told_so : (end : Ending) (out err err' : SeenSink) (status : ℕ) → Owed a [] end → Tells (ending_told end).0 (ending_told end).1 err err' status → EndsMake words lends out out err err' status
      told_so end out err err' status owed told = inl (ended_answer [] end, inl (inr (a, runnable.0, inr (runnable.1, [], end, owed, refl))), record { printed = unwritten out; told = told })

      -- or there was no memory for that
      short_of_memory : (out err err' : SeenSink) (status : ℕ) → Tells 7 memory_line err err' status → EndsMake words lends out out err err' status
      short_of_memory out err err' status told = inl (out_of_memory [], inr ([], refl, refl), record { printed = unwritten out; told = told })

      -- the run was refused, or memory ran out
      pub undone : (end : Ending) (out err err' : SeenSink) (status : ℕ) → (end ≡ ending.OutOfMemory) ⊎ ((end ≢ ending.Done) × Owed a [] end) → TellsEnding end err err' status →
          EndsMake words lends out out err err' status
      undone ending.Done out err err' status (inl e) told = absurd (cc e)
      undone ending.Done out err err' status (inr is) told = absurd (is.0 refl)
      undone (ending.Input fault) out err err' status (inl e) told = absurd (cc e)
      undone (ending.Input fault) out err err' status (inr is) (inl told) = told_so (ending.Input fault) out err err' status is.1 told
      undone (ending.Input fault) out err err' status (inr is) (inr told) = short_of_memory out err err' status told
      undone (ending.Limit passed) out err err' status (inl e) told = absurd (cc e)
      undone (ending.Limit passed) out err err' status (inr is) (inl told) = told_so (ending.Limit passed) out err err' status is.1 told
      undone (ending.Limit passed) out err err' status (inr is) (inr told) = short_of_memory out err err' status told
      undone ending.WriteFault out err err' status (inl e) told = absurd (cc e)
      undone ending.WriteFault out err err' status (inr is) told = absurd (no_fault _ _ is.1.2 is.1.6)
      undone ending.OutOfMemory out err err' status is told = short_of_memory out err err' status told
