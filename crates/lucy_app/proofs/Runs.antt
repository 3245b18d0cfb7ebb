-- How a command ends that runs a program.
use Rattle.lucy_program.specs.declared.options.Options.{Options}
use Rattle.std.proofs.Common.{ℕ, ◌≡◌, ◌⊎◌, List, [], ◌∷◌, length, Option, Result, Ok, Err, refl, sym, inl, inr, arith}
use Rattle.std.specs.Prelude.{IsOkAnd}
use Rattle.std.proofs.lemmas.List.{take_all}
use Rattle.lucy_host.specs.Operators.{Operator}
use Rattle.lucy_text.specs.declared.shelf.ShelfError.{ShelfError}
use Rattle.lucy_text.specs.Sources.{ReadStop, Unread}
use Rattle.lucy_text.specs.Outside.{SeenSink, Writes}
use Rattle.lucy_program.specs.declared.accepted.Accepted.{Accepted}
use Rattle.lucy_run.specs.declared.ending.Ending.{Ending}
use Rattle.lucy_run.specs.declared.ending.Ending.TheVariants.{Done, Input, Limit, WriteFault, OutOfMemory}
use Rattle.lucy_run.specs.Ends.{IsFrontOf, EndsWith}
use Rattle.lucy_app.specs.Answers.{Answer, out_of_memory}
use Rattle.lucy_app.specs.Endings.{ended_answer}
use Rattle.lucy_app.specs.Commands.{HasText}
use Rattle.lucy_app.specs.Running.{IsRunnable, OwesEnded, OwesRunning}
use Rattle.lucy_app.specs.Ends.{Tells}
use Rattle.lucy_app.specs.Outcomes.{refusal_answer, TellsRefusal, TellsEnding, RunOutputs, EndsRunning, NoRun}
use Rattle.lucy_app.specs.declared.refusal.Refusal.{Refusal}
use Rattle.lucy_app.specs.declared.refusal.Refusal.TheVariants as refusal
use Rattle.lucy_app.proofs.Sinks.{ends_refused}

-- what follows from what holds of an answer that went well
pub ok_more : {T E : Type 0} (r : Result T E) (P Q : T → Type 0) → ((x : T) → P x → Q x) → IsOkAnd r P → IsOkAnd r Q
ok_more (Ok x) P Q more h = more x h
ok_more (Err e) P Q more h = h

-- what is known of a text that was fetched
pub text_more : (fetched : List (Result (List ℕ) ShelfError)) (P Q : List ℕ → Type 0) → ((text : List ℕ) → P text → Q text) → HasText fetched P → HasText fetched Q
text_more [] P Q more h = h
text_more (r ∷ others) P Q more h = ok_more r P Q more h

module _ (Owed : Accepted → List ℕ → Ending → Type 0) (MayBreak : Accepted → List ℕ → Type 0) (InOrder : Type 0) (ops : List Operator) (o : Options) (instants : Option ℕ) (fetched : List (Result (List ℕ) ShelfError)) where
  lacking_owed : (a : Accepted) (x : Answer) → OwesEnded (NoRun a) instants Unread a x → OwesEnded (Owed a) instants Unread a x
  lacking_owed a x (inl h) = inl h
  lacking_owed a x (inr h) = absurd h.3

  pub unrun_owed : (x : Answer) → OwesRunning NoRun ops o instants Unread fetched x → OwesRunning Owed ops o instants Unread fetched x
  unrun_owed x (inl refused) = inl refused
  unrun_owed x (inr h) = inr (text_more fetched _ _ (λ text is. (is.0, is.1, lacking_owed is.0 x is.2)) h)

  -- the program is not run, and why was told
  pub ends_unrun : (e : Refusal) (out out' err err' : SeenSink) (status : ℕ) → (e ≡ refusal.OutOfMemory) ⊎ OwesRunning NoRun ops o instants Unread fetched (refusal_answer e) → out' ≡ out →
      TellsRefusal e err err' status → EndsRunning Owed MayBreak InOrder ops o instants Unread fetched out out' err err' status
  ends_unrun e out out' err err' status (inl is) same told = ends_refused _ _ _ (inl refl) e out out' err err' status (inl is) same told
  ends_unrun e out out' err err' status (inr owed) same told = ends_refused _ _ _ (inl refl) e out out' err err' status (inr (unrun_owed (refusal_answer e) owed)) same told

  module _ (stop : ReadStop) (a : Accepted) (runnable : HasText fetched (λ text. IsRunnable ops o instants text a)) (may : (output : List ℕ) (end : Ending) → Owed a output end → MayBreak a output) where
    answer_owed : (output : List ℕ) (end : Ending) → Owed a output end → OwesRunning Owed ops o instants stop fetched (ended_answer output end)
    answer_owed output end owed = inr (text_more fetched _ _ (λ text is. (a, is.0, inr (is.1, output, end, owed, refl))) runnable)

    breaks_in : (output : List ℕ) → MayBreak a output → RunOutputs MayBreak ops o instants fetched output
    breaks_in output breaks = text_more fetched _ _ (λ text is. (a, is, breaks)) runnable

    front_stands : (front : List ℕ) → IsFrontOf (MayBreak a) front → IsFrontOf (RunOutputs MayBreak ops o instants fetched) front
    front_stands front (inl none) = inl none
    front_stands front (inr is) = inr (is.0, is.1, breaks_in is.0 is.2, is.3)

    -- the output stands, and its ending was told
    whole : (output : List ℕ) (end : Ending) (out out' err err' : SeenSink) (status : ℕ) → Owed a output end → Writes out out' output → Tells (ended_answer output end).status (ended_answer output end).err err err' status →
        EndsRunning Owed MayBreak InOrder ops o instants stop fetched out out' err err' status
    whole output end out out' err err' status owed writes told = inl (ended_answer output end, inl (answer_owed output end owed), record { printed = writes; told = told })

    -- or there was no memory for that
    untold : (output : List ℕ) (end : Ending) (out out' err err' : SeenSink) (status : ℕ) → Owed a output end → Writes out out' output → Tells 7 (out_of_memory output).err err err' status →
        EndsRunning Owed MayBreak InOrder ops o instants stop fetched out out' err err' status
    untold output end out out' err err' status owed writes told =
        let front = inr (output, length output, breaks_in output (may output end owed), sym (take_all (length output) output (omega arith))) in
        inl (out_of_memory output, inr (output, front, refl), record { printed = writes; told = told })

    -- the program is run, and how that ended was told
    pub ends_run : (end : Ending) (out out' err err' : SeenSink) (status : ℕ) → EndsWith (Owed a) (MayBreak a) out out' end → (end ≡ WriteFault → InOrder) → TellsEnding end err err' status →
        EndsRunning Owed MayBreak InOrder ops o instants stop fetched out out' err err' status
    ends_run Done out out' err err' status left order told = whole left.0 Done out out' err err' status left.1 left.2 told
    ends_run (Input fault) out out' err err' status left order (inl told) = whole left.0 (Input fault) out out' err err' status left.1 left.2 told
    ends_run (Input fault) out out' err err' status left order (inr told) = untold left.0 (Input fault) out out' err err' status left.1 left.2 told
    ends_run (Limit passed) out out' err err' status left order (inl told) = whole left.0 (Limit passed) out out' err err' status left.1 left.2 told
    ends_run (Limit passed) out out' err err' status left order (inr told) = untold left.0 (Limit passed) out out' err err' status left.1 left.2 told
    ends_run WriteFault out out' err err' status left order told = inr (left.0, (breaks_in left.0 left.1, order refl), record { failed = left.2; told = told })
    ends_run OutOfMemory out out' err err' status left order told = inl (out_of_memory left.0, inr (left.0, front_stands left.0 left.1, refl), record { printed = left.2; told = told })
