-- How a command ends that runs a program, by what has been read.
use Rattle.lucy_program.specs.declared.options.Options.{Options}
use Rattle.std.proofs.Common.{ℕ, ◌≡◌, ◌⊎◌, List, [], ◌∷◌, Result, Ok, Err, refl, sym, subst, inl, inr}
use Rattle.std.specs.Prelude.{Option, ◌≢◌}
use Rattle.lucy_word.specs.Limits.{limit_number}
use Rattle.lucy_word.specs.declared.limit.Limit.TheVariants as limit
use Rattle.lucy_host.specs.Operators.{Operator}
use Rattle.lucy_text.specs.declared.shelf.ShelfError.{ShelfError}
use Rattle.lucy_text.proofs.OutsideLaws.{followed-nil, still_none}
use Rattle.lucy_text.specs.Outside.{SeenSource, SeenSink}
use Rattle.lucy_text.specs.Sources.{ReadStop, Unread, Read}
use Rattle.lucy_program.specs.declared.accepted.Accepted.{Accepted}
use Rattle.lucy_run.specs.declared.ending.Ending.{Ending}
use Rattle.lucy_run.specs.Ends.{IsFrontOf, Outputs, EndsWith, FailsInOrder}
use Rattle.lucy_lines.specs.declared.input.InputSpec.{InputSpec}
use Rattle.lucy_host.specs.Operators.{kinds_of}
use Rattle.lucy_run.specs.Owes.{OwesRun, OwesKahn, LinesAllow}
use Rattle.lucy_run.specs.Tracing.{OwesTrace}
use Rattle.lucy_command.specs.Commands.{ProgramWords, Run, Kahn, Trace}
use Rattle.lucy_app.specs.Commands.{inferring_options, HasText, TakesInput}
use Rattle.lucy_app.specs.World.{Given}
use Rattle.lucy_app.specs.Answers.{Answer, OutputOf}
use Rattle.lucy_app.specs.Endings.{ended_answer}
use Rattle.lucy_app.specs.Owes.{Owes, OwesOutput}
use Rattle.lucy_app.specs.Ends.{EndsBy, MayStand, MayFail}
use Rattle.lucy_app.specs.Running.{IsRunnable, OfRunnable, OwesRunning}
use Rattle.lucy_app.specs.Outcomes.{IsAccepting, NoRun, refusal_answer, RunOutputs, EndsRunning, OfProgram, TellsEnding, TellsRefusal}
use Rattle.lucy_lines.specs.Feeding.{IsAsked}
use Rattle.lucy_command.specs.Named.{block_or_default}
use Rattle.lucy_run.specs.declared.ending.Ending.TheVariants.{WriteFault}
use Rattle.lucy_app.specs.declared.refusal.Refusal.{Refusal}
use Rattle.lucy_app.specs.declared.refusal.Refusal.TheVariants.{OutOfMemory}
use Rattle.lucy_app.proofs.Runs.{text_more, ends_unrun, ends_run}

-- a program has no inputs, or some
pub some_or_none : (inputs : List InputSpec) → (inputs ≡ []) ⊎ (inputs ≢ [])
some_or_none [] = inl refl
some_or_none (input ∷ inputs) = inr (λ e. cc e)

-- what is read of a source, or that it was left alone
abbrev pub ReadsSo : List Operator → Options → List (Result (List ℕ) ShelfError) → (before after : SeenSource) (taken : List ℕ) → Type 0
ReadsSo ops o fetched before after taken = (after ≡ before) ⊎ TakesInput ops o fetched taken

module _ (ops lends : List Operator) (found o : Options) (instants : Option ℕ) (fetched : List (Result (List ℕ) ShelfError)) (answer : Result Accepted Refusal)
    (same : ops ≡ lends) (is_o : found ≡ o) (accepting : IsAccepting ops found instants fetched answer) where
  accepting_so : IsAccepting lends o instants fetched answer
  accepting_so =
      let P : List Operator → Type 0 = λ u. IsAccepting u found instants fetched answer in
      let Q : Options → Type 0 = λ u. IsAccepting lends u instants fetched answer in
      subst Q is_o (subst P same accepting)

  -- the program that is accepted can be run
  pub runnable_so : (a : Accepted) → answer ≡ Ok a → HasText fetched (λ text. IsRunnable lends o instants text a)
  runnable_so a is =
      let P : Result Accepted Refusal → Type 0 = λ r. IsAccepting lends o instants fetched r in
      subst P is accepting_so

  -- and what isn't is refused, unless memory ran out
  pub refused_so : (e : Refusal) → answer ≡ Err e → (e ≡ OutOfMemory) ⊎ OwesRunning NoRun lends o instants Unread fetched (refusal_answer e)
  refused_so e is =
      let P : Result Accepted Refusal → Type 0 = λ r. IsAccepting lends o instants fetched r in
      subst P is accepting_so

-- a program that can be run
module _ (ops : List Operator) (o : Options) (instants : Option ℕ) (fetched : List (Result (List ℕ) ShelfError)) (a : Accepted)
    (runnable : HasText fetched (λ text. IsRunnable ops o instants text a)) where
  -- what holds of it holds of a program that was fetched
  pub of_program : (Holds : Accepted → Type 0) → Holds a → OfProgram Holds ops o fetched
  of_program Holds holds = text_more fetched _ _ (λ text can. (a, can.0, holds)) runnable

  pub of_runnable : (Holds : Accepted → Type 0) → Holds a → OfRunnable Holds ops o instants fetched
  of_runnable Holds holds = text_more fetched _ _ (λ text can. (a, can, holds)) runnable

  -- what was read is what it asked for
  pub reads_so : (before after : SeenSource) (taken : List ℕ) → (a.inputs.items ≡ [] → after ≡ before) → IsAsked a.inputs.items taken →
      ReadsSo ops o fetched before after taken
  reads_so before after taken alone asked = elim (some_or_none a.inputs.items) [
    | inl none ↦ inl (alone none)
    | inr some ↦ inr (text_more fetched _ _ (λ text can. (a, can.0, some, asked)) runnable)
  ]

module _ (Owed : List ℕ → ReadStop → Accepted → List ℕ → Ending → Type 0) (MayBreak : List ℕ → ReadStop → Accepted → List ℕ → Type 0) (Order : List ℕ → ReadStop → Accepted → (out out' : SeenSink) → Type 0)
    (may : (taken : List ℕ) (stop : ReadStop) (a : Accepted) (output : List ℕ) (end : Ending) → Owed taken stop a output end → MayBreak taken stop a output) (ops lends : List Operator) (found o : Options)
    (instants : Option ℕ) (fetched : List (Result (List ℕ) ShelfError)) (answer : Result Accepted Refusal) (same : ops ≡ lends) (is_o : found ≡ o) (accepting : IsAccepting ops found instants fetched answer) where
  -- the program was not run
  pub unrun : (s : SeenSource) (out err err' : SeenSink) (status : ℕ) (e : Refusal) → answer ≡ Err e → TellsRefusal e err err' status →
      (taken : List ℕ) × (stop : ReadStop) × Read (limit_number limit.Input) s s taken stop × ReadsSo lends o fetched s s taken
      × EndsRunning (Owed taken stop) (MayBreak taken stop) (OfProgram (λ a. Order taken stop a out out) lends o fetched) lends o instants stop fetched out out err err' status
  unrun s out err err' status e is told = (
    [],
    Unread,
    record { took = sym (followed-nil s.left); stopped = (refl, refl); none_follows = still_none s.since_stop },
    inl refl,
    ends_unrun (Owed [] Unread) (MayBreak [] Unread) _ lends o instants fetched e out out err err' status (refused_so ops lends found o instants fetched answer same is_o accepting e is) refl told,
  )

  -- the program was run
  pub ran : (before after : SeenSource) (out out' err err' : SeenSink) (status : ℕ) (a : Accepted) (end : Ending) → answer ≡ Ok a → (a.inputs.items ≡ [] → after ≡ before) →
      (taken : List ℕ) (stop : ReadStop) → Read (limit_number limit.Input) before after taken stop → IsAsked a.inputs.items taken →
      EndsWith (Owed taken stop a) (MayBreak taken stop a) out out' end → (end ≡ WriteFault → Order taken stop a out out') → TellsEnding end err err' status →
      (others : List ℕ) × (halt : ReadStop) × Read (limit_number limit.Input) before after others halt × ReadsSo lends o fetched before after others
      × EndsRunning (Owed others halt) (MayBreak others halt) (OfProgram (λ b. Order others halt b out out') lends o fetched) lends o instants halt fetched out out' err err' status
  ran before after out out' err err' status a end is alone taken stop read asked left order told =
      let runnable = runnable_so ops lends found o instants fetched answer same is_o accepting a is in
      let reads = reads_so lends o instants fetched a runnable before after taken alone asked in
      let in_order : end ≡ WriteFault → OfProgram (λ b. Order taken stop b out out') lends o fetched =
      λ fault. of_program lends o instants fetched a runnable (λ b. Order taken stop b out out') (order fault) in
      (taken, stop, read, reads, ends_run (Owed taken stop) (MayBreak taken stop) _ lends o instants fetched stop a runnable (may taken stop a) end out out' err err' status left in_order told)

-- a command that ends so with outputs that are owed ends so with others that are
pub ends_more : (Owed : Answer → Type 0) (A B : List ℕ → Type 0) (P Q : Type 0) → ((output : List ℕ) → A output → B output) → (P → Q) → (out out' err err' : SeenSink) (status : ℕ) →
    EndsBy Owed (IsFrontOf A) (λ output. A output × P) out out' err err' status → EndsBy Owed (IsFrontOf B) (λ output. B output × Q) out out' err err' status
ends_more Owed A B P Q more order out out' err err' status (inl (answer, inl owed, answers)) = inl (answer, inl owed, answers)
ends_more Owed A B P Q more order out out' err err' status (inl (answer, inr (front, inl none, is), answers)) = inl (answer, inr (front, inl none, is), answers)
ends_more Owed A B P Q more order out out' err err' status (inl (answer, inr (front, inr (output, n, owed, e), is), answers)) = inl (answer, inr (front, inr (output, n, more output owed, e), is), answers)
ends_more Owed A B P Q more order out out' err err' status (inr (output, (owed, in_order), breaks)) = inr (output, (more output owed, order in_order), breaks)

-- `run` that has met this ends so
pub run_met : (words : ProgramWords) (workers : ℕ) (block : Option ℕ) (given : Given) (out out' err err' : SeenSink) (status : ℕ) →
    EndsRunning (λ a. OwesRun (kinds_of given.operators) a words.instants given.taken given.stop) (λ a. LinesAllow (kinds_of given.operators) a words.instants given.taken given.stop)
    (OfProgram (λ a. FailsInOrder (kinds_of given.operators) a words.instants (block_or_default block) given.taken given.stop out out') given.operators (inferring_options words.scale words.lead) given.fetched)
    given.operators (inferring_options words.scale words.lead) words.instants given.stop given.fetched
    out out' err err' status → EndsBy (Owes (Run words workers block) given) (MayStand (Run words workers block) given) (MayFail (Run words workers block) given out out') out out' err err' status
run_met words workers block given out out' err err' status ends = ends

-- an output that is owed is that of an answer
output_owed : (Owed : Accepted → List ℕ → Ending → Type 0) (ops : List Operator) (o : Options) (instants : Option ℕ) (stop : ReadStop) (fetched : List (Result (List ℕ) ShelfError)) (output : List ℕ) →
    RunOutputs (λ a. Outputs (Owed a)) ops o instants fetched output → OutputOf (OwesRunning Owed ops o instants stop fetched) output
output_owed Owed ops o instants stop [] output owed = absurd owed
output_owed Owed ops o instants stop (Err e ∷ more) output owed = absurd owed
output_owed Owed ops o instants stop (Ok text ∷ more) output (a, runs, (end, owed)) = (ended_answer output end, inr (a, runs.0, inr (runs.1, output, end, owed, refl)), refl)

-- and `kahn`
pub kahn_met : (Nothing : Type 0) (words : ProgramWords) (given : Given) (out out' err err' : SeenSink) (status : ℕ) →
    EndsRunning (λ a. OwesKahn (kinds_of given.operators) a words.instants given.taken given.stop) (λ a. Outputs (OwesKahn (kinds_of given.operators) a words.instants given.taken given.stop)) Nothing
    given.operators (inferring_options words.scale words.lead) words.instants given.stop
    given.fetched out out' err err' status → EndsBy (Owes (Kahn words) given) (MayStand (Kahn words) given) (MayFail (Kahn words) given out out') out out' err err' status
kahn_met Nothing words given out out' err err' status ends =
    ends_more (Owes (Kahn words) given) _ (OwesOutput (Kahn words) given) _ _
    (λ output owed. output_owed (λ a. OwesKahn (kinds_of given.operators) a words.instants given.taken given.stop) given.operators (inferring_options words.scale words.lead) words.instants given.stop
    given.fetched output owed)
    (λ order. tt) out out' err err' status ends

-- and `trace`
pub trace_met : (Nothing : Type 0) (words : ProgramWords) (workers : ℕ) (given : Given) (out out' err err' : SeenSink) (status : ℕ) →
    EndsRunning (λ a. OwesTrace a words.instants given.taken given.stop) (λ a. Outputs (OwesTrace a words.instants given.taken given.stop)) Nothing given.operators
    (inferring_options words.scale words.lead) words.instants given.stop given.fetched out out' err err' status →
    EndsBy (Owes (Trace words workers) given) (MayStand (Trace words workers) given) (MayFail (Trace words workers) given out out') out out' err err' status
trace_met Nothing words workers given out out' err err' status ends =
    ends_more (Owes (Trace words workers) given) _ (OwesOutput (Trace words workers) given) _ _
    (λ output owed. output_owed (λ a. OwesTrace a words.instants given.taken given.stop) given.operators (inferring_options words.scale words.lead) words.instants given.stop given.fetched output owed)
    (λ order. tt) out out' err err' status ends
