-- How a run ends that was asked for.
use Rattle.std.proofs.Common.{ℕ, ◌≡◌, ◌≢◌, ◌⊎◌, List, [], ◌∷◌, length, Option, None, Result, Ok, Err, refl, ap, sym, subst, inl, inr, arith}
use Rattle.std.specs.Prelude.{IfOk, IfErr}
use Rattle.std.specs.declared.alloc.Global.{Global}
use Rattle.std.specs.declared.vec.Vec.{Vec}
use Rattle.std.proofs.lemmas.List.{take_all}
use Rattle.lucy_word.specs.Limits.{limit_number}
use Rattle.lucy_word.specs.declared.limit.Limit.TheVariants as limit
use Rattle.lucy_host.specs.Operators.{Operator, kinds_of}
use Rattle.lucy_text.proofs.OutsideLaws.{followed-nil, still_none}
use Rattle.lucy_text.specs.Outside.{SeenSource, SeenSink, Writes}
use Rattle.lucy_text.specs.declared.shelf.ShelfError.{ShelfError}
use Rattle.lucy_lines.specs.Feeding.{IsAsked}
use Rattle.lucy_text.specs.Sources.{ReadStop, Unread, Read}
use Rattle.lucy_program.specs.declared.accepted.Accepted.{Accepted}
use Rattle.lucy_program.specs.declared.options.Options.{Options}
use Rattle.lucy_program.specs.Accepting.{IsAccepted}
use Rattle.lucy_run.specs.declared.ending.Ending.{Ending}
use Rattle.lucy_run.specs.declared.ending.Ending.TheVariants.{Done, Input, Limit, WriteFault, OutOfMemory}
use Rattle.lucy_run.specs.Ends.{IsFrontOf, Outputs, EndsOwed}
use Rattle.lucy_wave.specs.Waves.{OwesWave}
use Rattle.lucy_app.specs.Answers.{Answer, out_of_memory}
use Rattle.lucy_app.specs.Check.{RefusesCheck}
use Rattle.lucy_app.specs.Commands.{HasText}
use Rattle.lucy_app.specs.Endings.{ended_answer}
use Rattle.lucy_app.specs.Ends.{Tells, TellsEnding}
use Rattle.lucy_app.specs.Running.{IsRunnable, OwesEnded, OwesRunning}
use Rattle.lucy_app.specs.Outcomes.{NoRun}
use Rattle.lucy_app.specs.World.{bytes_of}
use Rattle.lucy_app.proofs.RunEnds.{some_or_none}
use Rattle.lucy_app.proofs.Runs.{ok_more}
use Rattle.lucy_asking.specs.declared.ask.WaveWords.{WaveWords}
use Rattle.lucy_asking.specs.declared.ask.Ask.TheVariants as ask
use Rattle.lucy_views.specs.declared.missing.Missing.TheVariants.{Instants}
use Rattle.lucy_views.specs.declared.failure.Failure.{Failure}
use Rattle.lucy_views.specs.declared.failure.Failure.TheVariants as failure
use Rattle.lucy_views.specs.Meets.{options_of}
use Rattle.lucy_views.specs.Meets.{ReadsSource}
use Rattle.lucy_views.specs.Owes.{Owes}
use Rattle.lucy_views.specs.Looks.{OwesOutput, MayStand, EndsGiven}
use Rattle.lucy_views.specs.Failures.{failure_answer, fetch_failure, RefusesProgram, TellsFailure, IsAccepting, given_of}
use Rattle.lucy_views.proofs.Told.{fetch_owed}
use Rattle.lucy_views.proofs.Sinks.{ends_failed}

-- what is known of a text that was fetched
text_more : (fetched : Result (List ℕ) ShelfError) (P Q : List ℕ → Type 0) → ((text : List ℕ) → P text → Q text) → HasText (fetched ∷ []) P →
    HasText (fetched ∷ []) Q
text_more r P Q more h = ok_more r P Q more h

module _ (ops : List Operator) (o : Options) (instants : Option ℕ) where
  -- a fetch gave no text
  pub unfetched : (fetched : Result (Vec ℕ Global) ShelfError) (e : ShelfError) (f : Failure) → fetched ≡ Err e → f ≡ fetch_failure e →
      IsAccepting ops o instants (bytes_of fetched) (Err f)
  unfetched fetched e f gave so =
      let P : Result (Vec ℕ Global) ShelfError → Type 0 = λ x. IsAccepting ops o instants (bytes_of x) (Err f) in
      let Q : Failure → Type 0 = λ x. IsAccepting ops o instants (Err e) (Err x) in
      subst P (sym gave) (subst Q (sym so) (fetch_owed e))

  -- it gave this one
  pub fetched_so : (fetched : Result (Vec ℕ Global) ShelfError) (text : Vec ℕ Global) (bytes : List ℕ) → fetched ≡ Ok text → bytes ≡ text.items →
      (r : Result Accepted Failure) → IsAccepting ops o instants (Ok bytes) r → IsAccepting ops o instants (bytes_of fetched) r
  fetched_so fetched text bytes gave are r h =
      let P : Result (Vec ℕ Global) ShelfError → Type 0 = λ x. IsAccepting ops o instants (bytes_of x) r in
      let Q : List ℕ → Type 0 = λ x. IsAccepting ops o instants (Ok x) r in
      subst P (sym gave) (subst Q are h)

  -- the text is refused
  pub unaccepted : (text : List ℕ) (e : Failure) → RefusesProgram (RefusesCheck ops o text) e → IsAccepting ops o instants (Ok text) (Err e)
  unaccepted text e (inl out) = inl out
  unaccepted text e (inr why) = inr (inl ((why.0, why.1, ap failure_answer why.2), refl))

  -- its program can be run, or its main lacks the instants
  pub given_so : (text : List ℕ) (a : Accepted) (r : Result Accepted Failure) → IsAccepted ops o text a → IfOk r (λ x. (x ≡ a) × (x.inputs.items ≡ [] → instants ≢ None)) →
      IfErr r (λ e. (e ≡ failure.Lacks Instants) × (a.inputs.items ≡ []) × (instants ≡ None)) → IsAccepting ops o instants (Ok text) r
  given_so text a (Ok x) is (same, given) lacks = (subst (IsAccepted ops o text) (sym same) is, λ l. given l.0 l.1)
  given_so text a (Err e) is ok (so, none, lacks) =
      let P : Failure → Type 0 = λ x. IsAccepting ops o instants (Ok text) (Err x) in
      subst P (sym so) (inr (inr (a, is, inl ((none, lacks), refl, refl))))

module _ (w : WaveWords) (ops lends : List Operator) (lent : ops ≡ lends) (fetched : Result (List ℕ) ShelfError) (answer : Result Accepted Failure)
    (accepting : IsAccepting ops (options_of w.program) w.instants fetched answer) where
  accepting_so : IsAccepting lends (options_of w.program) w.instants fetched answer
  accepting_so =
      let P : List Operator → Type 0 = λ u. IsAccepting u (options_of w.program) w.instants fetched answer in
      subst P lent accepting

  -- what is met where these bytes were taken
  abbrev pub Reads : (before after : SeenSource) (taken : List ℕ) → Type 0
  Reads before after taken = (after ≡ before) ⊎ ReadsSource (ask.Wave w) lends (fetched ∷ []) taken

  lacking_owed : (a : Accepted) (x : Answer) → OwesEnded (NoRun a) w.instants Unread a x →
      OwesEnded (OwesWave (kinds_of lends) a w.instants [] Unread) w.instants Unread a x
  lacking_owed a x (inl h) = inl h
  lacking_owed a x (inr h) = absurd h.3

  unrun_owed : (x : Answer) → OwesRunning NoRun lends (options_of w.program) w.instants Unread (fetched ∷ []) x → Owes (ask.Wave w) (given_of lends fetched [] Unread) x
  unrun_owed x (inl refused) = inl refused
  unrun_owed x (inr h) = inr (text_more fetched _ _ (λ text is. (is.0, is.1, lacking_owed is.0 x is.2)) h)

  unrun_so : (e : Failure) → IsAccepting lends (options_of w.program) w.instants fetched (Err e) →
      (e ≡ failure.OutOfMemory) ⊎ Owes (ask.Wave w) (given_of lends fetched [] Unread) (failure_answer e)
  unrun_so e (inl out) = inl out
  unrun_so e (inr owed) = inr (unrun_owed (failure_answer e) owed)

  -- the program was not run
  pub unrun : (s : SeenSource) (out err err' : SeenSink) (status : ℕ) (e : Failure) → answer ≡ Err e → TellsFailure e err err' status →
      (taken : List ℕ) × (stop : ReadStop) × Read (limit_number limit.Input) s s taken stop × Reads s s taken
      × EndsGiven (ask.Wave w) (given_of lends fetched taken stop) out out err err' status
  unrun s out err err' status e is told =
      let P : Result Accepted Failure → Type 0 = λ r. IsAccepting lends (options_of w.program) w.instants fetched r in (
        [],
        Unread,
        record { took = sym (followed-nil s.left); stopped = (refl, refl); none_follows = still_none s.since_stop },
        inl refl,
        ends_failed (Owes (ask.Wave w) (given_of lends fetched [] Unread)) (MayStand (ask.Wave w) (given_of lends fetched [] Unread))
            (OwesOutput (ask.Wave w) (given_of lends fetched [] Unread)) (inl refl) e out out err err' status (unrun_so e (subst P is accepting_so)) refl told,
      )

  module _ (taken : List ℕ) (stop : ReadStop) (a : Accepted) (can : HasText (fetched ∷ []) (λ text. IsRunnable lends (options_of w.program) w.instants text a)) where
    answer_owed : (output : List ℕ) (end : Ending) → OwesWave (kinds_of lends) a w.instants taken stop output end →
        Owes (ask.Wave w) (given_of lends fetched taken stop) (ended_answer output end)
    answer_owed output end owed = inr (text_more fetched _ _ (λ text is. (a, is.0, inr (is.1, output, end, owed, refl))) can)

    output_owed : (output : List ℕ) → Outputs (OwesWave (kinds_of lends) a w.instants taken stop) output → OwesOutput (ask.Wave w) (given_of lends fetched taken stop) output
    output_owed output (end, owed) = (ended_answer output end, answer_owed output end owed, refl)

    front_owed : (front : List ℕ) → IsFrontOf (Outputs (OwesWave (kinds_of lends) a w.instants taken stop)) front →
        IsFrontOf (OwesOutput (ask.Wave w) (given_of lends fetched taken stop)) front
    front_owed front (inl none) = inl none
    front_owed front (inr is) = inr (is.0, is.1, output_owed is.0 is.2, is.3)

    -- the dump stands, and its ending was told
    whole : (output : List ℕ) (end : Ending) (out out' err err' : SeenSink) (status : ℕ) → OwesWave (kinds_of lends) a w.instants taken stop output end →
        Writes out out' output → Tells (ended_answer output end).status (ended_answer output end).err err err' status →
        EndsGiven (ask.Wave w) (given_of lends fetched taken stop) out out' err err' status
    whole output end out out' err err' status owed writes told = inl (ended_answer output end, inl (answer_owed output end owed), record { printed = writes; told = told })

    -- or there was no memory for that
    untold : (output : List ℕ) (end : Ending) (out out' err err' : SeenSink) (status : ℕ) → OwesWave (kinds_of lends) a w.instants taken stop output end →
        Writes out out' output → Tells 7 (out_of_memory output).err err err' status → EndsGiven (ask.Wave w) (given_of lends fetched taken stop) out out' err err' status
    untold output end out out' err err' status owed writes told =
        let front = inr (output, length output, output_owed output (end, owed), sym (take_all (length output) output (omega arith))) in
        inl (out_of_memory output, inr (output, front, refl), record { printed = writes; told = told })

    -- how it ended_answer was told
    ends_run : (end : Ending) (out out' err err' : SeenSink) (status : ℕ) →
        EndsOwed (OwesWave (kinds_of lends) a w.instants taken stop) out out' end → TellsEnding end err err' status →
        EndsGiven (ask.Wave w) (given_of lends fetched taken stop) out out' err err' status
    ends_run Done out out' err err' status left told = whole left.0 Done out out' err err' status left.1 left.2 told
    ends_run (Input fault) out out' err err' status left (inl told) = whole left.0 (Input fault) out out' err err' status left.1 left.2 told
    ends_run (Input fault) out out' err err' status left (inr told) = untold left.0 (Input fault) out out' err err' status left.1 left.2 told
    ends_run (Limit passed) out out' err err' status left (inl told) = whole left.0 (Limit passed) out out' err err' status left.1 left.2 told
    ends_run (Limit passed) out out' err err' status left (inr told) = untold left.0 (Limit passed) out out' err err' status left.1 left.2 told
    ends_run WriteFault out out' err err' status left told = inr (left.0, output_owed left.0 left.1, record { failed = left.2; told = told })
    ends_run OutOfMemory out out' err err' status left told =
        inl (out_of_memory left.0, inr (left.0, front_owed left.0 left.1, refl), record { printed = left.2; told = told })

  -- the program was run
  pub ran : (before after : SeenSource) (out out' err err' : SeenSink) (status : ℕ) (a : Accepted) (end : Ending) → answer ≡ Ok a → (a.inputs.items ≡ [] → after ≡ before) →
      (taken : List ℕ) (stop : ReadStop) → Read (limit_number limit.Input) before after taken stop → IsAsked a.inputs.items taken →
      EndsOwed (OwesWave (kinds_of lends) a w.instants taken stop) out out' end → TellsEnding end err err' status →
      (others : List ℕ) × (halt : ReadStop) × Read (limit_number limit.Input) before after others halt × Reads before after others
      × EndsGiven (ask.Wave w) (given_of lends fetched others halt) out out' err err' status
  ran before after out out' err err' status a end is alone taken stop read asked left told =
      let P : Result Accepted Failure → Type 0 = λ r. IsAccepting lends (options_of w.program) w.instants fetched r in
      let can : HasText (fetched ∷ []) (λ text. IsRunnable lends (options_of w.program) w.instants text a) = subst P is accepting_so in
      let reads : Reads before after taken = elim (some_or_none a.inputs.items) [
        | inl none ↦ inl (alone none)
        | inr some ↦ inr (text_more fetched _ _ (λ text is. (a, is.0, some, asked)) can)
      ] in
      (taken, stop, read, reads, ends_run taken stop a can end out out' err err' status left told)
