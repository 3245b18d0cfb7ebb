-- How `replay` ends, by what was fetched and read.
use Rattle.std.proofs.Common.{ℕ, ◌≡◌, ◌⊎◌, List, [], ◌∷◌, length, Result, Ok, Err, refl, sym, subst, inl, inr, arith}
use Rattle.std.specs.Prelude.{Option, ◌≢◌, IsOkAnd}
use Rattle.std.specs.declared.alloc.Global.{Global}
use Rattle.std.specs.declared.vec.Vec.{Vec}
use Rattle.std.proofs.lemmas.List.{take_all}
use Rattle.lucy_word.specs.Limits.{limit_number}
use Rattle.lucy_word.specs.declared.limit.Limit.TheVariants as limit
use Rattle.lucy_host.specs.Operators.{Operator}
use Rattle.lucy_text.specs.Outside.{SeenSource, SeenSink, Writes}
use Rattle.lucy_text.specs.declared.shelf.ShelfError.{ShelfError}
use Rattle.lucy_text.specs.declared.shelf.ShelfError.TheVariants as shelf
use Rattle.lucy_text.proofs.OutsideLaws.{followed-nil, still_none}
use Rattle.lucy_text.specs.Sources.{ReadStop, Unread, Read}
use Rattle.lucy_lines.specs.Feeding.{IsAsked}
use Rattle.lucy_fields.specs.Readings.{AreRead, IsFirstBad}
use Rattle.lucy_trace.specs.Logs.{picks_of}
use Rattle.lucy_trace.specs.declared.error.TraceError.{TraceError}
use Rattle.lucy_trace.specs.declared.error.TraceError.TheVariants as trace
use Rattle.lucy_program.specs.declared.accepted.Accepted.{Accepted}
use Rattle.lucy_program.specs.declared.options.Options.{Options}
use Rattle.lucy_run.specs.declared.ending.Ending.{Ending}
use Rattle.lucy_run.specs.declared.ending.Ending.TheVariants as ending
use Rattle.lucy_run.specs.Replays.{OwesReplay}
use Rattle.lucy_run.specs.Ends.{EndsReplay}
use Rattle.lucy_command.specs.Commands.{ProgramWords, Replay}
use Rattle.lucy_app.specs.Commands.{inferring_options, TakesInput}
use Rattle.lucy_app.specs.World.{Given}
use Rattle.lucy_app.specs.Answers.{Answer, out_of_memory}
use Rattle.lucy_app.specs.Endings.{ended_answer}
use Rattle.lucy_app.specs.Running.{IsRunnable}
use Rattle.lucy_app.specs.Replaying.{replayed, OwesEvents, OwesLog, OwesLogged}
use Rattle.lucy_app.specs.Owes.{Owes, OwesOutput}
use Rattle.lucy_app.specs.Ends.{Tells, EndsBy, MayStand, MayFail}
use Rattle.lucy_app.specs.Outcomes.{bytes_of, IsAccepting, TellsRefusal, TellsEnding, NoEvents, IsLogRead, ReadsBehind, LogOutputs, EndsLog, refusal_answer, fetch_refusal_within, trace_refusal}
use Rattle.lucy_app.specs.declared.refusal.Refusal.{Refusal}
use Rattle.lucy_app.specs.declared.refusal.Refusal.TheVariants as refusal
use Rattle.lucy_app.proofs.Sinks.{ends_refused}
use Rattle.lucy_app.proofs.RunEnds.{some_or_none}

-- a fetch of a log gave none
pub log_unfetched : (e : ShelfError) → (fetch_refusal_within limit.Log e ≡ refusal.OutOfMemory) ⊎ OwesLog NoEvents Unread (Err e) (refusal_answer (fetch_refusal_within limit.Log e))
log_unfetched shelf.Failed = inr (refl, refl)
log_unfetched shelf.Missing = inr (refl, refl)
log_unfetched shelf.TooLong = inr (refl, refl)
log_unfetched shelf.OutOfMemory = inl refl

-- a field of it is no number
pub log_misread : (text : List ℕ) (e : TraceError) → (e ≡ trace.OutOfMemory) ⊎ ((place : ℕ) × (e ≡ trace.BadNumber place) × IsFirstBad (picks_of text) place) →
    (trace_refusal e ≡ refusal.OutOfMemory) ⊎ OwesLog NoEvents Unread (Ok text) (refusal_answer (trace_refusal e))
log_misread text e (inl out) = let P : TraceError → Type 0 = λ x. (trace_refusal x ≡ refusal.OutOfMemory) ⊎ OwesLog NoEvents Unread (Ok text) (refusal_answer (trace_refusal x)) in subst P (sym out) (inl refl)
log_misread text e (inr (place, is, bad)) =
    let P : TraceError → Type 0 = λ x. (trace_refusal x ≡ refusal.OutOfMemory) ⊎ OwesLog NoEvents Unread (Ok text) (refusal_answer (trace_refusal x)) in
    subst P (sym is) (inr (inl (place, bad, refl, refl)))

-- what was read of a log, told of its slice
pub picks_read : (log : Result (List ℕ) ShelfError) (list picks : List ℕ) → list ≡ picks → IsOkAnd log (λ text. AreRead (picks_of text) picks) → IsOkAnd log (λ text. AreRead (picks_of text) list)
picks_read log list picks same read = subst (λ ps. IsOkAnd log (λ text. AreRead (picks_of text) ps)) (sym same) read

module _ (fetched : Result (Vec ℕ Global) ShelfError) where
  -- so of what a fetch gave
  pub unfetched_read : (e : ShelfError) (r : Refusal) → fetched ≡ Err e → r ≡ fetch_refusal_within limit.Log e → (r ≡ refusal.OutOfMemory) ⊎ OwesLog NoEvents Unread (bytes_of fetched) (refusal_answer r)
  unfetched_read e r gave is =
      let P : Refusal → Type 0 = λ x. (x ≡ refusal.OutOfMemory) ⊎ OwesLog NoEvents Unread (Err e) (refusal_answer x) in
      let Q : Result (Vec ℕ Global) ShelfError → Type 0 = λ f. (r ≡ refusal.OutOfMemory) ⊎ OwesLog NoEvents Unread (bytes_of f) (refusal_answer r) in
      subst Q (sym gave) (subst P (sym is) (log_unfetched e))

  pub misread : (text : Vec ℕ Global) (bytes : List ℕ) (e : TraceError) (r : Refusal) → fetched ≡ Ok text → bytes ≡ text.items → r ≡ trace_refusal e →
      (e ≡ trace.OutOfMemory) ⊎ ((place : ℕ) × (e ≡ trace.BadNumber place) × IsFirstBad (picks_of bytes) place) → (r ≡ refusal.OutOfMemory) ⊎ OwesLog NoEvents Unread (bytes_of fetched) (refusal_answer r)
  misread text bytes e r gave same is why =
      let P : Refusal → Type 0 = λ x. (x ≡ refusal.OutOfMemory) ⊎ OwesLog NoEvents Unread (Ok bytes) (refusal_answer x) in
      let S : List ℕ → Type 0 = λ t. (r ≡ refusal.OutOfMemory) ⊎ OwesLog NoEvents Unread (Ok t) (refusal_answer r) in
      let Q : Result (Vec ℕ Global) ShelfError → Type 0 = λ f. (r ≡ refusal.OutOfMemory) ⊎ OwesLog NoEvents Unread (bytes_of f) (refusal_answer r) in
      subst Q (sym gave) (subst S same (subst P (sym is) (log_misread bytes e why)))

  pub log_read : (text : Vec ℕ Global) (bytes picks : List ℕ) → fetched ≡ Ok text → bytes ≡ text.items → AreRead (picks_of bytes) picks → IsOkAnd (bytes_of fetched) (λ t. AreRead (picks_of t) picks)
  log_read text bytes picks gave same read =
      let Q : Result (Vec ℕ Global) ShelfError → Type 0 = λ f. IsOkAnd (bytes_of f) (λ t. AreRead (picks_of t) picks) in
      subst Q (sym gave) (subst (λ t. AreRead (picks_of t) picks) same read)

-- what is owed of no events is owed of any
log_more : (A B : (picks : List ℕ) → Answer → Type 0) → ((picks : List ℕ) (x : Answer) → A picks x → B picks x) → (stop : ReadStop) (log : Result (List ℕ) ShelfError) (x : Answer) → OwesLog A stop log x → OwesLog B stop log x
log_more A B more stop (Ok text) x (inl bad) = inl bad
log_more A B more stop (Ok text) x (inr (picks, read, owed)) = inr (picks, read, more picks x owed)
log_more A B more stop (Err shelf.Failed) x h = h
log_more A B more stop (Err shelf.Missing) x h = h
log_more A B more stop (Err shelf.TooLong) x h = h
log_more A B more stop (Err shelf.OutOfMemory) x h = h

-- a source that was left alone
pub read_nothing : (s : SeenSource) → Read (limit_number limit.Input) s s [] Unread
read_nothing s = record { took = sym (followed-nil s.left); stopped = (refl, refl); none_follows = still_none s.since_stop }

-- of a log that was read these events are owed
with_picks : (log : Result (List ℕ) ShelfError) (picks : List ℕ) (Owed : List ℕ → Answer → Type 0) (stop : ReadStop) (x : Answer) → IsOkAnd log (λ text. AreRead (picks_of text) picks) → Owed picks x → OwesLog Owed stop log x
with_picks (Ok text) picks Owed stop x read owed = inr (picks, read, owed)
with_picks (Err e) picks Owed stop x read owed = absurd read

some_picks : (log : Result (List ℕ) ShelfError) (picks : List ℕ) → IsOkAnd log (λ text. AreRead (picks_of text) picks) → IsOkAnd log (λ text. (picks : List ℕ) × AreRead (picks_of text) picks)
some_picks (Ok text) picks read = (picks, read)
some_picks (Err e) picks read = read

module _ (ops : List Operator) (a : Accepted) (instants : Option ℕ) (log : Result (List ℕ) ShelfError) where
  -- what a call leaves
  abbrev pub Leaves : (before after : SeenSource) (out out' err err' : SeenSink) (status : ℕ) → Type 0
  Leaves before after out out' err err' status = (taken : List ℕ) × (stop : ReadStop) × Read (limit_number limit.Input) before after taken stop
      × ReadsBehind a log before after taken × EndsLog ops a instants taken stop log out out' err err' status

  -- the log was refused
  pub log_refused_so : (read : Result (Vec ℕ Global) Refusal) (e : Refusal) → read ≡ Err e → IsLogRead log read → (s : SeenSource) (out err err' : SeenSink) (status : ℕ) → TellsRefusal e err err' status →
      Leaves s s out out err err' status
  log_refused_so read e is why s out err err' status told =
      let owed : (e ≡ refusal.OutOfMemory) ⊎ OwesLog NoEvents Unread log (refusal_answer e) = subst (IsLogRead log) is why in
      let owes : (e ≡ refusal.OutOfMemory) ⊎ OwesLog (OwesEvents ops a instants [] Unread) Unread log (refusal_answer e) = elim owed [
        | inl out ↦ inl out
        | inr owed ↦ inr (log_more NoEvents (OwesEvents ops a instants [] Unread) (λ picks x none. absurd none) Unread log (refusal_answer e) owed)
      ] in
      ([], Unread, read_nothing s, inl refl, ends_refused _ _ _ (inl refl) e out out err err' status owes refl told)

  module _ (picks : List ℕ) (read : IsOkAnd log (λ text. AreRead (picks_of text) picks)) (taken : List ℕ) (stop : ReadStop) where
    owes : (output : List ℕ) (result : Result Ending TraceError) → OwesReplay ops a instants picks taken stop output result →
        OwesLog (OwesEvents ops a instants taken stop) stop log (replayed output result)
    owes output result owed = with_picks log picks (OwesEvents ops a instants taken stop) stop (replayed output result) read (output, result, owed, refl)

    stands : (output : List ℕ) (end : Ending) → OwesReplay ops a instants picks taken stop output (Ok end) → LogOutputs ops a instants taken stop log output
    stands output end owed = (ended_answer output end, owes output (Ok end) owed, refl)

    -- the output stands, and how it ended_answer was told, or memory ran out for that
    whole : (output : List ℕ) (end : Ending) (out out' err err' : SeenSink) (status : ℕ) → OwesReplay ops a instants picks taken stop output (Ok end) → Writes out out' output →
        Tells (ended_answer output end).status (ended_answer output end).err err err' status ⊎ Tells 7 (out_of_memory output).err err err' status → EndsLog ops a instants taken stop log out out' err err' status
    whole output end out out' err err' status owed writes (inl told) = inl (ended_answer output end, inl (owes output (Ok end) owed), record { printed = writes; told = told })
    whole output end out out' err err' status owed writes (inr told) =
        let front = inr (output, length output, stands output end owed, sym (take_all (length output) output (omega arith))) in
        inl (out_of_memory output, inr (output, front, refl), record { printed = writes; told = told })

    -- the events were a run
    pub replay_ended : (end : Ending) (out out' err err' : SeenSink) (status : ℕ) → EndsReplay ops a instants picks taken stop out out' (Ok end) → TellsEnding end err err' status →
        EndsLog ops a instants taken stop log out out' err err' status
    replay_ended ending.Done out out' err err' status left told = whole left.0 ending.Done out out' err err' status left.1 left.2 (inl told)
    replay_ended (ending.Input fault) out out' err err' status left told = whole left.0 (ending.Input fault) out out' err err' status left.1 left.2 told
    replay_ended (ending.Limit passed) out out' err err' status left told = whole left.0 (ending.Limit passed) out out' err err' status left.1 left.2 told
    replay_ended ending.WriteFault out out' err err' status (output, (end, owed), failed) told = inr (output, stands output end owed, record { failed = failed; told = told })
    replay_ended ending.OutOfMemory out out' err err' status (front, inl none, writes) told = inl (out_of_memory front, inr (front, inl none, refl), record { printed = writes; told = told })
    replay_ended ending.OutOfMemory out out' err err' status (front, inr (output, n, (end, owed), is), writes) told =
        inl (out_of_memory front, inr (front, inr (output, n, stands output end owed, is), refl), record { printed = writes; told = told })

    -- an event isn't possible
    event_refused : (e : TraceError) (out out' err err' : SeenSink) (status : ℕ) → EndsReplay ops a instants picks taken stop out out' (Err e) → TellsRefusal (trace_refusal e) err err' status →
        EndsLog ops a instants taken stop log out out' err err' status
    event_refused trace.OutOfMemory out out' err err' status left told = ends_refused _ _ _ (inl refl) refusal.OutOfMemory out out' err err' status (inl refl) left.1 told
    event_refused (trace.BadNumber place) out out' err err' status left told =
        ends_refused _ _ _ (inl refl) (refusal.Log (trace.BadNumber place)) out out' err err' status (inr (owes [] (Err (trace.BadNumber place)) left.0)) left.1 told
    event_refused (trace.NotPossible event actor) out out' err err' status left told =
        ends_refused _ _ _ (inl refl) (refusal.Log (trace.NotPossible event actor)) out out' err err' status (inr (owes [] (Err (trace.NotPossible event actor)) left.0)) left.1 told

    behind : (before after : SeenSource) → (a.inputs.items ≡ [] → after ≡ before) → IsAsked a.inputs.items taken → ReadsBehind a log before after taken
    behind before after alone asked = elim (some_or_none a.inputs.items) [
      | inl none ↦ inl (alone none)
      | inr some ↦ inr (some, asked, some_picks log picks read)
    ]

    pub judged_ended : (result : Result Ending TraceError) (end : Ending) → result ≡ Ok end → (before after : SeenSource) (out out' err err' : SeenSink) (status : ℕ) → (a.inputs.items ≡ [] → after ≡ before) →
        Read (limit_number limit.Input) before after taken stop → IsAsked a.inputs.items taken → EndsReplay ops a instants picks taken stop out out' result → TellsEnding end err err' status →
        Leaves before after out out' err err' status
    judged_ended result end is before after out out' err err' status alone reads asked left told =
        (taken, stop, reads, behind before after alone asked, replay_ended end out out' err err' status (subst (EndsReplay ops a instants picks taken stop out out') is left) told)

    pub judged_refused : (result : Result Ending TraceError) (e : TraceError) (why : Refusal) → result ≡ Err e → why ≡ trace_refusal e → (before after : SeenSource) (out out' err err' : SeenSink) (status : ℕ) →
        (a.inputs.items ≡ [] → after ≡ before) → Read (limit_number limit.Input) before after taken stop → IsAsked a.inputs.items taken → EndsReplay ops a instants picks taken stop out out' result →
        TellsRefusal why err err' status → Leaves before after out out' err err' status
    judged_refused result e why is so before after out out' err err' status alone reads asked left told = (
      taken,
      stop,
      reads,
      behind before after alone asked,
      event_refused e out out' err err' status (subst (EndsReplay ops a instants picks taken stop out out') is left) (subst (λ r. TellsRefusal r err err' status) so told),
    )

-- what was accepted by these operators and options was by those
pub accepting_moves : (ops lends : List Operator) (found o : Options) (instants : Option ℕ) (fetched : List (Result (List ℕ) ShelfError)) (answer : Result Accepted Refusal) → ops ≡ lends → found ≡ o →
    IsAccepting ops found instants fetched answer → IsAccepting lends o instants fetched answer
accepting_moves ops lends found o instants fetched answer same is_o accepting =
    let P : List Operator → Type 0 = λ u. IsAccepting u found instants fetched answer in
    let Q : Options → Type 0 = λ u. IsAccepting lends u instants fetched answer in
    subst Q is_o (subst P same accepting)

-- how `replay` ends that has met this
abbrev pub EndsMet : Given → ProgramWords → (name : List ℕ) → (out out' err err' : SeenSink) (status : ℕ) → Type 0
EndsMet given words name out out' err err' status =
    EndsBy (Owes (Replay words name) given) (MayStand (Replay words name) given) (MayFail (Replay words name) given out out') out out' err err' status

module _ (words : ProgramWords) (name : List ℕ) (ops : List Operator) (file : Result (List ℕ) ShelfError) (answer : Result Accepted Refusal)
    (accepting : IsAccepting ops (inferring_options words.scale words.lead) words.instants (file ∷ []) answer) where
  -- LOG wasn't asked for
  pub unlogged : (e : Refusal) → answer ≡ Err e → (out out' err err' : SeenSink) (status : ℕ) → out' ≡ out → TellsRefusal e err err' status →
      EndsMet (record { fetched = file ∷ []; taken = []; stop = Unread; operators = ops }) words name out out' err err' status
  unlogged e is out out' err err' status same told =
      ends_refused _ _ _ (inl refl) e out out' err err' status (subst (IsAccepting ops (inferring_options words.scale words.lead) words.instants (file ∷ [])) is accepting) same told

  module _ (a : Accepted) (is : answer ≡ Ok a) (log : Result (List ℕ) ShelfError) (taken : List ℕ) (stop : ReadStop) where
    can : IsOkAnd file (λ text. IsRunnable ops (inferring_options words.scale words.lead) words.instants text a)
    can = subst (IsAccepting ops (inferring_options words.scale words.lead) words.instants (file ∷ [])) is accepting

    logged : (file : Result (List ℕ) ShelfError) → IsOkAnd file (λ text. IsRunnable ops (inferring_options words.scale words.lead) words.instants text a) → (x : Answer) →
        OwesLog (OwesEvents ops a words.instants taken stop) stop log x → OwesLogged ops (inferring_options words.scale words.lead) words.instants taken stop (file ∷ (log ∷ [])) x
    logged (Ok text) runs x owed = (a, runs, owed)
    logged (Err e) runs x owed = absurd runs

    abbrev pub met : Given
    met = record { fetched = file ∷ (log ∷ []); taken = taken; stop = stop; operators = ops }

    printed_so : (output : List ℕ) → LogOutputs ops a words.instants taken stop log output → OwesOutput (Replay words name) met output
    printed_so output (x, owed, is) = (x, logged file can x owed, is)

    -- LOG was fetched
    pub logged_ends : (out out' err err' : SeenSink) (status : ℕ) → EndsLog ops a words.instants taken stop log out out' err err' status → EndsMet met words name out out' err err' status
    logged_ends out out' err err' status (inl (x, inl owed, answers)) = inl (x, inl (logged file can x owed), answers)
    logged_ends out out' err err' status (inl (x, inr (front, inl none, is), answers)) = inl (x, inr (front, inl none, is), answers)
    logged_ends out out' err err' status (inl (x, inr (front, inr (output, n, owed, cut), is), answers)) = inl (x, inr (front, inr (output, n, printed_so output owed, cut), is), answers)
    logged_ends out out' err err' status (inr (output, owed, breaks)) = inr (output, (printed_so output owed, tt), breaks)

    takes : (file : Result (List ℕ) ShelfError) → IsOkAnd file (λ text. IsRunnable ops (inferring_options words.scale words.lead) words.instants text a) → a.inputs.items ≢ [] → IsAsked a.inputs.items taken →
        TakesInput ops (inferring_options words.scale words.lead) (file ∷ (log ∷ [])) taken
    takes (Ok text) runs some asked = (a, runs.0, some, asked)
    takes (Err e) runs some asked = absurd runs

    -- and the source was read for it
    pub reads_source : (s t : SeenSource) → ReadsBehind a log s t taken →
        (t ≡ s) ⊎ (TakesInput ops (inferring_options words.scale words.lead) (file ∷ (log ∷ [])) taken
        × IsOkAnd log (λ text. (picks : List ℕ) × AreRead (picks_of text) picks))
    reads_source s t (inl same) = inl same
    reads_source s t (inr (some, asked, read)) = inr (takes file can some asked, read)
