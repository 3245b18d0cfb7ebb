-- How a call ends that came out so and was told so.
use Rattle.std.proofs.Common.{◌≢◌, Bool, true, false, Option, None, ◌∙◌, ℕ, ◌≡◌, ◌⊎◌, List, [], ◌∷◌, Some, Result, Ok, Err, refl, ap, sym, subst, inl, inr}
use Rattle.std.specs.Prelude.{◌↔◌}
use Rattle.std.specs.Option.{option_and_then}
use Rattle.clap.specs.Walk.{Row}
use Rattle.clap.specs.Kinds.{IsAmong}
use Rattle.clap.specs.Faults.{fault_of}
use Rattle.clap.specs.declared.error.kind.ErrorKind.{ErrorKind}
use Rattle.clap.specs.declared.error.kind.ErrorKind.TheVariants as kind
use Rattle.std.proofs.lemmas.Bool.{false_from_ne_true}
use Rattle.lucy_word.specs.Limits.{limit_number}
use Rattle.lucy_word.specs.declared.limit.Limit.TheVariants as limit
use Rattle.lucy_host.specs.Operators.{Operator}
use Rattle.lucy_text.specs.Outside.{SeenSink}
use Rattle.lucy_text.specs.declared.shelf.ShelfError.{ShelfError}
use Rattle.lucy_text.specs.Sources.{ReadStop, Read}
use Rattle.lucy_front.specs.declared.refusal.Refusal.{Refusal}
use Rattle.lucy_front.specs.Refusals.{memory_line, refusal_text}
use Rattle.lucy_app.specs.ProgramRefusals.{program_status}
use Rattle.lucy_app.specs.Answers.{Answer, OutputOf, printed, refused, read_fault, out_of_memory}
use Rattle.lucy_app.specs.Ends.{Tells, EndsBy}
use Rattle.lucy_app.specs.World.{World, Fetched}
use Rattle.lucy_app.specs.Commands.{program_of}
use Rattle.lucy_app.proofs.Sinks.{nothing_written}
use Rattle.lucy_asking.specs.declared.name.Name.{Name}
use Rattle.lucy_asking.specs.declared.name.Name.TheVariants as name
use Rattle.lucy_asking.specs.declared.ask.WaveWords.{WaveWords}
use Rattle.lucy_asking.specs.declared.ask.Picture.{Picture}
use Rattle.lucy_asking.specs.declared.ask.Ask.{Ask}
use Rattle.lucy_asking.specs.declared.ask.Ask.TheVariants as ask
use Rattle.lucy_views.specs.declared.missing.Missing.{Missing}
use Rattle.lucy_views.specs.declared.missing.Missing.TheVariants.{Command}
use Rattle.lucy_views.specs.declared.failure.Failure.{Failure}
use Rattle.lucy_views.specs.declared.failure.Failure.TheVariants.{Program, Lacks, ReadFault, OutOfMemory}
use Rattle.lucy_views.specs.declared.shown.Shown.{Shown}
use Rattle.lucy_asking.specs.CommandLine.{line}
use Rattle.lucy_asking.specs.Asks.{name_of, name_in, asked_name, Asks}
use Rattle.lucy_views.specs.Meets.{most_input, picture_file, ReadsSource}
use Rattle.lucy_views.specs.Owes.{missing_line, shown_refused, OwesPicture}
use Rattle.lucy_views.specs.Looks.{EndsGiven, EndsSo, is_fault, OwesSaid, OwesWords, Looks}
use Rattle.lucy_views.specs.Failures.{failure_answer, shown_answer, TellsFailure, Prints, IsOutcome, LacksMemory, Delivers, EndsSaying, given_of, unread}

-- where nothing is printed nothing stands on the output
prints_nothing : (e : Failure) → (failure_answer e).out ≡ []
prints_nothing (Program reason) = refl
prints_nothing (Lacks what) = refl
prints_nothing ReadFault = refl
prints_nothing OutOfMemory = refl

module _ (Owed : Answer → Type 0) (Stands MayFail : List ℕ → Type 0) (nothing : Stands []) where
  -- it is owed, or memory ran out
  abbrev MayAnswer : Answer → Type 0
  MayAnswer answer = Owed answer ⊎ ((front : List ℕ) × Stands front × (answer ≡ out_of_memory front))

  -- an answer that prints nothing was told
  pub ends_told : (answer : Answer) (out out' err err' : SeenSink) (status : ℕ) → answer.out ≡ [] → MayAnswer answer → out' ≡ out →
      Tells answer.status answer.err err err' status → EndsBy Owed Stands MayFail out out' err err' status
  ends_told answer out out' err err' status none may same told = inl (answer, may, record { printed = nothing_written out out' answer.out same none; told = told })

  -- that memory ran out was told
  pub ends_short : (out out' err err' : SeenSink) (status : ℕ) → out' ≡ out → Tells 7 memory_line err err' status → EndsBy Owed Stands MayFail out out' err err' status
  ends_short out out' err err' status same told = ends_told (out_of_memory []) out out' err err' status refl (inr ([], nothing, refl)) same told

  may_fail : (e : Failure) → (e ≡ OutOfMemory) ⊎ Owed (failure_answer e) → MayAnswer (failure_answer e)
  may_fail e (inl out) =
      let P : Failure → Type 0 = λ r. MayAnswer (failure_answer r) in
      subst P (sym out) (inr ([], nothing, refl))
  may_fail e (inr owed) = inl owed

  -- why nothing is printed was told
  pub ends_failed : (e : Failure) (out out' err err' : SeenSink) (status : ℕ) → (e ≡ OutOfMemory) ⊎ Owed (failure_answer e) → out' ≡ out → TellsFailure e err err' status →
      EndsBy Owed Stands MayFail out out' err err' status
  ends_failed e out out' err err' status owed same (inl told) = ends_told (failure_answer e) out out' err err' status (prints_nothing e) (may_fail e owed) same told
  ends_failed e out out' err err' status owed same (inr told) = ends_short out out' err err' status same told

-- what came out was delivered
delivered : (Owed : Answer → Type 0) (outcome : Result Shown Failure) (out out' err err' : SeenSink) (status : ℕ) → IsOutcome Owed outcome →
    Delivers outcome out out' err err' status →
    EndsBy Owed (λ front. front ≡ []) (OutputOf Owed) out out' err err' status
delivered Owed (Ok shown) out out' err err' status owed (inl (inl answers)) = inl (shown_answer shown, inl owed, answers)
delivered Owed (Ok shown) out out' err err' status owed (inl (inr breaks)) = inr ((shown_answer shown).out, (shown_answer shown, owed, refl), breaks)
delivered Owed (Ok shown) out out' err err' status owed (inr told) = ends_short Owed (λ front. front ≡ []) (OutputOf Owed) refl out out' err err' status told.0 told.1
delivered Owed (Err e) out out' err err' status owed told =
    ends_failed Owed (λ front. front ≡ []) (OutputOf Owed) refl e out out' err err' status owed told.0 told.1

-- a picture was asked for, and what came out of it was delivered
pub picture_ends : (a : Ask) (p : Picture) (file : List ℕ) (ops : List Operator) (fetched : Result (List ℕ) ShelfError) (outcome : Result Shown Failure)
    (before after : World) (status : ℕ) → a ≡ ask.Picture p → file ≡ picture_file p → ops ≡ before.operators →
    Fetched (program_of file) before.shelf after.shelf fetched → after.source ≡ before.source →
    IsOutcome (OwesPicture p (unread ops fetched)) outcome → Delivers outcome before.out after.out before.err after.err status → EndsSo a before after status
picture_ends a p file ops fetched outcome before after status is named lends met left owed told =
    let P : Ask → Type 0 = λ x. EndsSo x before after status in
    let F : List ℕ → Type 0 = λ f. Fetched (program_of f) before.shelf after.shelf fetched in
    subst P (sym is) (
      unread ops fetched,
      record { shelf = (fetched, refl, subst F named met); source = (refl, refl, left); unread = inl left; operators = lends },
      delivered (OwesPicture p (unread ops fetched)) outcome before.out after.out before.err after.err status owed told,
    )

-- a run was asked for, which ended so
pub wave_ends : (a : Ask) (w : WaveWords) (ops : List Operator) (fetched : Result (List ℕ) ShelfError) (before after : World) (status : ℕ) (taken : List ℕ) (stop : ReadStop) →
    a ≡ ask.Wave w → ops ≡ before.operators → Fetched (program_of w.program.file.now) before.shelf after.shelf fetched →
    Read (limit_number limit.Input) before.source after.source taken stop →
    (after.source ≡ before.source) ⊎ ReadsSource (ask.Wave w) ops (fetched ∷ []) taken →
    EndsGiven (ask.Wave w) (given_of ops fetched taken stop) before.out after.out before.err after.err status → EndsSo a before after status
wave_ends a w ops fetched before after status taken stop is lends met read reads ends =
    let P : Ask → Type 0 = λ x. EndsSo x before after status in
    let R : List Operator → Type 0 = λ u. (after.source ≡ before.source) ⊎ ReadsSource (ask.Wave w) u (fetched ∷ []) taken in
    subst P (sym is) (
      given_of ops fetched taken stop,
      record { shelf = (fetched, refl, met); source = read; unread = subst R lends reads; operators = lends },
      ends,
    )

-- what is printed of a program that is refused was printed, with its status and its lines
pub printed_so : (reason : Refusal) (status : ℕ) (print lines : List ℕ) (out out' err err' : SeenSink) (end : ℕ) → status ≡ program_status reason → lines ≡ refusal_text reason →
    Prints (record { status = status; out = print; err = lines }) out out' err err' end → Prints (shown_refused reason print) out out' err err' end
printed_so reason status print lines out out' err err' end is are prints =
    let P : ℕ → Type 0 = λ s. Prints (record { status = s; out = print; err = refusal_text reason }) out out' err err' end in
    let Q : List ℕ → Type 0 = λ l. Prints (record { status = status; out = print; err = l }) out out' err err' end in
    subst P is (subst Q are prints)

-- a text of `clap` was told
pub said_fault : (fault : Bool) (text : List ℕ) (out out' err err' : SeenSink) (status : ℕ) → fault ≡ true → out' ≡ out → Tells 2 text err err' status →
    EndsSaying fault out out' err err' status
said_fault fault text out out' err err' status is same told =
    let P : Bool → Type 0 = λ f. EndsSaying f out out' err err' status in
    subst P (sym is)
    (ends_told (OwesSaid true) (λ front. front ≡ []) (OutputOf (OwesSaid true)) refl (refused 2 text) out out' err err' status refl (inl (text, refl)) same told)

said_so : (text : List ℕ) (out out' err err' : SeenSink) (status : ℕ) → Prints (printed text) out out' err err' status → EndsSaying false out out' err err' status
said_so text out out' err err' status (inl answers) = inl (printed text, inl (text, refl), answers)
said_so text out out' err err' status (inr breaks) = inr (text, (printed text, (text, refl), refl), breaks)

-- or printed
pub said_print : (fault : Bool) (text : List ℕ) (out out' err err' : SeenSink) (status : ℕ) → fault ≡ false → Prints (printed text) out out' err err' status →
    EndsSaying fault out out' err err' status
said_print fault text out out' err err' status is prints =
    let P : Bool → Type 0 = λ f. EndsSaying f out out' err err' status in
    subst P (sym is) (said_so text out out' err err' status prints)

-- or memory ran out
pub said_short : (fault : Bool) (out out' err err' : SeenSink) (status : ℕ) → out' ≡ out → Tells 7 memory_line err err' status → EndsSaying fault out out' err err' status
said_short fault out out' err err' status same told =
    ends_short (OwesSaid fault) (λ front. front ≡ []) (OutputOf (OwesSaid fault)) refl out out' err err' status same told

fault_is : (why : ErrorKind) (fault : Bool) → (fault ≡ true) ↔ ((why ≢ kind.DisplayHelp) × (why ≢ kind.DisplayVersion)) → fault ≡ is_fault why
fault_is kind.DisplayHelp fault tells = false_from_ne_true fault (λ is. (tells.0 is).0 refl)
fault_is kind.DisplayVersion fault tells = false_from_ne_true fault (λ is. (tells.0 is).1 refl)
fault_is why fault tells = tells.1 (λ e. cc, λ e. cc)

-- what `clap` said of the words, as it tells whether that is a fault
pub said_as : (why : ErrorKind) (fault : Bool) (out out' err err' : SeenSink) (status : ℕ) → (fault ≡ true) ↔ ((why ≢ kind.DisplayHelp) × (why ≢ kind.DisplayVersion)) →
    EndsSaying fault out out' err err' status → EndsSaying (is_fault why) out out' err err' status
said_as why fault out out' err err' status tells ends =
    let P : Bool → Type 0 = λ f. EndsSaying f out out' err err' status in
    subst P (fault_is why fault tells) ends

ends_more : (A B : Answer → Type 0) → ((x : Answer) → A x → B x) → (out out' err err' : SeenSink) (status : ℕ) →
    EndsBy A (λ front. front ≡ []) (OutputOf A) out out' err err' status → EndsBy B (λ front. front ≡ []) (OutputOf B) out out' err err' status
ends_more A B more out out' err err' status (inl (answer, inl owed, answers)) = inl (answer, inl (more answer owed), answers)
ends_more A B more out out' err err' status (inl (answer, inr short, answers)) = inl (answer, inr short, answers)
ends_more A B more out out' err err' status (inr (output, (answer, owed, is), breaks)) = inr (output, (answer, more answer owed, is), breaks)

is_memory : (why : ErrorKind) → (why ≡ kind.OutOfMemory) ⊎ (why ≢ kind.OutOfMemory)
is_memory kind.OutOfMemory = inl refl
is_memory why = inr (λ e. cc)

module _ (words : List (List ℕ)) where
  -- how the call ends that asks for nothing
  abbrev EndsWords : (out out' err err' : SeenSink) (status : ℕ) → Type 0
  EndsWords out out' err err' status = EndsBy (OwesWords words) (λ front. front ≡ []) (OutputOf (OwesWords words)) out out' err err' status

  -- `clap` refused the words, and said why
  pub words_said : (why : ErrorKind) (out out' err err' : SeenSink) (status : ℕ) → (why ≡ kind.OutOfMemory) ⊎ IsAmong why (fault_of line words) →
      (why ≢ kind.OutOfMemory → EndsSaying (is_fault why) out out' err err' status) → (why ≡ kind.OutOfMemory → LacksMemory out out' err err' status) →
      EndsWords out out' err err' status
  words_said why out out' err err' status among ends short = elim (is_memory why) [
    | inl is ↦
        ends_short (OwesWords words) (λ front. front ≡ []) (OutputOf (OwesWords words)) refl out out' err err' status (short is).0 (short is).1
    | inr other ↦ elim among [
      | inl is ↦ absurd (other is)
      | inr is ↦ ends_more (OwesSaid (is_fault why)) (OwesWords words) (λ x owed. inl (why, is, owed)) out out' err err' status (ends other)
    ]
  ]

  -- that there is no such command was told
  pub words_lost : (out out' err err' : SeenSink) (status : ℕ) → fault_of line words ≡ [] → ((a : Ask) → Asks words a → ⊥) → out' ≡ out →
      TellsFailure (Lacks Command) err err' status →
      EndsWords out out' err err' status
  words_lost out out' err err' status taken none same told =
      ends_failed (OwesWords words) (λ front. front ≡ []) (OutputOf (OwesWords words)) refl (Lacks Command) out out' err err' status (inr (inr (taken, none, refl))) same told

  -- neither the shelf nor the source was called
  pub at_words : (before after : World) (status : ℕ) → after.shelf ≡ before.shelf → after.source ≡ before.source →
      EndsWords before.out after.out before.err after.err status → Looks words before after status
  at_words before after status shelf source ends = inl (shelf, source, ends)

  -- the words ask for this, which was answered
  pub looks_so : (a : Ask) (before after : World) (status : ℕ) → fault_of line words ≡ [] → Asks words a → EndsSo a before after status →
      Looks words before after status
  looks_so a before after status taken asks ends = inr (taken, a, asks, ends)

  -- so they name its command
  pub asks_named : (a : Ask) → Asks words a → name_in words ≡ Some (asked_name a)
  asks_named a (s, is, named, says) = ap (option_and_then (λ (s : List ℕ × List Row). name_of s.0)) is ∙ named

-- what was told of a failure was told of this one
pub tells_as : (e f : Failure) (err err' : SeenSink) (status : ℕ) → e ≡ f → TellsFailure f err err' status → TellsFailure e err err' status
tells_as e f err err' status is told =
    let P : Failure → Type 0 = λ x. TellsFailure x err err' status in
    subst P (sym is) told

pub tells_lost : (e : Failure) (what : Missing) (lines : List ℕ) (err err' : SeenSink) (status : ℕ) → e ≡ Lacks what → lines ≡ missing_line what →
    Tells 2 lines err err' status → TellsFailure e err err' status
tells_lost e what lines err err' status is same told =
    let Q : List ℕ → Type 0 = λ l. Tells 2 l err err' status in
    tells_as e (Lacks what) err err' status is (inl (subst Q same told))

pub tells_fault : (e : Failure) (err err' : SeenSink) (status : ℕ) → e ≡ ReadFault → Tells 4 read_fault.err err err' status → TellsFailure e err err' status
tells_fault e err err' status is told = tells_as e ReadFault err err' status is (inl told)

-- the shelf is left alone where the words name no command
pub never_named : {X : Type 0} (found : Option Name) (a : Ask) (x y : X) → found ≡ Some (asked_name a) → found ≡ None → x ≡ y
never_named found a x y is none = let both : None ≡ Some (asked_name a) = sym none ∙ is in absurd (cc)

-- and the source where they name another one than `wave`
pub left_alone : {X : Type 0} (found : Option Name) (a : Ask) (x y : X) → found ≡ Some (asked_name a) → (most_input a ≡ None → x ≡ y) → found ≢ Some name.Wave → x ≡ y
left_alone found (ask.Wave w) x y is left other = absurd (other is)
left_alone found (ask.Picture p) x y is left other = left refl
