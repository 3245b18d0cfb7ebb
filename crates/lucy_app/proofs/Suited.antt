-- A command that nothing refuses is done, and its whole output stands, or memory runs out.
use Rattle.std.proofs.Common.{ℕ, ◌+◌, ◌≡◌, ◌≤◌, ◌<◌, ◌⊎◌, List, [], ◌∷◌, ◌++◌, length, Option, Some, None, Result, Ok, Err, refl, ap, sym, ◌∙◌, subst, inl, inr, arith}
use Rattle.std.specs.Prelude.{ℤ, ◌↔◌, IsTrue, IsSomeAnd, IfSome}
use Rattle.std.proofs.lemmas.List.{length-append}
use Rattle.lucy_word.specs.Limits.{limit_number}
use Rattle.lucy_word.specs.Bits.{Bits}
use Rattle.lucy_word.specs.declared.limit.Limit.TheVariants as limit
use Rattle.lucy_host.specs.Operators.{Operator, kinds_of}
use Rattle.lucy_host.specs.declared.kind.HostKind.{HostKind}
use Rattle.lucy_text.proofs.OutsideLaws.{followed}
use Rattle.lucy_text.specs.Outside.{Rose, SeenSource}
use Rattle.lucy_text.specs.Shelf.{Files, IsHeld, Lacks, IsLonger, IsCut, SeenShelf}
use Rattle.lucy_text.specs.declared.shelf.ShelfError.{ShelfError}
use Rattle.lucy_text.specs.declared.shelf.ShelfError.TheVariants as shelf
use Rattle.lucy_lines.specs.CutLaws.{OneCut}
use Rattle.lucy_lines.specs.declared.input.InputSpec.{InputSpec}
use Rattle.lucy_lines.specs.declared.reader.TextFault.{TextFault}
use Rattle.lucy_text.specs.Sources.{ReadStop, Ended, Failed, Passed, Read, StoppedAt}
use Rattle.lucy_lines.specs.Feeding.{is_closed}
use Rattle.lucy_program.specs.declared.options.Options.{Options}
use Rattle.lucy_program.specs.declared.accepted.Accepted.{Accepted}
use Rattle.lucy_front.specs.declared.refusal.Refusal.{Refusal}
use Rattle.lucy_program.specs.Accepting.{IsAccepted}
use Rattle.lucy_front.specs.Refusing.{RefusesSyntax, RefusesText}
use Rattle.lucy_run.specs.declared.ending.Ending.{Ending}
use Rattle.lucy_run.specs.declared.ending.Ending.TheVariants as ending
use Rattle.lucy_run.specs.Feeds.{Feeds, IsMainInput}
use Rattle.lucy_run.specs.Owes.{most_instants, input_words, heading, lines_to, IsHorizonOf, EndsFor, OwesRun, OwesKahn}
use Rattle.lucy_run.specs.Tracing.{OwesTrace}
use Rattle.lucy_run.specs.Laws.{IsFedWell, CompleteRun, CompleteInterpretation, CompleteReplay, CompleteTrace}
use Rattle.lucy_run.specs.Replays.{IsReplayText}
use Rattle.lucy_fields.specs.Readings.{AreRead}
use Rattle.lucy_fields.proofs.ReadingLaws.{never_both}
use Rattle.lucy_trace.specs.Logs.{picks_of}
use Rattle.lucy_stream.specs.Runs.{none_done, IsRun}
use Rattle.lucy_net.specs.Plans.{net_system}
use Rattle.lucy_run.proofs.OwesLaws.{OneHorizon, done_for}
use Rattle.lucy_run.proofs.WholeLaws.{taken_front, taken_all}
use Rattle.lucy_make.specs.Text.{made_text, made_input}
use Rattle.lucy_make.specs.Figures.{figures}
use Rattle.lucy_make.specs.Owes.{OwesSummary, printed_values, where_done}
use Rattle.lucy_command.specs.Commands.{ProgramWords, Command, Order, Show, Types, Check, Clocks, Run, Kahn, Make, Tighten, Replay, Trace}
use Rattle.lucy_tight.specs.Laws.{OneTightest}
use Rattle.lucy_app.specs.Outcomes.{NoRun, OwesNamed, EndsGiven}
use Rattle.lucy_app.specs.Commands.{written_options, inferring_options, Wanted, program_of, log_of}
use Rattle.lucy_app.specs.World.{World, Given, Fetched, Fetches, HasMetWorld}
use Rattle.lucy_app.specs.Answers.{Answer, printed, out_of_memory}
use Rattle.lucy_app.specs.Order.{IsVerdictLine}
use Rattle.lucy_app.specs.Show.{IsPrintOf}
use Rattle.lucy_app.specs.Types.{IsReportOf}
use Rattle.lucy_app.specs.Check.{IsCheckOf, RefusesCheck}
use Rattle.lucy_app.specs.Endings.{ended_answer}
use Rattle.lucy_app.specs.Programs.{OwesText, OwesPrint}
use Rattle.lucy_app.specs.Running.{IsRunnable, LacksInstants, OwesEnded, OwesRunning}
use Rattle.lucy_app.specs.Owes.{OwesOrder, Owes}
use Rattle.lucy_app.specs.Ends.{Answers, Declines}
use Rattle.lucy_app.specs.Complete.{IsFaultless, HoldsText, HoldsSuch, MayPrint, Completes}
use Rattle.lucy_app.specs.Replaying.{replayed, OwesEvents, OwesLog, OwesLogged}
use Rattle.lucy_app.proofs.ReplaysOnce.{picks_one, replay_moves}
use Rattle.lucy_app.proofs.Owed.{order_owes_one}
use Rattle.lucy_app.proofs.Verdicts.{IsVerdict, show_verdict}
use Rattle.lucy_app.proofs.Typed.{types_verdict}
use Rattle.lucy_app.proofs.Checked.{checks_apart, check_verdict}
use Rattle.lucy_app.proofs.TightOnce.{tight_unrefused, tight_printed}
use Rattle.lucy_app.proofs.RunsOnce.{AreSame, accepted_same, run_moves, kahn_moves, trace_moves}
use Rattle.lucy_app.proofs.MakesOnce.{whole_feeds, summary_moves}

-- it prints such an output
abbrev IsSuch : (May : List ℕ → Type 0) → Answer → Type 0
IsSuch May answer = (output : List ℕ) × May output × (answer ≡ printed output)

-- the command is done and such an output stands, or memory ran out
abbrev Finishes : (May : List ℕ → Type 0) (before after : World) (status : ℕ) → Type 0
Finishes May before after status =
    ((status ≡ 0) × (output : List ℕ) × May output × Answers (printed output) before.out after.out before.err after.err status)
    ⊎ (status ≡ 7)

-- where each answer that is owed prints such an output, the command is done
such_done : (May : List ℕ → Type 0) (command : Command) (before after : World) (given : Given) (status : ℕ) →
    ((answer : Answer) → Owes command given answer → IsSuch May answer) → IsFaultless before after →
    EndsGiven command given before after status → Finishes May before after status
such_done May command before after given status same well (inl (answer, inl owed, answers)) =
    let (output, may, is) = same answer owed in
    let P : Answer → Type 0 = λ a. Answers a before.out after.out before.err after.err status in
    let whole : Answers (printed output) before.out after.out before.err after.err status = subst P is answers in
    elim whole.told [ inl told ↦ inl (told.0, output, may, whole) | inr told ↦ absurd (well.err told.1.faults) ]
such_done May command before after given status same well (inl (answer, inr short, answers)) =
    elim answers.told [ inl told ↦ inr (told.0 ∙ ap (λ a. a.status) short.2) | inr told ↦ absurd (well.err told.1.faults) ]
such_done May command before after given status same well (inr (printing, owed, breaks)) = absurd (well.out breaks.failed.faults)

-- so where each is this output
done : (May : List ℕ → Type 0) (command : Command) (before after : World) (given : Given) (output : List ℕ) (status : ℕ) → May output →
    ((answer : Answer) → Owes command given answer → answer ≡ printed output) → IsFaultless before after →
    EndsGiven command given before after status → Finishes May before after status
done May command before after given output status may same well ends =
    such_done May command before after given status (λ answer owed. (output, may, same answer owed)) well ends

-- where memory ran out before the command was carried out
declined : (May : List ℕ → Type 0) (before after : World) (status : ℕ) → IsFaultless before after →
    Declines (out_of_memory []) before after status → Finishes May before after status
declined May before after status well (shelf, source, answers) =
    elim answers.told [ inl told ↦ inr told.0 | inr told ↦ absurd (well.err told.1.faults) ]

-- `order` of two words that are told
module _ (before after : SeenSource) (bytes taken output : List ℕ) (took : Some bytes ≡ followed taken after.left) (well : Rose before.faults after.faults → ⊥)
    (is : IsVerdictLine bytes output) (few : length bytes ≤ limit_number limit.OrderInput) where
  order_owed : (stop : ReadStop) → StoppedAt (limit_number limit.OrderInput) before after taken stop → (answer : Answer) → OwesOrder taken stop answer → answer ≡ printed output
  order_owed Ended stopped answer owed =
      let all : taken ≡ bytes = taken_all bytes taken after.left took stopped.1.0 in
      order_owes_one bytes Ended answer (printed output) (subst (λ bs. OwesOrder bs Ended answer) all owed) (inl (output, is, refl))
  order_owed Failed stopped answer owed = absurd (well stopped.1)
  order_owed Passed stopped answer owed =
      let (rest, left, are) = taken_front bytes taken after.left took in
      let long : length bytes ≡ length taken + length rest = ap length are ∙ length-append taken rest in
      let past : length taken ≡ limit_number limit.OrderInput + 1 = stopped.0 in
      absurd (omega (arith, long, past, few))
  order_owed stop stopped answer owed = absurd owed

order_done : (before after : SeenSource) (taken output : List ℕ) (stop : ReadStop) (left : Option (List ℕ)) → before.left ≡ left → Read (limit_number limit.OrderInput) before after taken stop →
    (Rose before.faults after.faults → ⊥) → IsSomeAnd left (λ bytes. IsVerdictLine bytes output × (length bytes ≤ limit_number limit.OrderInput)) →
    (answer : Answer) → OwesOrder taken stop answer → answer ≡ printed output
order_done before after taken output stop None e read well none answer owed = absurd none
order_done before after taken output stop (Some bytes) e read well (is, few) answer owed = order_owed before after bytes taken output (sym e ∙ read.took) well is few stop read.stopped answer owed

-- a text that is accepted is run to its end, where what that owes comes to such an answer
ran_done : (Owed : Accepted → List ℕ → Ending → Type 0) (ops : List Operator) (o : Options) (instants : Option ℕ) (stop : ReadStop)
    (text : List ℕ) (more : List (Result (List ℕ) ShelfError)) (a : Accepted) (Such : Answer → Type 0) →
    IsRunnable ops o instants text a → ((b : Accepted) (out : List ℕ) (end : Ending) → AreSame b a → Owed b out end → Such (ended_answer out end)) →
    (answer : Answer) →
    OwesRunning Owed ops o instants stop (Ok text ∷ more) answer → Such answer
ran_done Owed ops o instants stop text more a Such is ends answer (inl refused) =
    absurd (checks_apart ops o text a refused.0.0 is.0 refused.0.1)
ran_done Owed ops o instants stop text more a Such is ends answer (inr (b, also, inl lacks)) =
    absurd (is.1 (sym (accepted_same ops o text b a also is.0).inputs ∙ lacks.0.0, lacks.0.1))
ran_done Owed ops o instants stop text more a Such is ends answer (inr (b, also, inr ran)) =
    subst Such (sym ran.4) (ends b ran.1 ran.2 (accepted_same ops o text b a also is.0) ran.3)

-- what the fetch of a file that is held gave, where no count rose
module _ (before after : SeenShelf) (file : Wanted) (text : List ℕ) where
  -- a text that was fetched is the one that is held
  text_held : (files : Option Files) (t : List ℕ) → before.files ≡ files → IsSomeAnd files (λ held. held file.file ≡ Some text) → Fetched file before after (Ok t) → t ≡ text
  text_held None t is holds f = absurd holds
  text_held (Some files) t is holds f =
      let P : Option Files → Type 0 = λ fs. IsHeld fs file.file t in
      let held : files file.file ≡ Some t = subst P is f.held.0 in
      let same : Some t ≡ Some text = sym held ∙ holds in
      cc same

  fetched_so : (files : Option Files) (fetched : Result (List ℕ) ShelfError) → before.files ≡ files → IsSomeAnd files (λ held. held file.file ≡ Some text) → length text ≤ file.most →
      (Rose before.faults after.faults → ⊥) → Fetched file before after fetched → (fetched ≡ Ok text) ⊎ (fetched ≡ Err shelf.OutOfMemory)
  fetched_so None fetched is holds few well f = absurd holds
  fetched_so (Some files) (Ok t) is holds few well f = inl (ap Ok (text_held (Some files) t is holds f))
  fetched_so (Some files) (Err shelf.Failed) is holds few well f = absurd (well f.faults)
  fetched_so (Some files) (Err shelf.Missing) is holds few well f =
      let P : Option Files → Type 0 = λ fs. Lacks fs file.file in
      let none : files file.file ≡ None = subst P is (f.missing.0 refl).0 in
      let e : Some text ≡ None = sym holds ∙ none in
      absurd (cc e)
  fetched_so (Some files) (Err shelf.TooLong) is holds few well f =
      let gave : Result (List ℕ) ShelfError = Err shelf.TooLong in
      let P : Option Files → Type 0 = λ fs. IfSome fs (λ files. (gave ≡ Err shelf.TooLong) ↔ (IsLonger (files file.file) file.most × (IsCut gave → ⊥))) in
      let Q : Option (List ℕ) → Type 0 = λ o. IsLonger o file.most in
      let long : file.most < length text = subst Q holds ((subst P is f.too_long).0 refl).0 in
      absurd (omega (arith, long, few))
  fetched_so (Some files) (Err shelf.OutOfMemory) is holds few well f = inr refl

  -- what a file that is held owes is such an answer, where its text owes one
  text_done : (Refuses : List ℕ → Refusal → Type 0) (Owed : List ℕ → Answer → Type 0) (stop : ReadStop) (Such : Answer → Type 0) →
      ((more : List (Result (List ℕ) ShelfError)) (answer : Answer) → OwesText Refuses Owed stop (Ok text ∷ more) answer → Such answer) →
      HoldsText before file text →
      (Rose before.faults after.faults → ⊥) → (fetched : List (Result (List ℕ) ShelfError)) → Fetches (file ∷ []) before after fetched → (answer : Answer) →
      OwesText Refuses Owed stop fetched answer → Such answer
  text_done Refuses Owed stop Such same holds well [] met answer (inl owed) = absurd owed.0
  text_done Refuses Owed stop Such same holds well [] met answer (inr owed) = absurd owed
  text_done Refuses Owed stop Such same holds well (r ∷ other ∷ more) met answer owed = absurd met.2
  text_done Refuses Owed stop Such same holds well (r ∷ []) (between, met, e) answer owed =
      let P : Result (List ℕ) ShelfError → Type 0 = λ f. OwesText Refuses Owed stop (f ∷ []) answer in
      let Q : SeenShelf → Type 0 = λ s. Fetched file before s r in
      elim (fetched_so before.files r refl holds.0 holds.1 well (subst Q (sym e) met)) [
        | inl is ↦ same [] answer (subst P is owed)
        | inr is ↦ elim (subst P is owed) [ inl none ↦ absurd none.0 | inr none ↦ absurd none ]
      ]

  -- a command that prints the text's program
  print_done : (Prints : List ℕ → List ℕ → Type 0) (Refuses : List ℕ → Refusal → Type 0) → IsVerdict Prints Refuses → (stop : ReadStop) (print : List ℕ) → Prints text print → HoldsText before file text →
      (Rose before.faults after.faults → ⊥) → (fetched : List (Result (List ℕ) ShelfError)) → Fetches (file ∷ []) before after fetched → (answer : Answer) →
      OwesText Refuses (OwesPrint Prints) stop fetched answer → answer ≡ printed print
  print_done Prints Refuses v stop print is holds well fetched met answer owed =
      text_done Refuses (OwesPrint Prints) stop (λ a. a ≡ printed print)
      (λ more x h. elim h [ inl refused ↦ absurd (v.apart text print refused.0.0 is refused.0.1) | inr prints ↦ prints.2 ∙ ap printed (v.one text prints.0 print prints.1 is) ])
      holds well fetched met answer owed

  -- one that runs it
  run_done : (Owed : Accepted → List ℕ → Ending → Type 0) (ops : List Operator) (o : Options) (instants : Option ℕ) (stop : ReadStop)
      (a : Accepted) (Such : Answer → Type 0) → IsRunnable ops o instants text a →
      ((b : Accepted) (out : List ℕ) (end : Ending) → AreSame b a → Owed b out end → Such (ended_answer out end)) → HoldsText before file text →
      (Rose before.faults after.faults → ⊥) →
      (fetched : List (Result (List ℕ) ShelfError)) → Fetches (file ∷ []) before after fetched → (answer : Answer) →
      OwesRunning Owed ops o instants stop fetched answer → Such answer
  run_done Owed ops o instants stop a Such is ends holds well fetched met answer owed =
      text_done (RefusesCheck ops o) (λ text told. (b : Accepted) × IsAccepted ops o text b × OwesEnded (Owed b) instants stop b told) stop
      Such
      (λ more x h. ran_done Owed ops o instants stop text more a Such is ends x h) holds well fetched met answer owed

-- the input that `make` generates is what it runs on
made_fed : OneCut → (inputs : List InputSpec) (stop : ReadStop) (lists others : List (List ℤ)) (fault : Option TextFault) → (inputs ≡ [] → ⊥) → IsTrue (is_closed stop) →
    IsMainInput inputs (Some made_input) lists → Feeds inputs made_input stop others fault → (others ≡ lists) × (fault ≡ None)
made_fed cut [] stop lists others fault some whole is fed = absurd (some refl)
made_fed cut (input ∷ inputs) stop lists others fault some whole is fed = whole_feeds cut (input ∷ inputs) made_input stop Ended others lists fault None whole refl fed is

made_ends : OneCut → OneHorizon → (stages : ℕ) (kinds : List HostKind) (a : Accepted) (lists : List (List ℤ)) (horizon : ℕ) (output : List ℕ) (end : Ending) → (LacksInstants a None → ⊥) →
    IsFedWell a None (Some made_input) lists horizon → OwesSummary stages kinds a output end → ended_answer output end ≡ printed (figures stages a.net horizon (printed_values kinds a lists horizon))
made_ends cut horizons stages kinds a lists horizon output end runs fed (stop, others, fault, other, whole, made, ends, is) =
    let (same, none) = made_fed cut a.inputs.items stop lists others fault (λ e. runs (e, refl)) whole fed.input made.feeds in
    let words : List Bits = input_words a in
    let last : other ≡ horizon = horizons words lists (most_instants None) other horizon (subst (λ ls. IsHorizonOf words None ls other) same made.horizon_is) fed.horizon_is in
    let P : Option TextFault → Type 0 = λ f. EndsFor words None lists f end in
    let Q : List (List ℤ) → Type 0 = λ ls. EndsFor words None ls fault end in
    let over : end ≡ ending.Done = done_for words None lists end fed.few (subst P none (subst Q same ends)) in
    ap (λ e. ended_answer output e) over
    ∙ ap printed (is ∙ ap (λ e. where_done e (figures stages a.net other (printed_values kinds a others other))) over
    ∙ ap (λ ls. figures stages a.net other (printed_values kinds a ls other)) same ∙ ap (λ t. figures stages a.net t (printed_values kinds a lists t)) last)

-- this may stand by these operators in place of the world's
abbrev MayWith : List Operator → Command → World → (output : List ℕ) → Type 0
MayWith ops command before output = MayPrint command (record before { operators = ops }) output

-- what may stand by the operators of the world may stand by those that a command has met
met_suits : (command : Command) (before : World) (ops : List Operator) (output : List ℕ) → ops ≡ before.operators →
    MayPrint command before output → MayWith ops command before output
met_suits command before ops output e suits =
    let P : List Operator → Type 0 = λ os. MayWith os command before output in
    subst P (sym e) suits

-- what is owed with this ending is what is printed
ended_printed : (out output : List ℕ) (end : Ending) → (out ≡ output) × (end ≡ ending.Done) → ended_answer out end ≡ printed output
ended_printed out output end (same, over) = ap (λ e. ended_answer out e) over ∙ ap printed same

-- a log of a program that can be run is replayed to its end, where nothing refuses it
module _ (again : CompleteReplay) (ops : List Operator) (words : ProgramWords) (name : List ℕ) (taken : List ℕ) (stop : ReadStop) (before after : World) (a : Accepted) (lists : List (List ℤ)) (horizon : ℕ) (picks : List ℕ)
    (text log : List ℕ) (held : HoldsText before.shelf (program_of words.file) text) (can : IsRunnable ops (inferring_options words.scale words.lead) words.instants text a)
    (logs : HoldsText before.shelf (log_of name) log) (reads : AreRead (picks_of log) picks) (fed : IsFedWell a words.instants before.source.left lists horizon)
    (run : IsRun (net_system a.net horizon) none_done picks) (well : IsFaultless before after) (source : Read (limit_number limit.Input) before.source after.source taken stop) where
  -- it prints the text of these events
  abbrev Prints : Answer → Type 0
  Prints answer = (output : List ℕ) × IsReplayText (kinds_of ops) a lists horizon picks output × (answer ≡ printed output)

  events_done : (b : Accepted) → AreSame b a → (answer : Answer) → OwesEvents ops b words.instants taken stop picks answer → Prints answer
  events_done b same answer (output, result, owed, is) =
      let whole = again ops a words.instants before.source after.source picks taken stop lists horizon output result source well.source fed run
      (replay_moves ops b a same words.instants picks taken stop output result owed) in
      (output, whole.0, is ∙ ap (replayed output) whole.1)

  log_done : (b : Accepted) → AreSame b a → (answer : Answer) → OwesLog (OwesEvents ops b words.instants taken stop) stop (Ok log) answer → Prints answer
  log_done b same answer (inl (place, (front, rest, at), is, unread)) = absurd (never_both picks front place rest (sym reads ∙ at))
  log_done b same answer (inr (events, read, owed)) =
      events_done b same answer (subst (λ ps. OwesEvents ops b words.instants taken stop ps answer) (picks_one log events picks read reads) owed)

  -- the fetches gave both texts, or memory ran out
  second_done : (between middle : SeenShelf) (t : List ℕ) (second : Result (List ℕ) ShelfError) (answer : Answer) → Fetched (program_of words.file) before.shelf between (Ok t) →
      Fetched (log_of name) between middle second → after.shelf ≡ middle →
      OwesLogged ops (inferring_options words.scale words.lead) words.instants taken stop (Ok t ∷ (second ∷ [])) answer → Prints answer
  second_done between middle t second answer first next e (b, runs, owed) =
      let same_text : t ≡ text = text_held before.shelf between (program_of words.file) text before.shelf.files t refl held.0 first in
      let same : AreSame b a = accepted_same ops (inferring_options words.scale words.lead) text b a (subst (λ u. IsAccepted ops (inferring_options words.scale words.lead) u b) same_text runs.0) can.0 in
      let calm : Rose between.faults middle.faults → ⊥ = λ rose. well.shelf (subst (λ n. Rose n after.shelf.faults) first.faults (subst (λ (s : SeenShelf). Rose between.faults s.faults) (sym e) rose)) in
      elim (fetched_so between middle (log_of name) log before.shelf.files second first.files logs.0 logs.1 calm next) [
        | inl is ↦ log_done b same answer (subst (λ r. OwesLog (OwesEvents ops b words.instants taken stop) stop r answer) is owed)
        | inr is ↦ absurd (let none : OwesLog (OwesEvents ops b words.instants taken stop) stop (Err shelf.OutOfMemory) answer = subst (λ r. OwesLog (OwesEvents ops b words.instants taken stop) stop r answer) is owed in none.0)
      ]

  first_done : (between : SeenShelf) (first : Result (List ℕ) ShelfError) (answer : Answer) → Fetched (program_of words.file) before.shelf between first → after.shelf ≡ between →
      OwesRunning NoRun ops (inferring_options words.scale words.lead) words.instants stop (first ∷ []) answer → ⊥
  first_done between first answer met e owed =
      let o = inferring_options words.scale words.lead in
      let calm : Rose before.shelf.faults between.faults → ⊥ = λ rose. well.shelf (subst (λ (s : SeenShelf). Rose before.shelf.faults s.faults) (sym e) rose) in
      let P : Result (List ℕ) ShelfError → Type 0 = λ f. OwesRunning NoRun ops o words.instants stop (f ∷ []) answer in
      elim (fetched_so before.shelf between (program_of words.file) text before.shelf.files first refl held.0 held.1 calm met) [
        | inl is ↦ elim (subst P is owed) [
          | inl refused ↦ checks_apart ops o text a refused.0.0 can.0 refused.0.1
          | inr (b, also, inl lacks) ↦ can.1 (sym (accepted_same ops o text b a also can.0).inputs ∙ lacks.0.0, lacks.0.1)
          | inr (b, also, inr ran) ↦ ran.3
        ]
        | inr is ↦ elim (subst P is owed) [ inl none ↦ none.0 | inr none ↦ none ]
      ]

  logged_so : (fetched : List (Result (List ℕ) ShelfError)) → Fetches (program_of words.file ∷ (log_of name ∷ [])) before.shelf after.shelf fetched → (answer : Answer) →
      OwesLogged ops (inferring_options words.scale words.lead) words.instants taken stop fetched answer → Prints answer
  logged_so [] met answer owed = absurd owed
  logged_so (first ∷ []) (between, met, e) answer owed = absurd (first_done between first answer met e owed)
  logged_so (Ok t ∷ (second ∷ [])) (between, met, (middle, next, e)) answer owed = second_done between middle t second answer met next e owed
  logged_so (Err f ∷ (second ∷ [])) met answer owed = absurd owed
  logged_so (first ∷ (second ∷ (third ∷ more))) met answer owed = absurd owed

logged_done : CompleteReplay → (ops : List Operator) (words : ProgramWords) (name : List ℕ) (taken : List ℕ) (stop : ReadStop) (before after : World) →
    (suits : (a : Accepted) × (lists : List (List ℤ)) × (horizon : ℕ)
    × HoldsSuch (λ text. IsRunnable ops (inferring_options words.scale words.lead) words.instants text a) before.shelf (program_of words.file)
    × IsFedWell a words.instants before.source.left lists horizon × (picks : List ℕ)
    × HoldsSuch (λ log. AreRead (picks_of log) picks) before.shelf (log_of name) × IsRun (net_system a.net horizon) none_done picks) →
    IsFaultless before after → Read (limit_number limit.Input) before.source after.source taken stop → (fetched : List (Result (List ℕ) ShelfError)) →
    Fetches (program_of words.file ∷ (log_of name ∷ [])) before.shelf after.shelf fetched → (answer : Answer) →
    OwesLogged ops (inferring_options words.scale words.lead) words.instants taken stop fetched answer →
    (output : List ℕ) × IsReplayText (kinds_of ops) suits.0 suits.1 suits.2 suits.5 output × (answer ≡ printed output)
logged_done again ops words name taken stop before after (a, lists, horizon, (text, held, can), fed, picks, (log, logs, reads), run) well source fetched met answer owed =
    logged_so again ops words name taken stop before after a lists horizon picks text log held can logs reads fed run well source fetched met answer owed

module _ (cut : OneCut) (horizons : OneHorizon) (run : CompleteRun) (kahn : CompleteInterpretation) (again : CompleteReplay)
    (trace : CompleteTrace) (tight : OneTightest)
    (before after : World) (output : List ℕ) (status : ℕ) (well : IsFaultless before after) where
  carried_out : (command : Command) (given : Given) → HasMetWorld command before after given → EndsGiven command given before after status →
      MayWith given.operators command before output → Finishes (MayWith given.operators command before) before after status
  carried_out Order given met ends suits =
      done (MayWith given.operators Order before) Order before after given output status suits
      (order_done before.source after.source given.taken output given.stop before.source.left refl met.source well.source suits) well ends
  carried_out (Show file) given met ends suits =
      let (text, holds, is) = suits in
      done (MayWith given.operators (Show file) before) (Show file) before after given output status suits
      (print_done before.shelf after.shelf (program_of file) text IsPrintOf RefusesSyntax show_verdict given.stop output is holds
      well.shelf given.fetched met.shelf) well ends
  carried_out (Types file) given met ends suits =
      let (text, holds, is) = suits in
      let ops : List Operator = given.operators in
      done (MayWith given.operators (Types file) before) (Types file) before after given output status suits
      (print_done before.shelf after.shelf (program_of file) text (IsReportOf ops) (RefusesText ops) (types_verdict ops) given.stop output is holds well.shelf given.fetched met.shelf) well ends
  carried_out (Check file) given met ends suits =
      let (text, holds, is) = suits in
      let ops : List Operator = given.operators in
      done (MayWith given.operators (Check file) before) (Check file) before after given output status suits
      (print_done before.shelf after.shelf (program_of file) text (IsCheckOf ops written_options) (RefusesCheck ops written_options) (check_verdict ops written_options) given.stop output is holds well.shelf given.fetched met.shelf) well ends
  carried_out (Clocks words) given met ends suits =
      let (text, holds, is) = suits in
      let ops : List Operator = given.operators in
      let o : Options = inferring_options words.scale words.lead in
      done (MayWith given.operators (Clocks words) before) (Clocks words) before after given output status suits
      (print_done before.shelf after.shelf (program_of words.file) text (IsCheckOf ops o) (RefusesCheck ops o) (check_verdict ops o) given.stop output is holds well.shelf given.fetched met.shelf) well ends
  carried_out (Run words workers block) given met ends suits =
      let (a, lists, horizon, (text, holds, is), fed, lines) = suits in
      let ops : List Operator = given.operators in
      let kinds : List HostKind = kinds_of ops in
      let instants : Option ℕ = words.instants in
      done (MayWith given.operators (Run words workers block) before) (Run words workers block) before after given output status suits
      (run_done before.shelf after.shelf (program_of words.file) text (λ p. OwesRun kinds p instants given.taken given.stop) ops
      (inferring_options words.scale words.lead) instants given.stop a (λ x. x ≡ printed output) is
      (λ b out end same owed. ended_printed out (heading a ++ lines_to kinds a lists horizon) end (run kinds a instants before.source after.source given.taken given.stop lists horizon out end met.source well.source fed
      (run_moves kinds b a same instants given.taken given.stop out end owed)) ∙ ap printed (sym lines)) holds well.shelf given.fetched met.shelf) well ends
  carried_out (Kahn words) given met ends suits =
      let (a, lists, horizon, (text, holds, is), fed, (turns, items, lines)) = suits in
      let ops : List Operator = given.operators in
      let kinds : List HostKind = kinds_of ops in
      let instants : Option ℕ = words.instants in
      done (MayWith given.operators (Kahn words) before) (Kahn words) before after given output status suits
      (run_done before.shelf after.shelf (program_of words.file) text (λ p. OwesKahn kinds p instants given.taken given.stop) ops
      (inferring_options words.scale words.lead) instants given.stop a (λ x. x ≡ printed output) is
      (λ b out end same owed. ended_printed out (lines_to kinds a lists horizon) end (kahn kinds a instants before.source after.source given.taken given.stop lists horizon out end met.source well.source fed turns items
      (kahn_moves kinds b a same instants given.taken given.stop out end owed)) ∙ ap printed (sym lines)) holds well.shelf given.fetched met.shelf) well ends
  carried_out (Make words) given met ends suits =
      let (a, lists, horizon, is, fed, lines) = suits in
      let kinds : List HostKind = kinds_of given.operators in
      let stages : ℕ = words.stages in
      done (MayWith given.operators (Make words) before) (Make words) before after given output status suits
      (ran_done (λ p. OwesSummary stages kinds p) given.operators (inferring_options 1 1) None given.stop (made_text stages) [] a
      (λ x. x ≡ printed output) is
      (λ b out end same owed. made_ends cut horizons stages kinds a lists horizon out end is.1 fed (summary_moves stages kinds b a same out end owed) ∙ ap printed (sym lines))) well ends
  carried_out (Tighten words node buffer) given met ends suits =
      let ops : List Operator = given.operators in
      let o : Options = inferring_options words.scale words.lead in
      let (text, holds, is) = suits in
      such_done (MayWith ops (Tighten words node buffer) before) (Tighten words node buffer) before after given status
      (text_done before.shelf after.shelf (program_of words.file) text (RefusesCheck ops o) (OwesNamed ops o node buffer) given.stop
      (IsSuch (MayWith ops (Tighten words node buffer) before))
      (λ more answer h. elim h [
        | inl refused ↦ absurd (tight_unrefused ops o node buffer text output refused.0.0 is refused.0.1)
        | inr owed ↦ (
            let (print, prints, told) = tight_printed tight ops o node buffer text output answer is owed in
            (print, (text, holds, prints), told))
      ]) holds well.shelf given.fetched met.shelf) well ends
  carried_out (Replay words name) given met ends suits =
      such_done (MayWith given.operators (Replay words name) before) (Replay words name) before after given status
      (λ answer owed. (
      let (output, text, is) = logged_done again given.operators words name given.taken given.stop before after (suits.0, suits.1, suits.2, suits.3, suits.4, suits.5.0, suits.5.1, suits.5.2) well met.source given.fetched met.shelf answer owed in
      let (a, lists, horizon, held, fed, (picks, log, run, old)) = suits in
      (output, (a, lists, horizon, held, fed, (picks, log, run, text)), is)
      )) well ends
  carried_out (Trace words workers) given met ends suits =
      let (a, lists, horizon, (text, holds, is), fed, traced) = suits in
      let ops : List Operator = given.operators in
      let instants : Option ℕ = words.instants in
      such_done (MayWith ops (Trace words workers) before) (Trace words workers) before after given status
      (run_done before.shelf after.shelf (program_of words.file) text (λ p. OwesTrace p instants given.taken given.stop) ops
      (inferring_options words.scale words.lead) instants given.stop a (IsSuch (MayWith ops (Trace words workers) before)) is
      (λ b out end same owed. (
      let whole = trace a instants before.source after.source given.taken given.stop lists horizon out end met.source well.source fed
      (trace_moves [] b a same instants given.taken given.stop out end owed) in
      (out, (a, lists, horizon, (text, holds, is), fed, whole.0), ended_printed out out end (refl, whole.1))
      )) holds well.shelf given.fetched met.shelf) well ends

-- what may stand by the operators that a command has met may stand by those of its world
unmet : (command : Command) (before : World) (ops : List Operator) (status : ℕ) (after : World) → ops ≡ before.operators →
    Finishes (MayWith ops command before) before after status →
    Finishes (MayPrint command before) before after status
unmet command before ops status after e finishes =
    let P : List Operator → Type 0 = λ os. Finishes (MayWith os command before) before after status in
    subst P e finishes

pub suited_done : OneCut → OneHorizon → CompleteRun → CompleteInterpretation → CompleteReplay → CompleteTrace → OneTightest → Completes
suited_done cut horizons run kahn again trace tight command before after status (inl (given, met, ends)) well (output, may) =
    unmet command before given.operators status after met.operators
    (carried_out cut horizons run kahn again trace tight before after output status well command given met ends
    (met_suits command before given.operators output met.operators may))
suited_done cut horizons run kahn again trace tight command before after status (inr declines) well (output, may) =
    declined (MayPrint command before) before after status well declines
