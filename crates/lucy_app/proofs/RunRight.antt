-- How `run` ends is right.
use Rattle.std.proofs.Common.{ℕ, ◌≡◌, ◌≢◌, ◌≤◌, ◌⊎◌, ◌++◌, List, [], ◌∷◌, length, take, Option, None, Some, Ok, Err, Result, true, refl, ap, sym, ◌∙◌, subst, inl, inr, arith}
use Rattle.std.specs.Prelude.{ℤ, IsSome, IsSomeAnd, IfSome}
use Rattle.std.specs.Option.{option_map}
use Rattle.std.specs.List.{AllByRecursion}
use Rattle.std.proofs.lemmas.List.{take_all}
use Rattle.lucy_word.specs.Bits.{Bits}
use Rattle.lucy_word.specs.Limits.{limit_number}
use Rattle.lucy_word.specs.declared.limit.Limit.{Limit}
use Rattle.lucy_word.specs.declared.limit.Limit.TheVariants as limit
use Rattle.lucy_host.specs.Operators.{Operator, kinds_of}
use Rattle.lucy_text.specs.declared.shelf.ShelfError.{ShelfError}
use Rattle.lucy_text.specs.declared.shelf.ShelfError.TheVariants as shelf
use Rattle.lucy_text.specs.Outside.{SeenSource, SeenSink, appended}
use Rattle.lucy_text.specs.Shelf.{Files, SeenShelf, IsHeld, Lacks}
use Rattle.lucy_text.specs.Sources.{ReadStop, Unread, Ended, Drained, StoppedAt, Read}
use Rattle.lucy_lines.specs.declared.input.InputSpec.{InputSpec}
use Rattle.lucy_lines.specs.declared.reader.TextFault.{TextFault}
use Rattle.lucy_lines.specs.declared.reader.TextFault.TheVariants as fault
use Rattle.lucy_lines.specs.Feeding.{is_closed, values_by_stream}
use Rattle.lucy_tree.specs.View.{ProgramTree}
use Rattle.lucy_grammar.specs.Texts.{HasTree}
use Rattle.lucy_grammar.specs.Laws.{TextsHaveOneAnswer}
use Rattle.lucy_place.specs.WrittenNodes.{IsWritten}
use Rattle.lucy_program.specs.declared.accepted.Accepted.{Accepted}
use Rattle.lucy_program.specs.declared.options.Options.{Options}
use Rattle.lucy_program.specs.Accepting.{IsAccepted}
use Rattle.lucy_front.specs.declared.refusal.Refusal.{Refusal}
use Rattle.lucy_front.specs.declared.refusal.Refusal.TheVariants as refusal
use Rattle.lucy_front.specs.Refusals.{memory_line}
use Rattle.lucy_front.specs.Refusing.{Refuses}
use Rattle.lucy_run.specs.declared.ending.Ending.{Ending}
use Rattle.lucy_run.specs.declared.ending.Ending.TheVariants as ending
use Rattle.lucy_run.specs.Feeds.{Feeds}
use Rattle.lucy_run.specs.Owes.{input_words, IsHorizonOf, heading, lines_to, EndsFor, OwesRun, LinesAllow}
use Rattle.lucy_program.specs.Scheduled.{main_inputs}
use Rattle.lucy_naming.specs.Laws.{NodesAreOne}
use Rattle.lucy_right.specs.Right.{Meaning, StandsFor, IsRunOf, RunIsRight}
use Rattle.lucy_right.specs.Earliest.{AreChosen}
use Rattle.lucy_right.specs.Owed.{IsRunOfText, CutsAreRuns, OwedAreRuns}
use Rattle.lucy_right.specs.Refused.{WrittenPassLimits}
use Rattle.lucy_command.specs.Commands.{ProgramWords, Command, Run}
use Rattle.lucy_app.specs.ProgramRefusals.{program_status}
use Rattle.lucy_app.specs.Answers.{Answer, refused, program_refused, read_fault, limit_passed, no_instants}
use Rattle.lucy_app.specs.Commands.{program_of, inferring_options, HasText}
use Rattle.lucy_app.specs.World.{World, Given, Fetched, Fetches, HasMetWorld}
use Rattle.lucy_app.specs.Endings.{write_fault_line, fault_told, ending_told, ended_answer}
use Rattle.lucy_app.specs.Programs.{OwesUnfetched}
use Rattle.lucy_app.specs.Running.{LacksInstants, IsRunnable, OwesEnded, OwesRunning}
use Rattle.lucy_app.specs.Owes.{Owes, OwesOutput}
use Rattle.lucy_app.specs.Ends.{Tells, Answers, EndsBy, MayStand, MayFail, Ends}
use Rattle.lucy_app.specs.Right.{RunsAreRight}
use Rattle.lucy_app.proofs.RunEnds.{some_or_none}
use Rattle.lucy_app.proofs.RunInputs.{inputless}

-- what follows the bytes taken of an input that is told, which is nothing where they count as all
record Follows (input taken : List ℕ) (stop : ReadStop) : Type 0 where
  more : List ℕ
  is : taken ++ more ≡ input
  none : is_closed stop ≡ true → more ≡ []

closed_none : (most : ℕ) (before after : SeenSource) (taken : List ℕ) (stop : ReadStop) (more : List ℕ) → StoppedAt most before after taken stop → is_closed stop ≡ true → after.left ≡ Some more → more ≡ []
closed_none most before after taken Ended more h closed left = subst (λ l. IfSome l (λ bytes. bytes ≡ [])) left h.1.0
closed_none most before after taken Drained more h closed left = subst (λ l. IfSome l (λ bytes. bytes ≡ [])) left h.1.0
closed_none most before after taken stop more h closed left = cc

follows : (most : ℕ) (before after : SeenSource) (taken : List ℕ) (stop : ReadStop) (input : List ℕ) → Read most before after taken stop → before.left ≡ Some input → Follows input taken stop
follows most before after taken stop input read told = of_left after.left refl
  where
    of_left : (left : Option (List ℕ)) → after.left ≡ left → Follows input taken stop
    of_left None e =
        let bad : Some input ≡ None = sym told ∙ read.took ∙ ap (option_map (λ (rest : List ℕ). taken ++ rest)) e in absurd (cc bad)
    of_left (Some more) e =
        let same : Some input ≡ Some (taken ++ more) = sym told ∙ read.took ∙ ap (option_map (λ (rest : List ℕ). taken ++ rest)) e in
        record { more = more; is = sym (cc same); none = λ closed. closed_none most before after taken stop more read.stopped closed e }

-- what was fetched of a file that is told is its text
pub held_once : (files : Option Files) (file text other : List ℕ) → IsSomeAnd files (λ held. held file ≡ Some text) → IsHeld files file other → other ≡ text
held_once None file text other told held = absurd told
held_once (Some files) file text other told held = let same : Some other ≡ Some text = sym held ∙ told in cc same

fetched_text : (file text : List ℕ) (before after : SeenShelf) (fetched : List (Result (List ℕ) ShelfError)) (Holds : List ℕ → Type 0) →
    IsSomeAnd before.files (λ held. held file ≡ Some text) → Fetches (program_of file ∷ []) before after fetched → HasText fetched Holds → Holds text
fetched_text file text before after [] Holds told fetches h = absurd h
fetched_text file text before after (Err e ∷ more) Holds told fetches h = absurd h
fetched_text file text before after (Ok other ∷ more) Holds told fetches h = subst Holds (held_once before.files file text other told fetches.1.held.0) h

-- what the shelf holds under FILE, or that it holds nothing there
told_text : (files : Option Files) (file text : List ℕ) → option_map (λ (held : Files). held file) files ≡ Some (Some text) → IsSomeAnd files (λ held. held file ≡ Some text)
told_text None file text e = absurd (cc e)
told_text (Some files) file text e = cc e

told_none : (files : Option Files) (file : List ℕ) → option_map (λ (held : Files). held file) files ≡ Some None → Lacks files file
told_none None file e = absurd (cc e)
told_none (Some files) file e = cc e

-- no text is fetched of a file that isn't there
none_held : (files : Option Files) (file other : List ℕ) → Lacks files file → IsHeld files file other → ⊥
none_held None file other lacks held = lacks
none_held (Some files) file other lacks held = let bad : Some other ≡ None = sym held ∙ lacks in cc bad

none_fetched : (file : List ℕ) (before after : SeenShelf) (fetched : List (Result (List ℕ) ShelfError)) (Holds : List ℕ → Type 0) → Lacks before.files file →
    Fetches (program_of file ∷ []) before after fetched → HasText fetched Holds → ⊥
none_fetched file before after [] Holds lacks fetches h = h
none_fetched file before after (Err e ∷ more) Holds lacks fetches h = h
none_fetched file before after (Ok other ∷ more) Holds lacks fetches h = none_held before.files file other lacks fetches.1.held.0

-- nothing is printed, as FILE wasn't read or memory ran out
abbrev IsUnread : Answer → Type 0
IsUnread answer = (answer.out ≡ []) × ((answer.status ≡ 4) ⊎ (answer.status ≡ 7))

missed : (e : ShelfError) (file : List ℕ) (before after : SeenShelf) (answer : Answer) → Lacks before.files file → Fetched (program_of file) before after (Err e) → OwesUnfetched limit.Text e answer → IsUnread answer
missed shelf.TooLong file before after answer lacks fetched is =
    let bad : Err shelf.TooLong ≡ Err shelf.Missing = fetched.missing.1 (lacks, λ e. cc e) in absurd (cc bad)
missed shelf.OutOfMemory file before after answer lacks fetched is = absurd is
missed shelf.Failed file before after answer lacks fetched is = subst IsUnread (sym is) (refl, inl refl)
missed shelf.Missing file before after answer lacks fetched is = subst IsUnread (sym is) (refl, inl refl)

unread_owed : (ops : List Operator) (o : Options) (instants : Option ℕ) (taken : List ℕ) (stop : ReadStop) (file : List ℕ) (before after : SeenShelf) (fetched : List (Result (List ℕ) ShelfError)) (answer : Answer) →
    Lacks before.files file → Fetches (program_of file ∷ []) before after fetched → OwesRunning (λ a. OwesRun (kinds_of ops) a instants taken stop) ops o instants stop fetched answer → IsUnread answer
unread_owed ops o instants taken stop file before after [] answer lacks fetches (inl h) = absurd h.0
unread_owed ops o instants taken stop file before after (Err e ∷ more) answer lacks fetches (inl h) = missed e file before fetches.0 answer lacks fetches.1 h.0
unread_owed ops o instants taken stop file before after (Ok other ∷ more) answer lacks fetches (inl h) = absurd (none_held before.files file other lacks fetches.1.held.0)
unread_owed ops o instants taken stop file before after fetched answer lacks fetches (inr h) =
    absurd (none_fetched file before after fetched (λ text. (a : Accepted) × IsAccepted ops o text a × OwesEnded (OwesRun (kinds_of ops) a instants taken stop) instants stop a answer) lacks fetches h)

-- what was written on an empty sink stands there
pub stands_so : (before after : SeenSink) (bytes output : List ℕ) → after.written ≡ appended before.written bytes → before.written ≡ Some [] → after.written ≡ Some output → output ≡ bytes
stands_so before after bytes output wrote empty stands =
    let same : Some output ≡ Some bytes = sym stands ∙ wrote ∙ ap (λ w. appended w bytes) empty in cc same

-- a status that was told, or else 5
abbrev IsTold : (told status : ℕ) → Type 0
IsTold told status = (status ≡ told) ⊎ (status ≡ 5)

told_so : (told : ℕ) (lines : List ℕ) (err err' : SeenSink) (status : ℕ) → Tells told lines err err' status → IsTold told status
told_so told lines err err' status (inl h) = inl h.0
told_so told lines err err' status (inr h) = inr h.0

is_told : (told status k : ℕ) → IsTold told status → 5 ≢ k → status ≡ k → told ≡ k
is_told told status k (inl e) five s = sym e ∙ s
is_told told status k (inr e) five s = absurd (five (sym e ∙ s))

apart : (told status k : ℕ) → IsTold told status → told ≢ k → 5 ≢ k → status ≢ k
apart told status k is other five s = other (is_told told status k is five s)

-- the statuses of refusals and of the ends of runs
pub refusal_apart : (r : Refusal) → (program_status r ≢ 0) × (program_status r ≢ 2) × (program_status r ≢ 3)
refusal_apart (refusal.Limit l) = (λ e. omega arith, λ e. omega arith, λ e. omega arith)
refusal_apart refusal.OutOfMemory = (λ e. omega arith, λ e. omega arith, λ e. omega arith)
refusal_apart r = (λ e. omega arith, λ e. omega arith, λ e. omega arith)

fault_apart : (f : TextFault) → 3 ≤ (fault_told f).0
fault_apart (fault.BadLine n) = omega arith
fault_apart (fault.UnknownStream n) = omega arith
fault_apart (fault.BadValue n) = omega arith
fault_apart fault.ReadFault = omega arith
fault_apart fault.TooLong = omega arith

ending_done : (end : Ending) → (ending_told end).0 ≡ 0 → end ≡ ending.Done
ending_done ending.Done e = refl
ending_done (ending.Input f) e = absurd (omega (arith, e, fault_apart f))
ending_done (ending.Limit l) e = absurd (omega arith)
ending_done ending.WriteFault e = absurd (omega arith)
ending_done ending.OutOfMemory e = absurd (omega arith)

ending_apart : (end : Ending) (k : ℕ) → 1 ≤ k → k ≤ 2 → (ending_told end).0 ≢ k
ending_apart ending.Done k low high e = omega arith
ending_apart (ending.Input f) k low high e = omega (arith, e, fault_apart f)
ending_apart (ending.Limit l) k low high e = omega arith
ending_apart ending.WriteFault k low high e = omega arith
ending_apart ending.OutOfMemory k low high e = omega arith

-- with 3 a run ends for a line
fault_at_line : (f : TextFault) → (fault_told f).0 ≡ 3 → (f ≢ fault.ReadFault) × (f ≢ fault.TooLong)
fault_at_line f e = (
  λ is. let bad : 3 ≡ 4 = sym e ∙ ap (λ (x : TextFault). (fault_told x).0) is in omega arith,
  λ is. let bad : 3 ≡ 6 = sym e ∙ ap (λ (x : TextFault). (fault_told x).0) is in omega arith,
)

ending_at_line : (end : Ending) → (ending_told end).0 ≡ 3 → (f : TextFault) × (end ≡ ending.Input f) × (f ≢ fault.ReadFault) × (f ≢ fault.TooLong)
ending_at_line (ending.Input f) e = let line = fault_at_line f e in (f, refl, line.0, line.1)
ending_at_line ending.Done e = absurd (omega arith)
ending_at_line (ending.Limit l) e = absurd (omega arith)
ending_at_line ending.WriteFault e = absurd (omega arith)
ending_at_line ending.OutOfMemory e = absurd (omega arith)

-- main has inputs, or the words give instants
some_given : (a : Accepted) (instants : Option ℕ) → (LacksInstants a instants → ⊥) → a.inputs.items ≡ [] → IsSome instants
some_given a None lacks none = absurd (lacks (none, refl))
some_given a (Some n) lacks none = refl

given_done : (words : List Bits) (given : Option ℕ) (lists : List (List ℤ)) → IsSome given → EndsFor words given lists None ending.Done
given_done words None lists some = cc
given_done words (Some n) lists some = refl

-- nothing is printed, and not because the program is refused; with 2 because it lacks instants
abbrev IsQuiet : (Lacking : Type 0) → Answer → Type 0
IsQuiet Lacking answer = (answer.out ≡ []) × (answer.status ≢ 0) × (answer.status ≢ 1) × (answer.status ≢ 3) × (answer.status ≡ 2 → Lacking)

quiet : (Lacking : Type 0) (status : ℕ) (lines : List ℕ) (answer : Answer) → answer ≡ refused status lines → 4 ≤ status → IsQuiet Lacking answer
quiet Lacking status lines answer is high =
    subst (IsQuiet Lacking) (sym is) (refl, λ e. omega arith, λ e. omega arith, λ e. omega arith, λ e. absurd (omega arith))

lacking : (Lacking : Type 0) (answer : Answer) → answer ≡ no_instants → Lacking → IsQuiet Lacking answer
lacking Lacking answer is lacks = subst (IsQuiet Lacking) (sym is) (refl, λ e. omega arith, λ e. omega arith, λ e. omega arith, λ e. lacks)

unfetched : (Lacking : Type 0) (e : ShelfError) (answer : Answer) → OwesUnfetched limit.Text e answer → IsQuiet Lacking answer
unfetched Lacking shelf.TooLong answer is = quiet Lacking 6 (limit_passed limit.Text).err answer is (omega arith)
unfetched Lacking shelf.OutOfMemory answer is = absurd is
unfetched Lacking shelf.Failed answer is = quiet Lacking 4 read_fault.err answer is (omega arith)
unfetched Lacking shelf.Missing answer is = quiet Lacking 4 read_fault.err answer is (omega arith)

-- the answer is what the run of a text that is accepted comes to
record RanSo (ops : List Operator) (o : Options) (instants : Option ℕ) (taken : List ℕ) (stop : ReadStop) (text : List ℕ) (answer : Answer) : Type 0 where
  a : Accepted
  accepted : IsAccepted ops o text a
  bounded : a.inputs.items ≡ [] → IsSome instants
  output : List ℕ
  end : Ending
  owed : OwesRun (kinds_of ops) a instants taken stop output end
  is : answer ≡ ended_answer output end

module _ (ops : List Operator) (o : Options) (instants : Option ℕ) (taken : List ℕ) (stop : ReadStop) where
  -- what is owed of a text that is accepted
  abbrev OwesOf : Answer → (text : List ℕ) → Type 0
  OwesOf answer text = (a : Accepted) × IsAccepted ops o text a × OwesEnded (OwesRun (kinds_of ops) a instants taken stop) instants stop a answer

  -- a text is accepted as a program that lacks instants
  record Lacking (text : List ℕ) : Type 0 where
    a : Accepted
    accepted : IsAccepted ops o text a
    lacks : LacksInstants a instants

  -- an answer that is owed of a text: its refusal, nothing for something else, or what its run comes to
  abbrev Came : (text : List ℕ) → Answer → Type 0
  Came text answer = ((r : Refusal) × Refuses ops o text r × (answer ≡ program_refused r)) ⊎ (IsQuiet (Lacking text) answer ⊎ RanSo ops o instants taken stop text answer)

  came_of : (text : List ℕ) (answer : Answer) → OwesOf answer text → Came text answer
  came_of text answer (a, is, inl (lacks, missing, unread)) = inr (inl (lacking (Lacking text) answer missing (record { a = a; accepted = is; lacks = lacks })))
  came_of text answer (a, is, inr (has, output, end, owed, told)) =
      inr (inr (record { a = a; accepted = is; bounded = some_given a instants has; output = output; end = end; owed = owed; is = told }))

  came : (file text : List ℕ) (before after : SeenShelf) (fetched : List (Result (List ℕ) ShelfError)) (answer : Answer) → IsSomeAnd before.files (λ held. held file ≡ Some text) →
      Fetches (program_of file ∷ []) before after fetched → OwesRunning (λ a. OwesRun (kinds_of ops) a instants taken stop) ops o instants stop fetched answer → Came text answer
  came file text before after [] answer told fetches (inl h) = absurd h.0
  came file text before after (Err e ∷ more) answer told fetches (inl h) = inr (inl (unfetched (Lacking text) e answer h.0))
  came file text before after (Ok other ∷ more) answer told fetches (inl ((r, refuses, is), unread)) =
      inl (r, subst (λ t. Refuses ops o t r) (held_once before.files file text other told fetches.1.held.0) refuses.0, is)
  came file text before after fetched answer told fetches (inr h) = came_of text answer (fetched_text file text before after fetched (OwesOf answer) told fetches h)

-- a run of which less is known
known_less : {Chosen : Meaning → Type 0} {ops : List Operator} {most : ℕ} {given : Option ℕ} {program : ProgramTree} {input other : List ℕ} {D R : Type 0} (output : List ℕ) (Done Refused : Type 0) → other ≡ output →
    (Done → D) → (Refused → R) → IsRunOf Chosen ops most given program input other D R → IsRunOf Chosen ops most given program input output Done Refused
known_less output Done Refused same done stopped run = record {
  m = run.m;
  stands = run.stands;
  chosen = run.chosen;
  bounded = run.bounded;
  many = run.many;
  items = run.items;
  said = run.said;
  inputs = run.inputs;
  fed = run.fed;
  horizon = run.horizon;
  greatest = run.greatest;
  streams = run.streams;
  count = run.count;
  kahn = run.kahn;
  printed = sym same ∙ run.printed;
  all = λ d. run.all (done d);
  within = λ d. run.within (done d);
  next = λ r. run.next (stopped r);
}

-- the laws below that are called
pub record Laws : Type 0 where
  pub cuts : CutsAreRuns
  pub owed : OwedAreRuns
  pub pass : WrittenPassLimits
  pub texts : TextsHaveOneAnswer
  pub nodes : NodesAreOne

-- what stands on the output
abbrev Leaves : (ops : List Operator) (o : Options) (instants : Option ℕ) (text input output : List ℕ) (status : ℕ) → Type 0
Leaves ops o instants text input output status =
    ((output ≡ []) × (status ≢ 0) × (status ≢ 3) × (status ≡ 2 → instants ≡ None))
    ⊎ ((program : ProgramTree) × (n : ℕ) × (whole : List ℕ) × HasTree text program
    × IsRunOf (AreChosen o.scale o.lead) ops (limit_number limit.Instants) instants program input whole (status ≡ 0) (status ≡ 3)
    × (output ≡ take n whole) × (status ≢ 5 → status ≢ 7 → output ≡ whole) × (status ≢ 1) × (status ≢ 2))

-- nothing
nothing : (ops : List Operator) (o : Options) (instants : Option ℕ) (text input output : List ℕ) (told status : ℕ) → IsTold told status → output ≡ [] → told ≢ 0 → told ≢ 3 → (told ≡ 2 → instants ≡ None) →
    Leaves ops o instants text input output status
nothing ops o instants text input output told status is none zero three two = inl (
  none,
  apart told status 0 is zero (λ e. omega arith),
  apart told status 3 is three (λ e. omega arith),
  λ e. two (is_told told status 2 is (λ f. omega arith) e),
)

-- a limit, or want of memory, isn't told so
limit_apart : (r : Refusal) → ((l : Limit) × (r ≡ refusal.Limit l)) ⊎ (r ≡ refusal.OutOfMemory) → program_status r ≢ 1
limit_apart r (inl (l, e)) one = let told : program_status r ≡ 6 = ap program_status e in omega arith
limit_apart r (inr e) one = let told : program_status r ≡ 7 = ap program_status e in omega arith

module _ (laws : Laws) (ops : List Operator) (o : Options) (instants : Option ℕ) (text taken more : List ℕ) (stop : ReadStop) (shut : is_closed stop ≡ true → more ≡ []) where
  -- the lines that the items of the whole lines allow are printed by a run
  allowed : (a : Accepted) (output : List ℕ) → IsRunnable ops o instants text a → LinesAllow (kinds_of ops) a instants taken stop output → (Done Refused : Type 0) → (Done → ⊥) → (Refused → ⊥) →
      IsRunOfText ops o instants text (taken ++ more) output Done Refused
  allowed a output can (lists, horizon, (items, halt, cut, failed, fed), greatest, printed) Done Refused undone unrefused = elim (some_or_none a.inputs.items) [
    | inl none ↦
        let some : IsSome instants = some_given a instants can.1 none in
        let empty : lists ≡ [] = fed ∙ ap (λ (specs : List InputSpec). values_by_stream (length specs) items) none in
        let feeds : Feeds a.inputs.items [] Unread lists None = subst (λ specs. Feeds specs [] Unread lists None) (sym none) (refl, refl, empty, refl) in
        let owes : OwesRun (kinds_of ops) a instants [] Unread output ending.Done =
        (lists, None, horizon, record { feeds = feeds; horizon_is = greatest }, printed, given_done (input_words a) instants lists some) in
        let run = laws.owed ops o text a instants [] (taken ++ more) Unread output ending.Done can.0 (λ e. some) (λ c. cc) owes in
        (run.0, run.1, known_less output Done Refused refl (λ d. absurd (undone d)) (λ r. absurd (unrefused r)) run.2)
    | inr some ↦
        let run = laws.cuts ops o text a instants (is_closed stop) taken more items halt horizon can.0 some shut cut (subst (λ l. IsHorizonOf (input_words a) instants l horizon) fed greatest) in
        let same : heading a ++ lines_to (kinds_of ops) a (values_by_stream (length a.inputs.items) items) horizon ≡ output =
        ap (λ l. heading a ++ lines_to (kinds_of ops) a l horizon) (sym fed) ∙ sym printed in
        (run.0, run.1, known_less output Done Refused same (λ d. absurd (undone d)) (λ r. absurd (unrefused r)) run.2)
  ]

  -- a front of such lines, where memory ran out or a write failed
  broken : (a : Accepted) (whole output : List ℕ) (n status : ℕ) → IsRunnable ops o instants text a → LinesAllow (kinds_of ops) a instants taken stop whole → IsTold 7 status → output ≡ take n whole →
      Leaves ops o instants text (taken ++ more) output status
  broken a whole output n status can allow is front =
      let done : status ≢ 0 = apart 7 status 0 is (λ e. omega arith) (λ e. omega arith) in
      let stopped : status ≢ 3 = apart 7 status 3 is (λ e. omega arith) (λ e. omega arith) in
      let run = allowed a whole can allow (status ≡ 0) (status ≡ 3) done stopped in
      inr (
        run.0,
        n,
        whole,
        run.1,
        run.2,
        front,
        λ five seven. absurd (elim is [ inl e ↦ seven e | inr e ↦ five e ]),
        apart 7 status 1 is (λ e. omega arith) (λ e. omega arith),
        apart 7 status 2 is (λ e. omega arith) (λ e. omega arith),
      )

  -- the whole output of a run, however its end was told
  ended : (answer : Answer) (output : List ℕ) (status : ℕ) → RanSo ops o instants taken stop text answer → IsTold answer.status status → output ≡ answer.out →
      Leaves ops o instants text (taken ++ more) output status
  ended answer output status ran is out =
      let told : IsTold (ending_told ran.end).0 status = subst (λ (x : Answer). IsTold x.status status) ran.is is in
      let whole : output ≡ ran.output = out ∙ ap (λ (x : Answer). x.out) ran.is in
      let run = laws.owed ops o text ran.a instants taken more stop ran.output ran.end ran.accepted ran.bounded shut ran.owed in
      inr (
        run.0,
        length ran.output,
        ran.output,
        run.1,
        known_less ran.output (status ≡ 0) (status ≡ 3) refl (λ d. ending_done ran.end (is_told (ending_told ran.end).0 status 0 told (λ e. omega arith) d))
            (λ r. ending_at_line ran.end (is_told (ending_told ran.end).0 status 3 told (λ e. omega arith) r)) run.2,
        whole ∙ sym (take_all (length ran.output) ran.output (omega arith)),
        λ five seven. whole,
        apart (ending_told ran.end).0 status 1 told (ending_apart ran.end 1 (omega arith) (omega arith)) (λ e. omega arith),
        apart (ending_told ran.end).0 status 2 told (ending_apart ran.end 2 (omega arith) (omega arith)) (λ e. omega arith),
      )

  -- an answer that is owed
  answered : (answer : Answer) (output : List ℕ) (status : ℕ) → Came ops o instants taken stop text answer → IsTold answer.status status → output ≡ answer.out → Leaves ops o instants text (taken ++ more) output status
  answered answer output status (inl (r, refuses, e)) is out =
      let other = refusal_apart r in
      nothing ops o instants text (taken ++ more) output (program_status r) status (subst (λ (x : Answer). IsTold x.status status) e is) (out ∙ ap (λ (x : Answer). x.out) e) other.0 other.2 (λ two. absurd (other.1 two))
  answered answer output status (inr (inl q)) is out = nothing ops o instants text (taken ++ more) output answer.status status is (out ∙ q.0) q.1 q.3 (λ two. (q.4 two).lacks.1)
  answered answer output status (inr (inr ran)) is out = ended answer output status ran is out

-- What it stands for isn't all written where the status is 1, and has no inputs where it is 2.
abbrev IsSuited : (status : ℕ) → Meaning → Type 0
IsSuited status m = (AllByRecursion IsWritten m.nodes → status ≢ 1) × (status ≡ 2 → main_inputs m.nodes m.types ≡ [])

suited_apart : (told status : ℕ) (m : Meaning) → IsTold told status → told ≢ 1 → told ≢ 2 → IsSuited status m
suited_apart told status m is one two = (λ written. apart told status 1 is one (λ e. omega arith), λ e. absurd (apart told status 2 is two (λ f. omega arith) e))

-- with 1 the program is refused, and where its clocks are written stands for nothing
unrefused : Laws → (ops : List Operator) (o : Options) (instants : Option ℕ) (text taken : List ℕ) (stop : ReadStop) (answer : Answer) (status : ℕ) →
    Came ops o instants taken stop text answer → IsTold answer.status status →
    (program : ProgramTree) (m : Meaning) → HasTree text program → StandsFor ops program m → IsSuited status m
unrefused laws ops o instants text taken stop answer status (inl (r, refuses, e)) is program m read stands =
    let told : IsTold (program_status r) status = subst (λ (x : Answer). IsTold x.status status) e is in (
      λ written. apart (program_status r) status 1 told (limit_apart r (laws.pass ops o text program m r read stands written refuses)) (λ e. omega arith),
      λ two. absurd (apart (program_status r) status 2 told (refusal_apart r).1 (λ e. omega arith) two),
    )
unrefused laws ops o instants text taken stop answer status (inr (inl q)) is program m read stands = (
  λ written. apart answer.status status 1 is q.2 (λ e. omega arith),
  λ two. let it = q.4 (is_told answer.status status 2 is (λ e. omega arith) two) in inputless laws.texts laws.nodes ops o text it.a program m it.accepted read stands it.lacks.0,
)
unrefused laws ops o instants text taken stop answer status (inr (inr ran)) is program m read stands =
    suited_apart (ending_told ran.end).0 status m (subst (λ (x : Answer). IsTold x.status status) ran.is is) (ending_apart ran.end 1 (omega arith) (omega arith)) (ending_apart ran.end 2 (omega arith) (omega arith))

module _ (laws : Laws) (words : ProgramWords) (workers : ℕ) (block : Option ℕ) (before after : World) (status : ℕ) where
  abbrev found : Options
  found = inferring_options words.scale words.lead

  -- how it ends that has met this
  abbrev EndsMet : Given → Type 0
  EndsMet given =
      EndsBy (Owes (Run words workers block) given) (MayStand (Run words workers block) given) (MayFail (Run words workers block) given before.out after.out) before.out after.out before.err after.err status

  -- such lines may stand there
  abbrev MayPrint : Given → (whole text : List ℕ) → Type 0
  MayPrint given whole text =
      (a : Accepted) × IsRunnable given.operators found words.instants text a × LinesAllow (kinds_of given.operators) a words.instants given.taken given.stop whole

  module _ (text : List ℕ) (told : IsSomeAnd before.shelf.files (λ held. held words.file ≡ Some text)) where
    came_so : (given : Given) → HasMetWorld (Run words workers block) before after given → (answer : Answer) → Owes (Run words workers block) given answer →
        Came given.operators found words.instants given.taken given.stop text answer
    came_so given met answer owed = came given.operators found words.instants given.taken given.stop words.file text before.shelf after.shelf given.fetched answer told met.shelf owed

    may_print : (given : Given) → HasMetWorld (Run words workers block) before after given → (whole : List ℕ) → OwesOutput (Run words workers block) given whole → MayPrint given whole text
    may_print given met whole owed = fetched_text words.file text before.shelf after.shelf given.fetched (MayPrint given whole) told met.shelf owed

    met_leaves : (given : Given) → HasMetWorld (Run words workers block) before after given → (more output : List ℕ) → (is_closed given.stop ≡ true → more ≡ []) →
        before.out.written ≡ Some [] → after.out.written ≡ Some output → EndsMet given → Leaves given.operators found words.instants text (given.taken ++ more) output status
    met_leaves given met more output shut empty stands (inl (answer, inl owed, answers)) =
        answered laws given.operators found words.instants text given.taken more given.stop shut answer output status (came_so given met answer owed)
        (told_so answer.status answer.err before.err after.err status answers.told) (stands_so before.out after.out answer.out output answers.printed.written empty stands)
    met_leaves given met more output shut empty stands (inl (answer, inr (front, inl none, is), answers)) =
        let seven : IsTold 7 status = subst (λ (x : Answer). IsTold x.status status) is (told_so answer.status answer.err before.err after.err status answers.told) in
        nothing given.operators found words.instants text (given.taken ++ more) output 7 status seven
        (stands_so before.out after.out answer.out output answers.printed.written empty stands ∙ ap (λ (x : Answer). x.out) is ∙ none) (λ e. omega arith) (λ e. omega arith) (λ e. absurd (omega arith))
    met_leaves given met more output shut empty stands (inl (answer, inr (front, inr (whole, n, owed, e), is), answers)) =
        let seven : IsTold 7 status = subst (λ (x : Answer). IsTold x.status status) is (told_so answer.status answer.err before.err after.err status answers.told) in
        let may = may_print given met whole owed in
        broken laws given.operators found words.instants text given.taken more given.stop shut may.0 whole output n status may.1 may.2 seven
        (stands_so before.out after.out answer.out output answers.printed.written empty stands ∙ ap (λ (x : Answer). x.out) is ∙ e)
    met_leaves given met more output shut empty stands (inr (whole, (owed, order), breaks)) =
        let five : IsTold 7 status = elim (told_so 5 write_fault_line before.err after.err status breaks.told) [ inl e ↦ inr e | inr e ↦ inr e ] in
        let may = may_print given met whole owed in
        let front = breaks.failed.front in
        broken laws given.operators found words.instants text given.taken more given.stop shut may.0 whole output front.0 status may.1 may.2 five
        (stands_so before.out after.out (take front.0 whole) output front.2 empty stands)

    right : Ends (Some (Run words workers block)) before after status → (input output : List ℕ) → before.source.left ≡ Some input → before.out.written ≡ Some [] → after.out.written ≡ Some output →
        Leaves before.operators found words.instants text input output status
    right (inl (given, met, ends)) input output left empty stands =
        let rest = follows (limit_number limit.Input) before.source after.source given.taken given.stop input met.source left in
        subst (λ ops. Leaves ops found words.instants text input output status) met.operators
        (subst (λ bytes. Leaves given.operators found words.instants text bytes output status) rest.is (met_leaves given met rest.more output rest.none empty stands ends))
    right (inr (same, alone, answers)) input output left empty stands =
        nothing before.operators found words.instants text input output 7 status (told_so 7 memory_line before.err after.err status answers.told)
        (stands_so before.out after.out [] output answers.printed.written empty stands) (λ e. omega arith) (λ e. omega arith) (λ e. absurd (omega arith))

    -- no status 1 where a written program stands for something, and no 2 where it has inputs
    met_unrefused : (given : Given) → HasMetWorld (Run words workers block) before after given → EndsMet given →
        (program : ProgramTree) (m : Meaning) → HasTree text program → StandsFor given.operators program m → IsSuited status m
    met_unrefused given met (inl (answer, inl owed, answers)) program m read stands =
        unrefused laws given.operators found words.instants text given.taken given.stop answer status (came_so given met answer owed)
        (told_so answer.status answer.err before.err after.err status answers.told) program m read stands
    met_unrefused given met (inl (answer, inr (front, stands_there, is), answers)) program m read stands =
        suited_apart 7 status m (subst (λ (x : Answer). IsTold x.status status) is (told_so answer.status answer.err before.err after.err status answers.told)) (λ e. omega arith) (λ e. omega arith)
    met_unrefused given met (inr (whole, may, breaks)) program m read stands =
        suited_apart 5 status m (told_so 5 write_fault_line before.err after.err status breaks.told) (λ e. omega arith) (λ e. omega arith)

    written_unrefused : Ends (Some (Run words workers block)) before after status →
        (program : ProgramTree) (m : Meaning) → HasTree text program → StandsFor before.operators program m → IsSuited status m
    written_unrefused (inl (given, met, ends)) program m read stands =
        met_unrefused given met ends program m read (subst (λ ops. StandsFor ops program m) (sym met.operators) stands)
    written_unrefused (inr (same, alone, answers)) program m read stands =
        suited_apart 7 status m (told_so 7 memory_line before.err after.err status answers.told) (λ e. omega arith) (λ e. omega arith)

module _ (words : ProgramWords) (workers : ℕ) (block : Option ℕ) (before after : World) (status : ℕ) (lacks : Lacks before.shelf.files words.file) where
  abbrev called : Command
  called = Run words workers block

  -- where the shelf has no FILE nothing is written
  abbrev IsAbsent : Type 0
  IsAbsent = (after.out.written ≡ before.out.written) × (4 ≤ status) × (status ≢ 6)

  unread_left : (answer : Answer) → IsUnread answer → Answers answer before.out after.out before.err after.err status → IsAbsent
  unread_left answer (none, is) answers =
      let told = told_so answer.status answer.err before.err after.err status answers.told in (
        ap (λ (s : SeenSink). s.written) (answers.printed.untouched none),
        elim told [ inl e ↦ elim is [ inl f ↦ omega (arith, e, f) | inr f ↦ omega (arith, e, f) ] | inr e ↦ omega (arith, e) ],
        λ six. elim told [ inl e ↦ elim is [ inl f ↦ omega (arith, e, f) | inr f ↦ omega (arith, e, f) ] | inr e ↦ omega (arith, e) ],
      )

  absent_met : (given : Given) → HasMetWorld called before after given →
      EndsBy (Owes called given) (MayStand called given) (MayFail called given before.out after.out) before.out after.out before.err after.err status → IsAbsent
  absent_met given met (inl (answer, inl owed, answers)) =
      unread_left answer (unread_owed given.operators (inferring_options words.scale words.lead) words.instants given.taken given.stop words.file before.shelf after.shelf given.fetched answer lacks met.shelf owed) answers
  absent_met given met (inl (answer, inr (front, inl none, is), answers)) =
      unread_left answer (subst IsUnread (sym is) (none, inr refl)) answers
  absent_met given met (inl (answer, inr (front, inr (whole, n, owed, e), is), answers)) =
      absurd (none_fetched words.file before.shelf after.shelf given.fetched _ lacks met.shelf owed)
  absent_met given met (inr (whole, (owed, order), breaks)) = absurd (none_fetched words.file before.shelf after.shelf given.fetched _ lacks met.shelf owed)

  absent : Ends (Some called) before after status → IsAbsent
  absent (inl (given, met, ends)) = absent_met given met ends
  absent (inr (same, alone, answers)) = unread_left _ (refl, inr refl) answers

pub runs_right : Laws → RunsAreRight
runs_right laws words workers block before after status ends = record {
  right = λ text input output told left empty stands. right laws words workers block before after status text (told_text before.shelf.files words.file text told) ends input output left empty stands;
  refused = λ text program m told read stands. written_unrefused laws words workers block before after status text (told_text before.shelf.files words.file text told) ends program m read stands;
  absent = λ none. absent words workers block before after status (told_none before.shelf.files words.file none) ends;
}

-- so it is where the words name it
pub run_right : RunsAreRight → (command : Option Command) (before after : World) (status : ℕ) → Ends command before after status →
    (words : ProgramWords) (workers : ℕ) (block : Option ℕ) → command ≡ Some (Run words workers block) →
    RunIsRight HasTree (AreChosen words.scale words.lead) before.operators (limit_number limit.Instants) words.instants (option_map (λ (files : Files). files words.file) before.shelf.files) before.source.left before.out.written after.out.written status
run_right law command before after status ends words workers block is = law words workers block before after status (subst (λ c. Ends c before after status) is ends)
