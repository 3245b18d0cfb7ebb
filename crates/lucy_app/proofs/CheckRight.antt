-- How `check` and `clocks` end is right.
use Rattle.std.proofs.Common.{ℕ, ◌≡◌, ◌≢◌, ◌<◌, ◌≤◌, ◌⊎◌, List, [], ◌∷◌, length, take, Option, None, Some, Ok, Err, Result, refl, ap, sym, ◌∙◌, subst, inl, inr, arith}
use Rattle.std.specs.Prelude.{◌↔◌, IsSomeAnd, IfSome}
use Rattle.std.proofs.lemmas.List.{take_all}
use Rattle.lucy_word.specs.Limits.{limit_number}
use Rattle.lucy_word.specs.declared.limit.Limit.TheVariants as limit
use Rattle.lucy_word.proofs.Lists.{take_nil}
use Rattle.lucy_host.specs.Operators.{Operator}
use Rattle.lucy_text.specs.declared.shelf.ShelfError.{ShelfError}
use Rattle.lucy_text.specs.declared.shelf.ShelfError.TheVariants as shelf_error
use Rattle.lucy_text.specs.Outside.{Rose, appended}
use Rattle.lucy_text.specs.Shelf.{Files, SeenShelf, Lacks, IsLonger, IsCut}
use Rattle.lucy_text.specs.Sources.{ReadStop}
use Rattle.lucy_program.specs.declared.accepted.Accepted.{Accepted}
use Rattle.lucy_program.specs.declared.options.Options.{Options}
use Rattle.lucy_program.specs.Accepting.{IsAccepted}
use Rattle.lucy_front.specs.declared.refusal.Refusal.{Refusal}
use Rattle.lucy_front.specs.declared.refusal.Refusal.TheVariants as refusal
use Rattle.lucy_front.specs.Refusing.{Refuses}
use Rattle.lucy_front.proofs.OneAccepted.{accepted_kept}
use Rattle.lucy_right.specs.Right.{Meaning}
use Rattle.lucy_right.specs.Owed.{meaning_of, AcceptedStand}
use Rattle.lucy_right.specs.Refused.{WrittenPassLimits}
use Rattle.lucy_right.specs.Accepted.{TextStandsFor, HasWrittenClocks, report_of, TextPassesLimit, ShelfTells, IsAcceptance, CheckIsRight, AcceptedAreWritten, WrittenStandForOne}
use Rattle.lucy_command.specs.Commands.{ClocksWords, Check, Clocks}
use Rattle.lucy_app.specs.ProgramRefusals.{program_status}
use Rattle.lucy_app.specs.Answers.{Answer, OutputOf, program_refused, read_fault, limit_passed, out_of_memory}
use Rattle.lucy_app.specs.Commands.{program_of, written_options, inferring_options}
use Rattle.lucy_app.specs.World.{World, Given, Fetches}
use Rattle.lucy_app.specs.Check.{IsCheckOf, RefusesCheck}
use Rattle.lucy_app.specs.Programs.{OwesText, OwesPrint}
use Rattle.lucy_app.specs.Ends.{Answers, Breaks, EndsBy, Declines, Ends}
use Rattle.lucy_app.specs.Right.{ChecksAreRight}
use Rattle.lucy_app.proofs.RunRight.{held_once, stands_so, refusal_apart}

-- what a fetch tells of a file that the shelf has
too_long : (files : Option Files) (file text : List ℕ) (most : ℕ) (fetched : Result (List ℕ) ShelfError) → IsSomeAnd files (λ held. held file ≡ Some text) →
    IfSome files (λ held. (fetched ≡ Err shelf_error.TooLong) ↔ (IsLonger (held file) most × (IsCut fetched → ⊥))) → fetched ≡ Err shelf_error.TooLong → most < length text
too_long None file text most fetched told h e = absurd told
too_long (Some held) file text most fetched told h e = subst (λ (f : Option (List ℕ)). IsLonger f most) told (h.0 e).0

not_lacking : (files : Option Files) (file text : List ℕ) → IsSomeAnd files (λ held. held file ≡ Some text) → Lacks files file → ⊥
not_lacking None file text told lacks = told
not_lacking (Some held) file text told lacks = let bad : Some text ≡ None = sym told ∙ lacks in cc

no_more : (between after : SeenShelf) (more : List (Result (List ℕ) ShelfError)) → Fetches [] between after more → after ≡ between
no_more between after [] h = h
no_more between after (fetched ∷ more) h = absurd h

-- the laws below that are called
pub record Laws : Type 0 where
  pub stand : AcceptedStand
  pub only : AcceptedAreWritten
  pub pass : WrittenPassLimits
  pub one : WrittenStandForOne

module _ (ops : List Operator) (o : Options) (before after : World) (text : List ℕ) where
  -- an answer that is owed of a text: its report, its refusal, that it is too long, or that the fetch failed
  abbrev Came : Answer → Type 0
  Came answer =
      ((length text ≤ limit_number limit.Text) × OwesPrint (IsCheckOf ops o) text answer)
      ⊎ (((r : Refusal) × RefusesCheck ops o text r × (answer ≡ program_refused r))
      ⊎ (((limit_number limit.Text < length text) × (answer ≡ limit_passed limit.Text)) ⊎ (Rose before.shelf.faults after.shelf.faults × (answer ≡ read_fault))))

  -- how the call ended: with such an answer, for want of memory, or as a write failed when a front of such an answer stood there, or nothing
  abbrev Ended : (status : ℕ) → Type 0
  Ended status =
      ((answer : Answer) × Came answer × (status ≡ answer.status) × (after.out.written ≡ appended before.out.written answer.out))
      ⊎ (((status ≡ 7) × (after.out.written ≡ appended before.out.written []))
      ⊎ ((status ≡ 5) × (Rose before.out.faults after.out.faults ⊎ Rose before.err.faults after.err.faults)
      × (whole : List ℕ) × (n : ℕ) × (after.out.written ≡ appended before.out.written (take n whole)) × ((whole ≡ []) ⊎ OutputOf Came whole)))

  came : (file : List ℕ) (stop : ReadStop) (fetched : List (Result (List ℕ) ShelfError)) (answer : Answer) → ShelfTells before.shelf file text → Fetches (program_of file ∷ []) before.shelf after.shelf fetched →
      OwesText (RefusesCheck ops o) (OwesPrint (IsCheckOf ops o)) stop fetched answer → Came answer
  came file stop [] answer told fetches (inl h) = absurd h.0
  came file stop [] answer told fetches (inr h) = absurd h
  came file stop (Ok other ∷ more) answer told fetches (inl ((r, refuses, is), unread)) =
      inr (inl (r, subst (λ t. RefusesCheck ops o t r) (held_once before.shelf.files file text other told fetches.1.held.0) refuses, is))
  came file stop (Ok other ∷ more) answer told fetches (inr h) =
      let same : other ≡ text = held_once before.shelf.files file text other told fetches.1.held.0 in
      inl (subst (λ t. length t ≤ limit_number limit.Text) same fetches.1.held.1, subst (λ t. OwesPrint (IsCheckOf ops o) t answer) same h)
  came file stop (Err shelf_error.TooLong ∷ more) answer told fetches (inl h) =
      inr (inr (inl (too_long before.shelf.files file text (limit_number limit.Text) (Err shelf_error.TooLong) told fetches.1.too_long refl, h.0)))
  came file stop (Err shelf_error.OutOfMemory ∷ more) answer told fetches (inl h) = absurd h.0
  came file stop (Err shelf_error.Missing ∷ more) answer told fetches (inl h) = absurd (not_lacking before.shelf.files file text told (fetches.1.missing.0 refl).0)
  came file stop (Err shelf_error.Failed ∷ more) answer told fetches (inl h) =
      inr (inr (inr (subst (λ (s : SeenShelf). Rose before.shelf.faults s.faults) (sym (no_more fetches.0 after.shelf more fetches.2)) fetches.1.faults, h.0)))
  came file stop (Err e ∷ more) answer told fetches (inr h) = absurd h

  module _ (status : ℕ) where
    answered : (answer : Answer) → Came answer → Answers answer before.out after.out before.err after.err status → Ended status
    answered answer is answers = elim answers.told [
      | inl h ↦ inl (answer, is, h.0, answers.printed.written)
      | inr h ↦ inr (inr (
        h.0,
        inr h.1.faults,
        answer.out,
        length answer.out,
        answers.printed.written ∙ ap (appended before.out.written) (sym (take_all (length answer.out) answer.out (omega arith))),
        inr (answer, is, refl),
      ))
    ]

    starved : Answers (out_of_memory []) before.out after.out before.err after.err status → Ended status
    starved answers = elim answers.told [
      | inl h ↦ inr (inl (h.0, answers.printed.written))
      | inr h ↦ inr (inr (h.0, inr h.1.faults, [], 0, answers.printed.written, inl refl))
    ]

    broken : (whole : List ℕ) → OutputOf Came whole → Breaks whole before.out after.out before.err after.err status → Ended status
    broken whole owed breaks =
        let five : status ≡ 5 = elim breaks.told [ inl h ↦ h.0 | inr h ↦ h.0 ] in
        inr (inr (five, inl breaks.failed.faults, whole, breaks.failed.front.0, breaks.failed.front.2, inr owed))

  module _ (laws : Laws) where
    -- a report is that of what the text stands for, which passes no limit
    unpassed : (a : Accepted) → IsAccepted ops o text a → length text ≤ limit_number limit.Text → TextPassesLimit ops o text → ⊥
    unpassed a is few (inl long) = omega (arith, few, long)
    unpassed a is few (inr (l, refuses)) = let bad : refusal.Limit l ≡ refusal.OutOfMemory = accepted_kept ops o text a (refusal.Limit l) is refuses in cc

    acceptance : (answer : Answer) → length text ≤ limit_number limit.Text → OwesPrint (IsCheckOf ops o) text answer → IsAcceptance ops o text answer.out
    acceptance answer few (print, (a, is, same), told) =
        (meaning_of a, laws.stand ops o text a is, ap (λ (x : Answer). x.out) told ∙ same, laws.only ops o text a is, unpassed a is few)

    -- another answer prints nothing, and has another status
    quiet : (answer : Answer) → Came answer → (IsAcceptance ops o text answer.out × (answer.status ≡ 0)) ⊎ ((answer.out ≡ []) × (answer.status ≢ 0))
    quiet answer (inl (few, is)) = inl (acceptance answer few is, ap (λ (x : Answer). x.status) is.2)
    quiet answer (inr (inl (r, refuses, e))) =
        inr (ap (λ (x : Answer). x.out) e, λ zero. (refusal_apart r).0 (sym (ap (λ (x : Answer). x.status) e) ∙ zero))
    quiet answer (inr (inr (inl (long, e)))) = let six : answer.status ≡ 6 = ap (λ (x : Answer). x.status) e in inr (ap (λ (x : Answer). x.out) e, λ zero. omega (arith, six, zero))
    quiet answer (inr (inr (inr (rose, e)))) = let four : answer.status ≡ 4 = ap (λ (x : Answer). x.status) e in inr (ap (λ (x : Answer). x.out) e, λ zero. omega (arith, four, zero))

    -- what stands on the output
    module _ (status : ℕ) (output : List ℕ) (empty : before.out.written ≡ Some []) (stands : after.out.written ≡ Some output) where
      stood : (bytes : List ℕ) → after.out.written ≡ appended before.out.written bytes → output ≡ bytes
      stood bytes wrote = stands_so before.out after.out bytes output wrote empty stands

      taken : Ended status → status ≡ 0 → IsAcceptance ops o text output
      taken (inl (answer, is, same, wrote)) zero = elim (quiet answer is) [
        | inl h ↦ subst (IsAcceptance ops o text) (sym (stood answer.out wrote)) h.0
        | inr h ↦ absurd (h.1 (sym same ∙ zero))
      ]
      taken (inr (inl (seven, wrote))) zero = absurd (omega (arith, seven, zero))
      taken (inr (inr h)) zero = let five : status ≡ 5 = h.0 in absurd (omega (arith, five, zero))

      nothing : Ended status → status ≢ 0 → status ≢ 5 → output ≡ []
      nothing (inl (answer, is, same, wrote)) zero five = elim (quiet answer is) [
        | inl h ↦ absurd (zero (same ∙ h.1))
        | inr h ↦ stood answer.out wrote ∙ h.0
      ]
      nothing (inr (inl (seven, wrote))) zero five = stood [] wrote
      nothing (inr (inr h)) zero five = absurd (five h.0)

      -- a front of a report, or nothing
      abbrev IsFront : List ℕ → Type 0
      IsFront bytes = (bytes ≡ []) ⊎ ((m : Meaning) × (n : ℕ) × TextStandsFor ops text m × (bytes ≡ take n (report_of m)))

      front_of : (answer : Answer) (n : ℕ) → Came answer → IsFront (take n answer.out)
      front_of answer n is = elim (quiet answer is) [
        | inl h ↦ let (m, text_stands, same, only, passed) = h.0 in inr (m, n, text_stands, ap (take n) same)
        | inr h ↦ inl (ap (take n) h.0 ∙ take_nil n)
      ]

      front : Ended status → IsFront output
      front (inl (answer, is, same, wrote)) =
          let all : take (length answer.out) answer.out ≡ answer.out = take_all (length answer.out) answer.out (omega arith) in
          subst IsFront (all ∙ sym (stood answer.out wrote)) (front_of answer (length answer.out) is)
      front (inr (inl (seven, wrote))) = inl (stood [] wrote)
      front (inr (inr (five, failed, whole, n, wrote, inl none))) = inl (stood (take n whole) wrote ∙ ap (take n) none ∙ take_nil n)
      front (inr (inr (five, failed, whole, n, wrote, inr (answer, is, same)))) =
          subst IsFront (ap (take n) (sym same) ∙ sym (stood (take n whole) wrote)) (front_of answer n is)

    -- how a call ends of a text that stands for something, all of whose clocks are written
    module _ (status : ℕ) (m : Meaning) (text_stands : TextStandsFor ops text m) (written : HasWrittenClocks m) where
      abbrev EndsWritten : Type 0
      EndsWritten =
          ((status ≡ 0) × ((output : List ℕ) → before.out.written ≡ Some [] → after.out.written ≡ Some output → output ≡ report_of m))
          ⊎ (((status ≡ 4) × Rose before.shelf.faults after.shelf.faults) ⊎ (((status ≡ 5) × (Rose before.out.faults after.out.faults ⊎ Rose before.err.faults after.err.faults))
          ⊎ (((status ≡ 6) × TextPassesLimit ops o text) ⊎ (status ≡ 7))))

      refused : (r : Refusal) → RefusesCheck ops o text r → status ≡ program_status r → EndsWritten
      refused r refuses same = elim (laws.pass ops o text text_stands.0 m r text_stands.1 text_stands.2 written refuses.0) [
        | inl h ↦ inr (inr (inr (inl (same ∙ ap program_status h.1, inr (h.0, subst (Refuses ops o text) h.1 refuses.0)))))
        | inr e ↦ absurd (refuses.1 e)
      ]

      ends_written : Ended status → EndsWritten
      ends_written (inl (answer, inl (few, (print, (a, is, same), told)), ends, wrote)) = inl (
        ends ∙ ap (λ (x : Answer). x.status) told,
        λ output empty stands.
            stands_so before.out after.out answer.out output wrote empty stands ∙ ap (λ (x : Answer). x.out) told ∙ same ∙ sym (ap report_of (laws.one ops o text a m is text_stands written)),
      )
      ends_written (inl (answer, inr (inl (r, refuses, e)), ends, wrote)) = refused r refuses (ends ∙ ap (λ (x : Answer). x.status) e)
      ends_written (inl (answer, inr (inr (inl (long, e))), ends, wrote)) = inr (inr (inr (inl (ends ∙ ap (λ (x : Answer). x.status) e, inl long))))
      ends_written (inl (answer, inr (inr (inr (rose, e))), ends, wrote)) = inr (inl (ends ∙ ap (λ (x : Answer). x.status) e, rose))
      ends_written (inr (inl (seven, wrote))) = inr (inr (inr (inr seven)))
      ends_written (inr (inr h)) = inr (inr (inl (h.0, h.1)))

module _ (o : Options) (file : List ℕ) (before after : World) (status : ℕ) where
  -- what is owed by what was met
  abbrev OwesSo : Given → Answer → Type 0
  OwesSo given answer = OwesText (RefusesCheck given.operators o) (OwesPrint (IsCheckOf given.operators o)) given.stop given.fetched answer

  -- how both commands end
  abbrev EndsMet : Given → Type 0
  EndsMet given = EndsBy (OwesSo given) (λ front. front ≡ []) (λ output. OutputOf (OwesSo given) output × Unit {0}) before.out after.out before.err after.err status

  abbrev EndsChecked : Type 0
  EndsChecked =
      ((given : Given) × Fetches (program_of file ∷ []) before.shelf after.shelf given.fetched × (given.operators ≡ before.operators) × EndsMet given)
      ⊎ Declines (out_of_memory []) before after status

  met_ended : (text : List ℕ) → ShelfTells before.shelf file text → (given : Given) → Fetches (program_of file ∷ []) before.shelf after.shelf given.fetched → EndsMet given →
      Ended given.operators o before after text status
  met_ended text told given fetches (inl (answer, inl owed, answers)) =
      answered given.operators o before after text status answer (came given.operators o before after text file given.stop given.fetched answer told fetches owed) answers
  met_ended text told given fetches (inl (answer, inr (bytes, e, is), answers)) =
      let memory : answer ≡ out_of_memory [] = is ∙ ap out_of_memory e in
      starved given.operators o before after text status (subst (λ (x : Answer). Answers x before.out after.out before.err after.err status) memory answers)
  met_ended text told given fetches (inr (whole, ((answer, owed, same), order), breaks)) =
      broken given.operators o before after text status whole (answer, came given.operators o before after text file given.stop given.fetched answer told fetches owed, same) breaks

  ended : EndsChecked → (text : List ℕ) → ShelfTells before.shelf file text → Ended before.operators o before after text status
  ended (inl (given, fetches, operators, ends)) text told = subst (λ ops. Ended ops o before after text status) operators (met_ended text told given fetches ends)
  ended (inr (same, alone, answers)) text told = starved before.operators o before after text status answers

  check_right : Laws → EndsChecked → CheckIsRight before.operators o file before.shelf after.shelf before.out after.out before.err after.err status
  check_right laws ends = record {
    accepted = λ text output told empty stands zero. taken before.operators o before after text laws status output empty stands (ended ends text told) zero;
    front = λ text output told empty stands. front before.operators o before after text laws status output empty stands (ended ends text told);
    nothing = λ text output told empty stands zero five. nothing before.operators o before after text laws status output empty stands (ended ends text told) zero five;
    written = λ text m told text_stands written. ends_written before.operators o before after text laws status m text_stands written (ended ends text told);
  }

-- both commands end so
of_check : (file : List ℕ) (before after : World) (status : ℕ) → Ends (Some (Check file)) before after status → EndsChecked written_options file before after status
of_check file before after status (inl (given, met, ends)) = inl (given, met.shelf, met.operators, ends)
of_check file before after status (inr declines) = inr declines

of_clocks : (words : ClocksWords) (before after : World) (status : ℕ) → Ends (Some (Clocks words)) before after status →
    EndsChecked (inferring_options words.scale words.lead) words.file before after status
of_clocks words before after status (inl (given, met, ends)) = inl (given, met.shelf, met.operators, ends)
of_clocks words before after status (inr declines) = inr declines

-- what a call leaves that finds clocks with these options
abbrev Leaves : (before after : World) (status : ℕ) (file : List ℕ) → Options → Type 0
Leaves before after status file o = CheckIsRight before.operators o file before.shelf after.shelf before.out after.out before.err after.err status

pub checks_right : Laws → ChecksAreRight
checks_right laws found file o before after status (inl (named, options)) ends =
    subst (Leaves before after status file) (sym options)
    (check_right written_options file before after status laws (of_check file before after status (subst (λ c. Ends c before after status) named ends)))
checks_right laws found file o before after status (inr (words, named, same, options)) ends =
    subst (λ f. Leaves before after status f o) (sym same)
    (subst (Leaves before after status words.file) (sym options)
    (check_right (inferring_options words.scale words.lead) words.file before after status laws (of_clocks words before after status (subst (λ c. Ends c before after status) named ends))))
