-- What is owed where a text, or an input, came out so.
use Rattle.std.proofs.Common.{ℕ, ◌≤◌, ◌<◌, ◌≡◌, ◌⊎◌, List, [], ◌∷◌, Result, Ok, Err, refl, ap, sym, ◌∙◌, subst, inl, inr, arith}
use Rattle.std.specs.Prelude.{length, IfOk, IfErr}
use Rattle.std.specs.declared.alloc.Global.{Global}
use Rattle.std.specs.declared.vec.Vec.{Vec}
use Rattle.lucy_word.specs.declared.limit.Limit.TheVariants as limit
use Rattle.lucy_text.specs.declared.shelf.ShelfError.{ShelfError}
use Rattle.lucy_text.specs.declared.shelf.ShelfError.TheVariants as shelf
use Rattle.lucy_text.specs.Sources.{ReadStop, Unread, Ended, Failed, Passed, Open, IsGathered}
use Rattle.lucy_text.specs.declared.read.ReadError.{ReadError}
use Rattle.lucy_text.specs.declared.read.ReadError.TheVariants as read
use Rattle.lucy_front.specs.Refusing.{RefusesText}
use Rattle.lucy_app.specs.Answers.{Answer, limit_passed}
use Rattle.lucy_app.specs.Fields.{field_texts}
use Rattle.lucy_host.specs.Operators.{Operator}
use Rattle.lucy_program.specs.declared.options.Options.{Options}
use Rattle.lucy_app.specs.Types.{IsReportOf}
use Rattle.lucy_app.specs.Check.{IsCheckOf, RefusesCheck}
use Rattle.lucy_app.specs.Order.{IsVerdictLine, RefusesFields}
use Rattle.lucy_app.specs.Owes.{OwesOrder}
use Rattle.lucy_app.specs.Programs.{OwesText, OwesPrint}
use Rattle.lucy_app.specs.Outcomes.{bytes_of, refusal_answer, fetch_refusal, RefusesProgram, RefusesInput, IsOwedOutcome, read_refusal, OwesNamed}
use Rattle.lucy_front.specs.declared.refusal.Refusal.{Refusal as Reason}
use Rattle.lucy_app.specs.declared.refusal.Refusal.{Refusal}
use Rattle.lucy_app.specs.declared.refusal.Refusal.TheVariants.{OutOfMemory}

-- what a text that was fetched came out as is owed
pub program_owed : (Prints : List ℕ → List ℕ → Type 0) (Refuses : List ℕ → Reason → Type 0) (text : List ℕ) (r : Result (Vec ℕ Global) Refusal) →
    IfOk r (λ v. Prints text v.items) → IfErr r (RefusesProgram (Refuses text)) → IsOwedOutcome (OwesText Refuses (OwesPrint Prints) Unread (Ok text ∷ [])) r
program_owed Prints Refuses text (Ok print) is why = inr (print.items, is, refl)
program_owed Prints Refuses text (Err e) is (inl out) = inl out
program_owed Prints Refuses text (Err e) is (inr why) = inr (inl ((why.0, why.1, ap refusal_answer why.2), refl))

-- the text that a fetch gave came out so
pub program_outcome : (Prints : List ℕ → List ℕ → Type 0) (Refuses : List ℕ → Reason → Type 0) (fetched : Result (Vec ℕ Global) ShelfError) (text : Vec ℕ Global)
    (r : Result (Vec ℕ Global) Refusal) → fetched ≡ Ok text → IfOk r (λ v. Prints text.items v.items) → IfErr r (RefusesProgram (Refuses text.items)) →
    IsOwedOutcome (OwesText Refuses (OwesPrint Prints) Unread (bytes_of fetched ∷ [])) r
program_outcome Prints Refuses fetched text r gave is why =
    let P : Result (Vec ℕ Global) ShelfError → Type 0 = λ f. IsOwedOutcome (OwesText Refuses (OwesPrint Prints) Unread (bytes_of f ∷ [])) r in
    subst P (sym gave) (program_owed Prints Refuses text.items r is why)

-- a fetch that gave no text is refused
pub fetch_owed : (Refuses : List ℕ → Reason → Type 0) (Owed : List ℕ → Answer → Type 0) (e : ShelfError) →
    (fetch_refusal e ≡ OutOfMemory) ⊎ OwesText Refuses Owed Unread (Err e ∷ []) (refusal_answer (fetch_refusal e))
fetch_owed Refuses Owed shelf.Failed = inr (inl (refl, refl))
fetch_owed Refuses Owed shelf.Missing = inr (inl (refl, refl))
fetch_owed Refuses Owed shelf.TooLong = inr (inl (refl, refl))
fetch_owed Refuses Owed shelf.OutOfMemory = inl refl

-- a fetch gave no text
pub fetch_outcome : (Prints : List ℕ → List ℕ → Type 0) (Refuses : List ℕ → Reason → Type 0) (fetched : Result (Vec ℕ Global) ShelfError) (e : ShelfError)
    (r : Result (Vec ℕ Global) Refusal) (refusal : Refusal) → fetched ≡ Err e → r ≡ Err refusal → refusal ≡ fetch_refusal e →
    IsOwedOutcome (OwesText Refuses (OwesPrint Prints) Unread (bytes_of fetched ∷ [])) r
fetch_outcome Prints Refuses fetched e r refusal gave is so =
    let P : Result (Vec ℕ Global) ShelfError → Type 0 = λ f. IsOwedOutcome (OwesText Refuses (OwesPrint Prints) Unread (bytes_of f ∷ [])) r in
    let Q : Result (Vec ℕ Global) Refusal → Type 0 = λ x. IsOwedOutcome (OwesText Refuses (OwesPrint Prints) Unread (Err e ∷ [])) x in
    subst P (sym gave) (subst Q (sym (is ∙ ap Err so)) (fetch_owed Refuses (OwesPrint Prints) e))

-- what is owed where the host has these operators
pub report_met : (ops lends : List Operator) (fetched : List (Result (List ℕ) ShelfError)) (r : Result (Vec ℕ Global) Refusal) → ops ≡ lends →
    IsOwedOutcome (OwesText (RefusesText ops) (OwesPrint (IsReportOf ops)) Unread fetched) r → IsOwedOutcome (OwesText (RefusesText lends) (OwesPrint (IsReportOf lends)) Unread fetched) r
report_met ops lends fetched r same is =
    let P : List Operator → Type 0 = λ u. IsOwedOutcome (OwesText (RefusesText u) (OwesPrint (IsReportOf u)) Unread fetched) r in
    subst P same is

-- and clocks are found so
pub check_met : (ops lends : List Operator) (found o : Options) (fetched : List (Result (List ℕ) ShelfError)) (r : Result (Vec ℕ Global) Refusal) → ops ≡ lends → found ≡ o →
    IsOwedOutcome (OwesText (RefusesCheck ops found) (OwesPrint (IsCheckOf ops found)) Unread fetched) r → IsOwedOutcome (OwesText (RefusesCheck lends o) (OwesPrint (IsCheckOf lends o)) Unread fetched) r
check_met ops lends found o fetched r same is_o is =
    let P : List Operator → Type 0 = λ u. IsOwedOutcome (OwesText (RefusesCheck u found) (OwesPrint (IsCheckOf u found)) Unread fetched) r in
    let Q : Options → Type 0 = λ u. IsOwedOutcome (OwesText (RefusesCheck lends u) (OwesPrint (IsCheckOf lends u)) Unread fetched) r in
    subst Q is_o (subst P same is)

-- and a buffer is looked for
pub tight_met : (ops lends : List Operator) (o : Options) (name : List ℕ) (buffer : ℕ) (fetched : List (Result (List ℕ) ShelfError))
    (r : Result (Vec ℕ Global) Refusal) → ops ≡ lends →
    IsOwedOutcome (OwesText (RefusesCheck ops o) (OwesNamed ops o name buffer) Unread fetched) r →
    IsOwedOutcome (OwesText (RefusesCheck lends o) (OwesNamed lends o name buffer) Unread fetched) r
tight_met ops lends o name buffer fetched r same is =
    let P : List Operator → Type 0 = λ u. IsOwedOutcome (OwesText (RefusesCheck u o) (OwesNamed u o name buffer) Unread fetched) r in
    subst P same is

-- an input that was read to its end came out so
order_owed : (text : List ℕ) (r : Result (Vec ℕ Global) Refusal) → IfOk r (λ v. IsVerdictLine text v.items) → IfErr r (RefusesInput (RefusesFields (field_texts text))) →
    IsOwedOutcome (OwesOrder text Ended) r
order_owed text (Ok line) is why = inl (line.items, is, refl)
order_owed text (Err e) is (inl out) = inl out
order_owed text (Err e) is (inr why) = inr (inr (why.0, why.1, ap refusal_answer why.2))

pub order_outcome : (most : ℕ) (taken bytes : List ℕ) (stop : ReadStop) (r : Result (Vec ℕ Global) Refusal) → bytes ≡ taken → length bytes ≤ most →
    ((length taken ≤ most) × (stop ≡ Ended)) ⊎ ((most < length taken) × (stop ≡ Passed)) →
    IfOk r (λ v. IsVerdictLine bytes v.items) → IfErr r (RefusesInput (RefusesFields (field_texts bytes))) → IsOwedOutcome (OwesOrder taken stop) r
order_outcome most taken bytes stop r same short (inl ended) is why =
    let P : List ℕ → Type 0 = λ t. IsOwedOutcome (OwesOrder t stop) r in
    let Q : ReadStop → Type 0 = λ s. IsOwedOutcome (OwesOrder bytes s) r in
    subst P same (subst Q (sym ended.1) (order_owed bytes r is why))
order_outcome most taken bytes stop r same short (inr passed) is why = absurd (omega (arith, ap length same, passed.0, short))

-- an input that is too long
pub long_outcome : (most : ℕ) (taken bytes : List ℕ) (stop : ReadStop) (e : Refusal) → bytes ≡ taken → most < length bytes →
    ((length taken ≤ most) × (stop ≡ Ended)) ⊎ ((most < length taken) × (stop ≡ Passed)) → refusal_answer e ≡ limit_passed limit.OrderInput → IsOwedOutcome (OwesOrder taken stop) (Err e)
long_outcome most taken bytes stop e same long (inl ended) is = absurd (omega (arith, ap length same, ended.0, long))
long_outcome most taken bytes stop e same long (inr passed) is =
    let Q : ReadStop → Type 0 = λ s. IsOwedOutcome (OwesOrder taken s) (Err e) in
    subst Q (sym passed.1) (inr is)

fault_owed : (taken : List ℕ) (stop : ReadStop) (e : ReadError) → ((e ≡ read.Failed) × (stop ≡ Failed)) ⊎ ((e ≡ read.OutOfMemory) × (stop ≡ Open)) →
    (read_refusal e ≡ OutOfMemory) ⊎ OwesOrder taken stop (refusal_answer (read_refusal e))
fault_owed taken stop e (inl fault) =
    let P : ReadStop → Type 0 = λ s. OwesOrder taken s (refusal_answer (read_refusal e)) in
    inr (subst P (sym fault.1) (ap (λ x. refusal_answer (read_refusal x)) fault.0))
fault_owed taken stop e (inr out) = inl (ap read_refusal out.0)

-- an input that was not read to its end
pub unread_outcome : (most : ℕ) (taken : List ℕ) (stop : ReadStop) (gathered : Result (Vec ℕ Global) ReadError) (r : Result (Vec ℕ Global) Refusal) (e : ReadError) (f : Refusal) →
    IsGathered most taken stop gathered → gathered ≡ Err e → r ≡ Err f → f ≡ read_refusal e → IsOwedOutcome (OwesOrder taken stop) r
unread_outcome most taken stop gathered r e f how was is same =
    let G : Result (Vec ℕ Global) ReadError → Type 0 = λ g. IsGathered most taken stop g in
    let Q : Result (Vec ℕ Global) Refusal → Type 0 = λ x. IsOwedOutcome (OwesOrder taken stop) x in
    subst Q (sym (is ∙ ap Err same)) (fault_owed taken stop e (subst G was how))
