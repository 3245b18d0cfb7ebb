-- How explanations, pages and frozen programs come out.
use Rattle.std.proofs.Common.{Bool, true, false, ◌∙◌, ℕ, ◌≡◌, ◌≢◌, ◌⊎◌, List, [], ◌∷◌, Option, Some, None, Result, Ok, Err, refl, ap, sym, subst, inl, inr}
use Rattle.std.specs.Prelude.{nat_eq, IfOk, IfSome, IfNone, MatchResult}
use Rattle.std.specs.declared.alloc.Global.{Global}
use Rattle.std.specs.declared.vec.Vec.{Vec}
use Rattle.std.specs.declared.alloc.AllocError.{AllocError}
use Rattle.lucy_host.specs.Operators.{Operator}
use Rattle.lucy_text.specs.Sources.{Unread}
use Rattle.lucy_program.specs.declared.accepted.Accepted.{Accepted}
use Rattle.lucy_program.specs.declared.options.Options.{Options}
use Rattle.lucy_front.specs.declared.refusal.Refusal.{Refusal}
use Rattle.lucy_front.specs.declared.refusal.Refusal.TheVariants as front
use Rattle.lucy_program.specs.Accepting.{IsAccepted}
use Rattle.lucy_front.specs.Refusing.{Refuses}
use Rattle.lucy_explain.specs.Begins.{BeginsAs}
use Rattle.lucy_freeze.specs.Freezing.{IsFrozen}
use Rattle.lucy_app.specs.Answers.{Answer, printed}
use Rattle.lucy_app.specs.Check.{RefusesCheck}
use Rattle.lucy_app.specs.ProgramRefusals.{program_status}
use Rattle.lucy_app.specs.Programs.{OwesText}
use Rattle.lucy_views.specs.declared.missing.Missing.TheVariants as missing
use Rattle.lucy_views.specs.declared.failure.Failure.{Failure}
use Rattle.lucy_views.specs.declared.failure.Failure.TheVariants.{Program, Lacks, OutOfMemory}
use Rattle.lucy_views.specs.declared.shown.Shown.{Shown}
use Rattle.lucy_views.specs.Owes.{Explains, OwesFrozen}
use Rattle.lucy_views.specs.Failures.{failure_answer, program_failure, shown_refusal, ComesOut, IsOutcome, IsTold, Tellable}
use Rattle.lucy_views.proofs.Told.{check_told}
use Rattle.lucy_program.specs.Report.{report}
use Rattle.lucy_front.specs.Refusals.{IsTellable}
use Rattle.lucy_front.proofs.TellableLaws.{tellable}
use Rattle.lucy_page.specs.Pages.{IsPage, IsRefusedPage}
use Rattle.lucy_views.specs.Owes.{NoRefusal, OwesPage, OwesRefusedPage, OwesAcceptedPage}
use Rattle.lucy_views.proofs.Outs.{told_out, failed_out}

-- why nothing is printed of a refusal: memory ran out, or it is told
kinds : (r : Refusal) → (program_failure r ≡ OutOfMemory) ⊎ (program_failure r ≡ Program r)
kinds (front.Syntax e) = inr refl
kinds (front.Names e) = inr refl
kinds (front.Types placed node path) = inr refl
kinds (front.Node placed node fault) = inr refl
kinds (front.Cause net names instant items) = inr refl
kinds (front.Limit l) = inr refl
kinds front.OutOfMemory = inl refl

module _ (ops : List Operator) (found o : Options) (same : found ≡ o) (text : List ℕ) where
  -- what is owed of the text
  abbrev pub OwesOf : Answer → Type 0
  OwesOf answer = OwesText (RefusesCheck ops o) (OwesFrozen ops o) Unread (Ok text ∷ []) answer

  -- so a text that is frozen comes out
  pub frozen_out : (print : Vec ℕ Global) (twin : Accepted) → IsFrozen ops found text print.items twin → ComesOut OwesOf (Ok print)
  frozen_out print twin is = inr (inl (print.items, (twin, subst (λ u. IsFrozen ops u text print.items twin) same is), refl))

  -- one that is refused
  pub not_accepted_out : (reason : Refusal) (r : Result (Vec ℕ Global) Failure) (e : Failure) → Refuses ops found text reason → r ≡ Err e →
      e ≡ program_failure reason → ComesOut OwesOf r
  not_accepted_out reason r e h is so =
      failed_out OwesOf r e (program_failure reason) is so
      (told_out (RefusesCheck ops o) (OwesFrozen ops o) text (program_failure reason) (check_told ops o text reason (subst (λ u. Refuses ops u text reason) same h)))

  accepted_by : (a : Accepted) → IsAccepted ops found text a → IsAccepted ops o text a
  accepted_by a is = subst (λ u. IsAccepted ops u text a) same is

  -- one whose frozen text is
  pub not_frozen_out : (a : Accepted) (reason : Refusal) (r : Result (Vec ℕ Global) Failure) (e : Failure) → IsAccepted ops found text a → IsTellable reason → r ≡ Err e →
      e ≡ program_failure reason → ComesOut OwesOf r
  not_frozen_out a reason r e accepted tells is so =
      failed_out OwesOf r e (program_failure reason) is so (elim (kinds reason) [
        | inl out ↦ inl out
        | inr told ↦ inr (inr (inr (a, accepted_by a accepted, inl (reason, tells, ap failure_answer told))))
      ])

  -- and one whose frozen text would be another program
  pub differs_out : (a : Accepted) → IsAccepted ops found text a → ComesOut OwesOf (Err (Lacks missing.Frozen))
  differs_out a accepted = inr (inr (inr (a, accepted_by a accepted, inr refl)))

-- what is told of a text is an explanation
pub explained : (ops : List Operator) (found o : Options) (text told : List ℕ) (r : Option Refusal) → found ≡ o → IfNone r ((a : Accepted) × IsAccepted ops found text a) →
    IfSome r (λ x. Refuses ops found text x) → IfSome r (λ x. BeginsAs x told) → IfSome r (λ x. x ≢ front.OutOfMemory) → Explains ops o text r told
explained ops found o text told None same is why begins other = subst (λ u. (a : Accepted) × IsAccepted ops u text a) same is
explained ops found o text told (Some x) same is why begins other = ((subst (λ u. Refuses ops u text x) same why, other), begins)

-- only a limit of memory has status 7
pub memory_status : (r : Refusal) → program_status r ≢ 7 → r ≢ front.OutOfMemory
memory_status r other is = other (ap program_status is)

-- a refusal whose status is another is none for want of memory
pub lacks_so : (found : Option Refusal) (r : Refusal) (s : ℕ) (short : Bool) → found ≡ Some r → s ≡ program_status r → short ≡ nat_eq s 7 → short ≡ false →
    IfSome found (λ x. x ≢ front.OutOfMemory)
lacks_so found r s short is status test other =
    let P : Option Refusal → Type 0 = λ f. IfSome f (λ x. x ≢ front.OutOfMemory) in
    subst P (sym is) (memory_status r (λ seven. let both : true ≡ false = ap (λ k. nat_eq k 7) (sym (status ∙ seven)) ∙ sym test ∙ other in cc))

-- the page of a text that is refused, and what is told behind it
pub refusal_out : (ops : List Operator) (o : Options) (text told : List ℕ) (print : Result (Vec ℕ Global) AllocError) (found : Option Refusal) → Explains ops o text found told →
    IfOk print (λ v. IsRefusedPage told text v.items) → IsOutcome (OwesRefusedPage ops o text) (shown_refusal print found)
refusal_out ops o text told (Ok print) None h page = inl refl
refusal_out ops o text told (Ok print) (Some reason) h page = (reason, told, print.items, h, page, refl)
refusal_out ops o text told (Err e) found h page = inl refl

pub refusal_told : (ops : List Operator) (o : Options) (text told : List ℕ) (print : Result (Vec ℕ Global) AllocError) (found : Option Refusal) → Explains ops o text found told →
    MatchResult (shown_refusal print found) IsTold Tellable
refusal_told ops o text told (Ok print) None h = tt
refusal_told ops o text told (Ok print) (Some reason) h = tellable ops o text reason h.0.0
refusal_told ops o text told (Err e) found h = tt

-- the page of one that is accepted
pub page_drawn : (ops : List Operator) (o : Options) (text : List ℕ) (a : Accepted) (print : Option (Vec ℕ Global)) → IsAccepted ops o text a →
    IfSome print (λ v. IsPage a.placed.nodes text (report a.placed.nodes a.typed a.clocks.items) v.items) → IfSome print (λ v. OwesAcceptedPage ops o text (printed v.items))
page_drawn ops o text a None is page = tt
page_drawn ops o text a (Some print) is page = (a, is, (print.items, page, refl))

-- what comes out of a text that wasn't accepted
pub pages_out : (ops : List Operator) (o : Options) (text : List ℕ) (r : Result Shown Failure) → IsOutcome (OwesRefusedPage ops o text) r →
    IsOutcome (OwesText NoRefusal (OwesPage ops o) Unread (Ok text ∷ [])) r
pages_out ops o text (Ok shown) out = inr (inr out)
pages_out ops o text (Err e) (inl out) = inl out
pages_out ops o text (Err e) (inr out) = inr (inr (inr out))
