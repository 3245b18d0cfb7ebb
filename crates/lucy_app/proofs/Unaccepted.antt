-- Whether what was fetched is a program that can be run.
use Rattle.lucy_program.specs.declared.options.Options.{Options}
use Rattle.std.proofs.Common.{ℕ, ◌≡◌, ◌⊎◌, List, [], ◌∷◌, Option, None, Result, Ok, Err, refl, ap, sym, ◌∙◌, subst, inl, inr}
use Rattle.std.specs.declared.alloc.Global.{Global}
use Rattle.std.specs.declared.vec.Vec.{Vec}
use Rattle.lucy_host.specs.Operators.{Operator}
use Rattle.lucy_text.specs.declared.shelf.ShelfError.{ShelfError}
use Rattle.lucy_text.specs.Sources.{Unread}
use Rattle.lucy_program.specs.declared.accepted.Accepted.{Accepted}
use Rattle.lucy_front.specs.declared.refusal.Refusal.{Refusal as Reason}
use Rattle.lucy_program.specs.Accepting.{IsAccepted}
use Rattle.lucy_front.specs.Refusing.{Refuses}
use Rattle.lucy_app.specs.Check.{RefusesCheck}
use Rattle.lucy_app.specs.Running.{LacksInstants, OwesEnded, OwesRunning}
use Rattle.lucy_app.specs.Outcomes.{bytes_of, refusal_answer, fetch_refusal, program_refusal, IsAccepting, NoRun}
use Rattle.lucy_app.specs.declared.refusal.Refusal.{Refusal}
use Rattle.lucy_app.specs.declared.refusal.Refusal.TheVariants.{NoInstants, OutOfMemory}
use Rattle.lucy_app.proofs.Outcomes.{fetch_owed}
use Rattle.lucy_app.proofs.Told.{check_told}

module _ (ops : List Operator) (o : Options) (instants : Option ℕ) where
  fetch_refused : (e : _) → (fetch_refusal e ≡ OutOfMemory) ⊎ OwesRunning NoRun ops o instants Unread (Err e ∷ []) (refusal_answer (fetch_refusal e))
  fetch_refused e = fetch_owed (RefusesCheck ops o) (λ text told. (a : Accepted) × IsAccepted ops o text a × OwesEnded (NoRun a) instants Unread a told) e

  -- a fetch gave no text
  pub unfetched : (fetched : Result (Vec ℕ Global) ShelfError) (e : ShelfError) (r : Result Accepted Refusal) (refusal : Refusal) → fetched ≡ Err e → r ≡ Err refusal → refusal ≡ fetch_refusal e →
      IsAccepting ops o instants (bytes_of fetched ∷ []) r
  unfetched fetched e r refusal gave is so =
      let P : Result (Vec ℕ Global) ShelfError → Type 0 = λ f. IsAccepting ops o instants (bytes_of f ∷ []) r in
      let Q : Result Accepted Refusal → Type 0 = λ x. IsAccepting ops o instants (Err e ∷ []) x in
      subst P (sym gave) (subst Q (sym (is ∙ ap Err so)) (fetch_refused e))

  program_refused_so : (text : List ℕ) (reason : Reason) → Refuses ops o text reason → (program_refusal reason ≡ OutOfMemory) ⊎ OwesRunning NoRun ops o instants Unread (Ok text ∷ []) (refusal_answer (program_refusal reason))
  program_refused_so text reason h = elim (check_told ops o text reason h) [ inl out ↦ inl out | inr why ↦ inr (inl ((why.0, why.1, ap refusal_answer why.2), refl)) ]

  module _ (fetched : Result (Vec ℕ Global) ShelfError) (text : Vec ℕ Global) (gave : fetched ≡ Ok text) where
    moved : (r : Result Accepted Refusal) → IsAccepting ops o instants (Ok text.items ∷ []) r → IsAccepting ops o instants (bytes_of fetched ∷ []) r
    moved r h =
        let P : Result (Vec ℕ Global) ShelfError → Type 0 = λ f. IsAccepting ops o instants (bytes_of f ∷ []) r in
        subst P (sym gave) h

    -- the text is refused
    pub unaccepted : (reason : Reason) (r : Result Accepted Refusal) (refusal : Refusal) → Refuses ops o text.items reason → r ≡ Err refusal → refusal ≡ program_refusal reason →
        IsAccepting ops o instants (bytes_of fetched ∷ []) r
    unaccepted reason r refusal h is so =
        let Q : Result Accepted Refusal → Type 0 = λ x. IsAccepting ops o instants (Ok text.items ∷ []) x in
        moved r (subst Q (sym (is ∙ ap Err so)) (program_refused_so text.items reason h))

    -- its main lacks the instants
    pub lacking : (a : Accepted) → IsAccepted ops o text.items a → a.inputs.items ≡ [] → instants ≡ None → IsAccepting ops o instants (bytes_of fetched ∷ []) (Err NoInstants)
    lacking a is none lacks = moved (Err NoInstants) (inr (inr (a, is, inl ((none, lacks), refl, refl))))

    -- it can be run
    pub runnable : (a : Accepted) → IsAccepted ops o text.items a → (LacksInstants a instants → ⊥) → IsAccepting ops o instants (bytes_of fetched ∷ []) (Ok a)
    runnable a is given = moved (Ok a) (is, given)
