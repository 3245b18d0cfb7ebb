-- How what is told of a buffer, or of a text, comes out.
use Rattle.std.proofs.Common.{ℕ, ◌≡◌, ◌⊎◌, List, [], ◌∷◌, Result, Ok, Err, refl, ap, sym, ◌∙◌, subst, inl, inr}
use Rattle.std.specs.declared.alloc.Global.{Global}
use Rattle.std.specs.declared.vec.Vec.{Vec}
use Rattle.lucy_host.specs.Operators.{Operator}
use Rattle.lucy_text.specs.declared.shelf.ShelfError.{ShelfError}
use Rattle.lucy_text.specs.Sources.{Unread}
use Rattle.lucy_program.specs.declared.accepted.Accepted.{Accepted}
use Rattle.lucy_program.specs.declared.options.Options.{Options}
use Rattle.lucy_front.specs.declared.refusal.Refusal.{Refusal as Reason}
use Rattle.lucy_front.specs.declared.refusal.Refusal.TheVariants as front
use Rattle.lucy_program.specs.Accepting.{IsAccepted}
use Rattle.lucy_front.specs.Refusing.{Refuses}
use Rattle.lucy_tight.specs.declared.answer.Least.{Least}
use Rattle.lucy_tight.specs.declared.answer.TightError.TheVariants as tight
use Rattle.lucy_tight.specs.Tightening.{IsTightened, RefusesTight}
use Rattle.lucy_tight.specs.Report.{tight_lines, fixed_lines}
use Rattle.lucy_app.specs.Answers.{printed}
use Rattle.lucy_app.specs.Check.{RefusesCheck}
use Rattle.lucy_app.specs.Programs.{OwesText}
use Rattle.lucy_app.specs.Tighten.{node_named, HasBuffer, OwesSize, OwesBuffer}
use Rattle.lucy_app.specs.Outcomes.{refusal_answer, program_refusal, IsOwedOutcome, OwesNamed}
use Rattle.lucy_app.specs.declared.refusal.Refusal.{Refusal}
use Rattle.lucy_app.specs.declared.refusal.Refusal.TheVariants.{Program}
use Rattle.lucy_app.proofs.Told.{check_told}

module _ (a : Accepted) (o : Options) (node buffer : ℕ) where
  -- the least size is printed
  pub tight_out : (t : Least) (v : Vec ℕ Global) → IsTightened a o node buffer t → v.items ≡ tight_lines a node buffer t →
      IsOwedOutcome (OwesSize a o node buffer) (Ok v)
  tight_out t v is lines = inl (v.items, inl (t, is, lines), refl)

  -- the fixed size is
  pub fixed_out : (size : ℕ) (v : Vec ℕ Global) → (tight.Fixed size ≡ tight.OutOfMemory) ⊎ RefusesTight a o node buffer (tight.Fixed size) →
      v.items ≡ fixed_lines a node buffer size →
      IsOwedOutcome (OwesSize a o node buffer) (Ok v)
  fixed_out size v (inl e) lines = absurd (cc)
  fixed_out size v (inr is) lines = inl (v.items, inr (size, is, lines), refl)

  -- a limit is passed
  pub limit_out : (l : _) → (tight.Limit l ≡ tight.OutOfMemory) ⊎ RefusesTight a o node buffer (tight.Limit l) →
      IsOwedOutcome (OwesSize a o node buffer) (Err (Program (front.Limit l)))
  limit_out l (inl e) = absurd (cc)
  limit_out l (inr is) = inr (inr (l, is, refl))

-- what comes out of the buffer that has the name comes out
pub buffer_out : (a : Accepted) (o : Options) (name : List ℕ) (buffer node : ℕ) (r : Result (Vec ℕ Global) Refusal) →
    HasBuffer a.placed.nodes name buffer → node ≡ node_named a.placed.nodes name →
    IsOwedOutcome (OwesSize a o node buffer) r → IsOwedOutcome (OwesBuffer a o name buffer) r
buffer_out a o name buffer node (Ok v) has e is = inr (has, subst (λ i. OwesSize a o i buffer (printed v.items)) e is)
buffer_out a o name buffer node (Err f) has e (inl out) = inl out
buffer_out a o name buffer node (Err f) has e (inr is) = inr (inr (has, subst (λ i. OwesSize a o i buffer (refusal_answer f)) e is))

module _ (ops : List Operator) (o : Options) (name : List ℕ) (buffer : ℕ) where
  -- of what was fetched this comes out
  abbrev pub ComesOut : Result (List ℕ) ShelfError → Result (Vec ℕ Global) Refusal → Type 0
  ComesOut fetched r = IsOwedOutcome (OwesText (RefusesCheck ops o) (OwesNamed ops o name buffer) Unread (fetched ∷ [])) r

  -- the text is accepted
  pub accepted_out : (text : List ℕ) (a : Accepted) (r : Result (Vec ℕ Global) Refusal) → IsAccepted ops o text a →
      IsOwedOutcome (OwesBuffer a o name buffer) r → ComesOut (Ok text) r
  accepted_out text a (Ok v) is out = inr (a, is, out)
  accepted_out text a (Err e) is (inl out) = inl out
  accepted_out text a (Err e) is (inr out) = inr (inr (a, is, out))

  -- it is refused
  pub refused_out : (text : List ℕ) (reason : Reason) (r : Result (Vec ℕ Global) Refusal) (refusal : Refusal) → Refuses ops o text reason →
      r ≡ Err refusal → refusal ≡ program_refusal reason → ComesOut (Ok text) r
  refused_out text reason r refusal h is so =
      let Q : Result (Vec ℕ Global) Refusal → Type 0 = λ x. ComesOut (Ok text) x in
      subst Q (sym (is ∙ ap Err so)) (elim (check_told ops o text reason h) [
        | inl out ↦ inl out
        | inr why ↦ inr (inl ((why.0, why.1, ap refusal_answer why.2), refl))
      ])
