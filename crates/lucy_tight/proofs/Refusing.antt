-- What goes out of a function that is refused.
use Rattle.std.proofs.Common.{◌≡◌, ℕ, Result, inl, inr}
use Rattle.std.specs.Prelude.{◌⊎◌, MatchResult, IsErrAnd}
use Rattle.std.proofs.lemmas.Result.{err_from_is_err_and}
use Rattle.lucy_need.specs.declared.need.Needs.{Needs}
use Rattle.lucy_shape.specs.declared.shape.Shape.{Shape}
use Rattle.lucy_tight.specs.declared.answer.TightError.{TightError}
use Rattle.lucy_tight.specs.declared.answer.TightError.TheVariants.{OutOfMemory}
use Rattle.lucy_tight.specs.Least.{RefusesTightest}
use Rattle.lucy_tight.proofs.OneAnswer.{only}

-- a reason, or want of memory, is the one reason or want of memory
refused_as : (needs : Needs) (shape : Shape) (from to : ℕ) (e f : TightError) → RefusesTightest needs shape from to e → (f ≡ OutOfMemory) ⊎ RefusesTightest needs shape from to f → (f ≡ OutOfMemory) ⊎ (f ≡ e)
refused_as needs shape from to e f is (inl none) = inl none
refused_as needs shape from to e f is (inr refused) = inr (only needs shape from to f e refused is)

pub leaves_only : {T : Type 0} (P : T → Type 0) (needs : Needs) (shape : Shape) (from to : ℕ) (e f : TightError) (r : Result T TightError) → RefusesTightest needs shape from to e → IsErrAnd r (λ y. y ≡ f) →
    (f ≡ OutOfMemory) ⊎ RefusesTightest needs shape from to f → MatchResult r P (λ y. (y ≡ OutOfMemory) ⊎ (y ≡ e))
leaves_only P needs shape from to e f r is i h =
    let p = err_from_is_err_and r i in
    rw (p.1, p.2) (refused_as needs shape from to e f is h)
