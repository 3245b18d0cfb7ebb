-- Facts about results that several crates need.
use Rattle.std.proofs.Common.{◌≡◌, Result, Ok, Err, OnOk, OnErr, sym, subst}
use Rattle.std.specs.Prelude.{IfErr, IsErrAnd, MatchResult}
use Rattle.std.proofs.lemmas.Result.{err_from_is_err_and}

-- the error of a call goes out of the function by `?`
pub leaves : {T E : Type 0} (P Q : E → Type 0) (e : E) (r : Result T E) → IsErrAnd r (λ y. y ≡ e) → P e → ((y : E) → P y → Q y) → IfErr r Q
leaves P Q e r i h f =
    let p = err_from_is_err_and r i in
    rw (p.1, p.2) (f e h)

-- what holds anyway holds of an answer that went well
pub on_ok : {T E : Type 0} (r : Result T E) (P : Type 0) → P → OnOk r P
on_ok (Ok x) P p = p
on_ok (Err e) P p = tt

-- and of an error
pub on_err : {T E : Type 0} (r : Result T E) (P : Type 0) → P → OnErr r P
on_err (Ok x) P p = tt
on_err (Err e) P p = p

-- a refusal that goes out is what it was
pub goes_out : {T E : Type 0} (P : E → Type 0) (e : E) (r : Result T E) → IsErrAnd r (λ y. y ≡ e) → P e → IfErr r P
goes_out P e r i h = leaves P P e r i h (λ y p. p)

-- what holds of the error of a call holds of its answer
pub fails_so : {T E : Type 0} (r : Result T E) (e : E) (A : T → Type 0) (B : E → Type 0) → IsErrAnd r (λ y. y ≡ e) → B e → MatchResult r A B
fails_so (Ok x) e A B is b = absurd is
fails_so (Err f) e A B is b = subst B (sym is) b
