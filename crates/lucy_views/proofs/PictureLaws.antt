-- How a picture comes out, whichever it is.
use Rattle.std.proofs.Common.{ℕ, ◌≡◌, ◌⊎◌, List, Result, Ok, Err, ap, sym, ◌∙◌, subst}
use Rattle.std.specs.Prelude.{IfErr, MatchResult}
use Rattle.std.specs.declared.alloc.Global.{Global}
use Rattle.std.specs.declared.vec.Vec.{Vec}
use Rattle.lucy_host.specs.Operators.{Operator}
use Rattle.lucy_text.specs.declared.shelf.ShelfError.{ShelfError}
use Rattle.lucy_app.specs.Answers.{Answer}
use Rattle.lucy_app.specs.World.{bytes_of}
use Rattle.lucy_asking.specs.declared.ask.Picture.{Picture}
use Rattle.lucy_asking.specs.declared.ask.Picture.TheVariants as picture
use Rattle.lucy_views.specs.declared.failure.Failure.{Failure}
use Rattle.lucy_views.specs.declared.failure.Failure.TheVariants.{OutOfMemory}
use Rattle.lucy_views.specs.declared.shown.Shown.{Shown}
use Rattle.lucy_views.specs.Owes.{OwesPicture}
use Rattle.lucy_views.specs.Failures.{failure_answer, fetch_failure, ComesOut, IsOutcome, shown_alone, Tellable, IsTold, unread}
use Rattle.lucy_views.proofs.Told.{fetch_owed}

-- what comes out alone
pub alone_out : (Owed : Answer → Type 0) (r : Result (Vec ℕ Global) Failure) → ComesOut Owed r → IsOutcome Owed (shown_alone r)
alone_out Owed (Ok v) out = out
alone_out Owed (Err e) out = out

pub alone_told : (r : Result (Vec ℕ Global) Failure) → IfErr r Tellable → MatchResult (shown_alone r) IsTold Tellable
alone_told (Ok v) h = tt
alone_told (Err e) h = h

-- the picture is this
pub picture_out : (ops : List Operator) (text : List ℕ) (p q : Picture) (r s : Result Shown Failure) → p ≡ q → r ≡ s →
    IsOutcome (OwesPicture q (unread ops (Ok text))) s → IsOutcome (OwesPicture p (unread ops (Ok text))) r
picture_out ops text p q r s is same out =
    let P : Picture → Type 0 = λ x. IsOutcome (OwesPicture x (unread ops (Ok text))) r in
    let Q : Result Shown Failure → Type 0 = λ x. IsOutcome (OwesPicture q (unread ops (Ok text))) x in
    subst P (sym is) (subst Q (sym same) out)

pub picture_told : (r s : Result Shown Failure) → r ≡ s → MatchResult s IsTold Tellable → MatchResult r IsTold Tellable
picture_told r s same h =
    let P : Result Shown Failure → Type 0 = λ x. MatchResult x IsTold Tellable in
    subst P (sym same) h

-- a fetch gave no text
unfetched : (ops : List Operator) (p : Picture) (e : ShelfError) →
    (fetch_failure e ≡ OutOfMemory) ⊎ OwesPicture p (unread ops (Err e)) (failure_answer (fetch_failure e))
unfetched ops (picture.Time w) e = fetch_owed e
unfetched ops (picture.Net w) e = fetch_owed e
unfetched ops (picture.Where w) e = fetch_owed e
unfetched ops (picture.Page w) e = fetch_owed e
unfetched ops (picture.Explain w) e = fetch_owed e
unfetched ops (picture.Why w) e = fetch_owed e
unfetched ops (picture.Freeze w) e = fetch_owed e

pub unfetched_out : (ops : List Operator) (p : Picture) (fetched : Result (Vec ℕ Global) ShelfError) (e : ShelfError) (r : Result Shown Failure) (f : Failure) →
    fetched ≡ Err e → r ≡ Err f → f ≡ fetch_failure e → IsOutcome (OwesPicture p (unread ops (bytes_of fetched))) r
unfetched_out ops p fetched e r f gave is so =
    let P : Result (Vec ℕ Global) ShelfError → Type 0 = λ x. IsOutcome (OwesPicture p (unread ops (bytes_of x))) r in
    let Q : Result Shown Failure → Type 0 = λ x. IsOutcome (OwesPicture p (unread ops (Err e))) x in
    subst P (sym gave) (subst Q (sym (is ∙ ap Err so)) (unfetched ops p e))

-- the text that a fetch gave came out so
pub fetched_out : (ops : List Operator) (p : Picture) (fetched : Result (Vec ℕ Global) ShelfError) (text : Vec ℕ Global) (bytes : List ℕ) (r : Result Shown Failure) →
    fetched ≡ Ok text → bytes ≡ text.items → IsOutcome (OwesPicture p (unread ops (Ok bytes))) r → IsOutcome (OwesPicture p (unread ops (bytes_of fetched))) r
fetched_out ops p fetched text bytes r gave same out =
    let P : Result (Vec ℕ Global) ShelfError → Type 0 = λ x. IsOutcome (OwesPicture p (unread ops (bytes_of x))) r in
    let Q : List ℕ → Type 0 = λ x. IsOutcome (OwesPicture p (unread ops (Ok x))) r in
    subst P (sym gave) (subst Q same out)
