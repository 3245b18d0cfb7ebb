-- The first of faults that are looked for one after another.
use Rattle.std.proofs.Common.{◌≡◌, ◌++◌, Bool, true, false, not, List, [], ◌∷◌, ℕ, length, map, Result, Ok, Err, refl, ap, sym, ◌∙◌, inl, inr, arith, append_assoc, append-nil}
use Rattle.std.specs.Prelude.{IsOk, ◌⊎◌}
use Rattle.std.specs.Result.{IsErrAnd}
use Rattle.std.proofs.lemmas.List.{map-append}
use Rattle.std.proofs.lemmas.Result.{err_from_is_err_and}
use Rattle.lucy_tree.specs.declared.span.Name.{Name}
use Rattle.lucy_tree.specs.declared.expr.Expr.{Expr}
use Rattle.lucy_naming.specs.declared.error.NameError.{NameError}
use Rattle.lucy_naming.specs.Phrases.{expr_phrases, count}
use Rattle.lucy_naming.specs.Views.{text_of}
use Rattle.lucy_naming.specs.Faults.{verdict, unless, repeat, repeats}
use Rattle.lucy_naming.specs.declared.error.NameError.TheVariants.{OutOfMemory}
use Rattle.lucy_naming.specs.Placing.{TellsFirstFault, IsFirstFault}

pub verdict_front : (xs ys : List NameError) {e : NameError} → verdict xs ≡ Err e → verdict (xs ++ ys) ≡ Err e
verdict_front [] ys h = cc
verdict_front (x ∷ xs) ys h = h

pub verdict_back : (xs ys : List NameError) → verdict xs ≡ Ok tt → verdict (xs ++ ys) ≡ verdict ys
verdict_back [] ys h = refl
verdict_back (x ∷ xs) ys h = cc

pub tells_front : (xs ys : List NameError) {e : NameError} → TellsFirstFault xs e → TellsFirstFault (xs ++ ys) e
tells_front xs ys (inl h) = inl h
tells_front xs ys (inr h) = inr (verdict_front xs ys h)

-- no fault in the first part: the rest tells the first of all
pub tells_back : (xs ys : List NameError) {e : NameError} → xs ≡ [] → TellsFirstFault ys e → TellsFirstFault (xs ++ ys) e
tells_back [] ys none h = h
tells_back (x ∷ xs) ys none h = cc

pub faultless : (xs : List NameError) → verdict xs ≡ Ok tt → xs ≡ []
faultless [] h = refl
faultless (x ∷ xs) h = cc

pub all_faultless : (xs ys : List NameError) → xs ≡ [] → ys ≡ [] → xs ++ ys ≡ []
all_faultless [] ys h g = g
all_faultless (x ∷ xs) ys h g = cc

-- as many phrases as expressions
pub count_phrases : (es : List Expr) → count (expr_phrases es) ≡ length es
count_phrases [] = refl
count_phrases (e ∷ es) = omega (arith, count_phrases es)

-- names, then further names
pub repeats_append : (before : List (List ℕ)) (xs ys : List Name) → repeats before (xs ++ ys) ≡ repeats before xs ++ repeats (before ++ map text_of xs) ys
repeats_append before [] ys = ap (λ b. repeats b ys) (sym (append-nil before))
repeats_append before (x ∷ xs) ys =
    ap (λ fs. repeat before x ++ fs) (repeats_append (before ++ x.text ∷ []) xs ys)
    ∙ ap (λ b. repeat before x ++ (repeats (before ++ x.text ∷ []) xs ++ repeats b ys)) (append_assoc before (x.text ∷ []) (map text_of xs))
    ∙ sym (append_assoc (repeat before x) (repeats (before ++ x.text ∷ []) xs) (repeats (before ++ map text_of (x ∷ xs)) ys))

-- names that are new, before others
pub define_more : (s t : List (List ℕ)) (xs ys : List Name) → repeats s xs ≡ [] → t ≡ s ++ map text_of xs →
    (repeats t ys ≡ repeats s (xs ++ ys)) × (t ++ map text_of ys ≡ s ++ map text_of (xs ++ ys))
define_more s t xs ys new e = (
  ap (λ b. repeats b ys) e ∙ sym (repeats_append s xs ys ∙ ap (λ fs. fs ++ repeats (s ++ map text_of xs) ys) new),
  ap (λ b. b ++ map text_of ys) e ∙ append_assoc s (map text_of xs) (map text_of ys) ∙ ap (λ b. s ++ b) (sym (map-append text_of xs ys)),
)

-- what is told of a program where an error is one that its faults tell
pub accepted_by : {T : Type 0} (fs : List NameError) (r : Result T NameError) (e : NameError) → r ≡ Err e → TellsFirstFault fs e → fs ≡ [] → (r ≡ Err OutOfMemory) ⊎ IsOk r
accepted_by fs r e is (inl out) none = inl (is ∙ ap Err out)
accepted_by fs r e is (inr first) none = let h : Ok tt ≡ Err e = sym (ap verdict none) ∙ first in cc

pub rejected_by : {T : Type 0} (fs : List NameError) (r : Result T NameError) (e : NameError) → r ≡ Err e → TellsFirstFault fs e → (y : NameError) → IsFirstFault fs y → (r ≡ Err OutOfMemory) ⊎ (r ≡ Err y)
rejected_by fs r e is (inl out) y first = inl (is ∙ ap Err out)
rejected_by fs r e is (inr told) y first = inr (is ∙ same (sym told ∙ first))
  where
    same : {T : Type 0} → ◌≡◌ {A = Result (Unit {0}) NameError} (Err e) (Err y) → ◌≡◌ {A = Result T NameError} (Err e) (Err y)
    same {T = T} h = let g : e ≡ y = cc in ap (λ z. let r : Result T NameError = Err z in r) g

-- an error that goes out by `?`
pub out_of : {T : Type 0} (r : Result T NameError) (e : NameError) → IsErrAnd r (λ y. y ≡ e) → r ≡ Err e
out_of r e i = let p = err_from_is_err_and r i in p.1 ∙ ap Err p.2

pub is_new : (b : Bool) (e : NameError) → unless (not b) e ≡ [] → b ≡ false
is_new true e h = cc
is_new false e h = refl
