-- What the reader answers is the text's one answer.
use Rattle.std.proofs.Common.{ℕ, ◌≡◌, ◌≤◌, ◌⊎◌, inl, inr, List, [], ◌∷◌, length, refl, ap, sym, ◌∙◌, subst}
use Rattle.std.proofs.lemmas.List.{append-nil}
use Rattle.std.specs.Prelude.{Result, Err}
use Rattle.std.specs.Result.{IsErrAnd, IfErr}
use Rattle.std.proofs.lemmas.Result.{err_from_is_err_and}
use Rattle.lucy_word.specs.Limits.{limit_number}
use Rattle.lucy_word.specs.declared.limit.Limit.TheVariants as limit
use Rattle.lucy_tree.specs.declared.program.Program.{Program}
use Rattle.lucy_tree.specs.View.{ProgramTree}
use Rattle.lucy_token.specs.declared.token.Token.{Token}
use Rattle.lucy_token.specs.declared.stop.Stop.{Stop}
use Rattle.lucy_token.specs.declared.stop.Stop.TheVariants.{End, Fault}
use Rattle.lucy_token.specs.declared.stop.SyntaxError.{SyntaxError}
use Rattle.lucy_token.specs.declared.stop.SyntaxError.TheVariants.{OutOfMemory}
use Rattle.lucy_token.specs.Cuts.{Cuts}
use Rattle.lucy_grammar.specs.Programs.{IsProgram, BeginsProgram, IsFirstUnfit}
use Rattle.lucy_grammar.specs.Texts.{HasTree, IsRefused, error_at}
use Rattle.lucy_grammar.specs.Why.{IsWholeProgram, IsWhy}
use Rattle.lucy_grammar.proofs.TextLaws.{begins_whole, one_error, tree_or_error, unfit_text}

-- no program stops where no program is
none_there : (ts : List Token) (stop : Stop) → ((p : ProgramTree) → IsProgram ts p → ⊥) → (p : ProgramTree) → IsWholeProgram ts stop p → ⊥
none_there ts (End n) none p h = none p h
none_there ts (Fault e) none p h = h

pub refused_at : (ts rest : List Token) (stop : Stop) → IsFirstUnfit ts rest → IsWhy ts stop (error_at rest stop)
refused_at ts [] stop u = inr (record {
  fits = subst BeginsProgram (sym (u.whole ∙ append-nil u.front)) u.fits;
  none = none_there ts stop u.none;
  error = refl;
})
refused_at ts (t ∷ more) stop u = inl (record {
  front = u.front;
  at = t;
  more = more;
  whole = u.whole;
  fits = u.fits;
  stops = u.stops t more refl;
  error = refl;
})

-- a program, and then a fault
pub refused_behind : (ts : List Token) (stop : Stop) (e : SyntaxError) (p : ProgramTree) → stop ≡ Fault e → IsProgram ts p → IsWhy ts stop e
refused_behind ts stop e p is h = inr (record {
  fits = begins_whole ts p h;
  none = λ q k. (let P : Stop → Type 0 = λ s. IsWholeProgram ts s q in subst P is k);
  error = sym (ap (λ s. error_at [] s) is);
})

-- an error that a text is refused with is the one that it is answered with
pub rejected_so : (text : List ℕ) (ts : List Token) (stop : Stop) (x e : SyntaxError) (r : Result Program SyntaxError) → length text ≤ limit_number limit.Text → Cuts 0 [] text ts stop →
    IsErrAnd r (λ y. y ≡ x) → (x ≡ OutOfMemory) ⊎ IsWhy ts stop x → IsRefused text e → (r ≡ Err OutOfMemory) ⊎ (r ≡ Err e)
rejected_so text ts stop x e r short cut i (inl none) h =
    let p = err_from_is_err_and r i in
    inl (p.1 ∙ ap Err (p.2 ∙ none))
rejected_so text ts stop x e r short cut i (inr why) h =
    let p = err_from_is_err_and r i in
    let mine : IsRefused text x = inr (unfit_text text ts stop x short cut why) in
    inr (p.1 ∙ ap Err (p.2 ∙ one_error text x e mine h))

-- what is answered is want of memory, or an error that the text is refused with
pub refused_so : (text : List ℕ) (ts : List Token) (stop : Stop) (x : SyntaxError) (r : Result Program SyntaxError) → length text ≤ limit_number limit.Text →
    Cuts 0 [] text ts stop → IsErrAnd r (λ y. y ≡ x) → (x ≡ OutOfMemory) ⊎ IsWhy ts stop x → IfErr r (λ e. (e ≡ OutOfMemory) ⊎ IsRefused text e)
refused_so text ts stop x r short cut i why =
    let p = err_from_is_err_and r i in
    subst (λ (s : Result Program SyntaxError). IfErr s (λ e. (e ≡ OutOfMemory) ⊎ IsRefused text e)) (sym (p.1 ∙ ap Err p.2)) (told why)
  where
    told : (x ≡ OutOfMemory) ⊎ IsWhy ts stop x → (x ≡ OutOfMemory) ⊎ IsRefused text x
    told (inl none) = inl none
    told (inr w) = inr (inr (unfit_text text ts stop x short cut w))

-- and no text with a tree is
pub accepted_so : (text : List ℕ) (ts : List Token) (stop : Stop) (x : SyntaxError) (p : ProgramTree) (r : Result Program SyntaxError) (A : Type 0) → length text ≤ limit_number limit.Text → Cuts 0 [] text ts stop →
    IsErrAnd r (λ y. y ≡ x) → (x ≡ OutOfMemory) ⊎ IsWhy ts stop x → HasTree text p → (r ≡ Err OutOfMemory) ⊎ A
accepted_so text ts stop x p r A short cut i (inl none) h =
    let q = err_from_is_err_and r i in
    inl (q.1 ∙ ap Err (q.2 ∙ none))
accepted_so text ts stop x p r A short cut i (inr why) h =
    absurd (tree_or_error text p x h (inr (unfit_text text ts stop x short cut why)))
