-- A text has one answer: one tree, or one error, and never neither.
use Rattle.std.proofs.Common.{ℕ, ◌≡◌, ◌≤◌, ◌⊎◌, inl, inr, List, [], ◌∷◌, ◌++◌, length, refl, ap, sym, ◌∙◌, subst, arith, append_assoc}
use Rattle.std.proofs.lemmas.List.{append-nil}
use Rattle.lucy_tree.specs.View.{ProgramTree}
use Rattle.lucy_token.specs.declared.token.Token.{Token}
use Rattle.lucy_token.specs.declared.stop.Stop.{Stop}
use Rattle.lucy_token.specs.declared.stop.Stop.TheVariants.{End, Fault}
use Rattle.lucy_token.specs.declared.stop.SyntaxError.{SyntaxError}
use Rattle.lucy_token.specs.declared.stop.SyntaxError.TheVariants.{Unexpected, TooLarge}
use Rattle.lucy_word.specs.Limits.{limit_number}
use Rattle.lucy_word.specs.declared.limit.Limit.TheVariants as limit
use Rattle.lucy_token.specs.Cuts.{Cuts}
use Rattle.lucy_token.proofs.OneCut.{one_cut}
use Rattle.lucy_token.proofs.SomeCut.{no_third, some_cut}
use Rattle.lucy_grammar.specs.Symbols.{part, Program, Vals}
use Rattle.lucy_grammar.specs.Deriving.{value, spelled}
use Rattle.lucy_grammar.specs.Programs.{IsProgram, BeginsProgram}
use Rattle.lucy_grammar.specs.Texts.{HasTree, IsUnfitText, IsRefused, error_at}
use Rattle.lucy_grammar.specs.Why.{IsUnexpected, IsWholeProgram, IsWhy}
use Rattle.lucy_grammar.proofs.Deriving.{of_derivation}
use Rattle.lucy_grammar.proofs.Completions.{some_part}
use Rattle.lucy_grammar.proofs.Whole.{one_tree, front_begins, Longer, compared}

pub begins_whole : (ts : List Token) (p : ProgramTree) → IsProgram ts p → BeginsProgram ts
begins_whole ts p h = (p, [], (let P : List Token → Type 0 = λ u. IsProgram u p in subst P (sym (append-nil ts)) h))

-- a text whose tokens are a program has a tree
pub has_tree : (text : List ℕ) (ts : List Token) (stop : Stop) (p : ProgramTree) → length text ≤ limit_number limit.Text → Cuts 0 [] text ts stop → IsWholeProgram ts stop p → HasTree text p
has_tree text ts (End n) p short cut h = record { short = short; tokens = ts; end = n; cut = cut; program = h }
has_tree text ts (Fault e) p short cut h = absurd h

pub one_program : (text : List ℕ) (p q : ProgramTree) → HasTree text p → HasTree text q → p ≡ q
one_program text p q a b =
    let same : a.tokens ≡ b.tokens = (one_cut a.cut b.cut).0 in
    let P : List Token → Type 0 = λ u. IsProgram u q in
    one_tree a.tokens p q a.program (subst P (sym same) b.program)

-- of two first tokens that don't fit neither stands behind the other
not_behind : (ts : List Token) (e f : SyntaxError) (a : IsUnexpected ts e) (b : IsUnexpected ts f) → Longer a.front (a.at ∷ a.more) b.front (b.at ∷ b.more) → ⊥
not_behind ts e f a b c =
    let same : c.token ≡ a.at = cc in
    let fits : BeginsProgram (a.front ++ c.token ∷ c.more) = subst BeginsProgram c.longer b.fits in
    let apart' : BeginsProgram ((a.front ++ c.token ∷ []) ++ c.more) = subst BeginsProgram (sym (append_assoc a.front (c.token ∷ []) c.more)) fits in
    let P : Token → Type 0 = λ t. BeginsProgram (a.front ++ t ∷ []) in
    a.stops (subst P same (front_begins (a.front ++ c.token ∷ []) c.more apart'))

one_token : (ts : List Token) (e f : SyntaxError) (a : IsUnexpected ts e) (b : IsUnexpected ts f) → a.at ≡ b.at
one_token ts e f a b =
    elim (compared a.front (a.at ∷ a.more) b.front (b.at ∷ b.more) (sym a.whole ∙ b.whole)) [
      | inl same ↦ head_of same
      | inr (inl c) ↦ absurd (not_behind ts e f a b c)
      | inr (inr c) ↦ absurd (not_behind ts f e b a c)
    ]
  where
    head_of : {t u : Token} {x y : List Token} → t ∷ x ≡ u ∷ y → t ≡ u
    head_of h = cc

unexpected_one : (ts : List Token) (e f : SyntaxError) → IsUnexpected ts e → IsUnexpected ts f → e ≡ f
unexpected_one ts e f a b = a.error ∙ ap (λ (t : Token). Unexpected t.span.from) (one_token ts e f a b) ∙ sym b.error

-- tokens that all begin a program hold none that doesn't fit
never_unexpected : (ts : List Token) (e : SyntaxError) → IsUnexpected ts e → BeginsProgram ts → ⊥
never_unexpected ts e a fits =
    a.stops (front_begins (a.front ++ a.at ∷ []) a.more (subst BeginsProgram (a.whole ∙ sym (append_assoc a.front (a.at ∷ []) a.more)) fits))

one_why : (ts : List Token) (stop : Stop) (e f : SyntaxError) → IsWhy ts stop e → IsWhy ts stop f → e ≡ f
one_why ts stop e f (inl a) (inl b) = unexpected_one ts e f a b
one_why ts stop e f (inl a) (inr b) = absurd (never_unexpected ts e a b.fits)
one_why ts stop e f (inr a) (inl b) = absurd (never_unexpected ts f b a.fits)
one_why ts stop e f (inr a) (inr b) = a.error ∙ sym b.error

-- a text that is refused is so for its tokens
why_of : (text : List ℕ) (e : SyntaxError) (u : IsUnfitText text e) → IsWhy (u.front ++ u.rest) u.stop e
why_of text e u = by_rest u.rest refl
  where
    by_rest : (rest : List Token) → rest ≡ u.rest → IsWhy (u.front ++ u.rest) u.stop e
    by_rest [] is =
        let whole : u.front ≡ u.front ++ u.rest = sym (append-nil u.front) ∙ ap (λ r. u.front ++ r) is in
        inr (record {
          fits = subst BeginsProgram whole u.fits;
          none = λ p h. u.none p (has_tree text (u.front ++ u.rest) u.stop p u.short u.cut h);
          error = u.error ∙ ap (λ r. error_at r u.stop) (sym is);
        })
    by_rest (t ∷ more) is = inl (record {
      front = u.front;
      at = t;
      more = more;
      whole = ap (λ r. u.front ++ r) (sym is);
      fits = u.fits;
      stops = u.stops t more (sym is);
      error = u.error ∙ ap (λ r. error_at r u.stop) (sym is);
    })

-- and one whose tokens are refused is refused so
pub unfit_text : (text : List ℕ) (ts : List Token) (stop : Stop) (e : SyntaxError) → length text ≤ limit_number limit.Text → Cuts 0 [] text ts stop → IsWhy ts stop e → IsUnfitText text e
unfit_text text ts stop e short cut (inl a) = record {
  short = short;
  front = a.front;
  rest = a.at ∷ a.more;
  stop = stop;
  cut = subst (λ u. Cuts 0 [] text u stop) a.whole cut;
  fits = a.fits;
  stops = λ t more is b. (let same : a.at ≡ t = head_of is in a.stops (subst (λ u. BeginsProgram (a.front ++ u ∷ [])) (sym same) b));
  none = λ p h. never_unexpected ts e a (begins_whole ts p (subst (λ u. IsProgram u p) (one_cut h.cut cut).0 h.program));
  error = a.error;
}
  where
    head_of : {t u : Token} {x y : List Token} → t ∷ x ≡ u ∷ y → t ≡ u
    head_of h = cc
unfit_text text ts stop e short cut (inr s) = record {
  short = short;
  front = ts;
  rest = [];
  stop = stop;
  cut = subst (λ u. Cuts 0 [] text u stop) (sym (append-nil ts)) cut;
  fits = s.fits;
  stops = λ t more is b. absurd cc;
  none = λ p h. s.none p (subst (λ u. IsWholeProgram ts u p) (one_cut h.cut cut).1 (subst (λ u. IsProgram u p) (one_cut h.cut cut).0 h.program));
  error = s.error;
}

pub one_error : (text : List ℕ) (e f : SyntaxError) → IsRefused text e → IsRefused text f → e ≡ f
one_error text e f (inl a) (inl b) = a.1 ∙ sym b.1
one_error text e f (inl a) (inr b) = absurd (omega (arith, a.0, b.short))
one_error text e f (inr a) (inl b) = absurd (omega (arith, b.0, a.short))
one_error text e f (inr a) (inr b) =
    let same = one_cut a.cut b.cut in
    let P : List Token → Type 0 = λ u. IsWhy u b.stop f in
    let Q : Stop → Type 0 = λ s. IsWhy (a.front ++ a.rest) s f in
    one_why (a.front ++ a.rest) a.stop e f (why_of text e a) (subst Q (sym same.1) (subst P (sym same.0) (why_of text f b)))

pub tree_or_error : (text : List ℕ) (p : ProgramTree) (e : SyntaxError) → HasTree text p → IsRefused text e → ⊥
tree_or_error text p e a (inl b) = omega (arith, a.short, b.0)
tree_or_error text p e a (inr b) = b.none p a

-- no tokens at all begin a program
nothing_begins : BeginsProgram []
nothing_begins =
    let d = some_part Program in
    let whole : (vs : Vals (part Program ∷ [])) → vs ≡ (vs.0, tt) = λ vs. refl in
    ((value d).0, spelled d, of_derivation (d, refl, whole (value d)))

-- behind tokens that begin a program, either all that follow begin one too, or there is a first that doesn't
first_unfit : (stop : Stop) (front back ts : List Token) → ts ≡ front ++ back → BeginsProgram front →
    (BeginsProgram ts → ⊥) → ((e : SyntaxError) → IsWhy ts stop e → ⊥) → ⊥
first_unfit stop front [] ts is fits all none = all (subst BeginsProgram (sym (is ∙ append-nil front)) fits)
first_unfit stop front (t ∷ back) ts is fits all none =
    let next = first_unfit stop (front ++ t ∷ []) back ts (is ∙ sym (append_assoc front (t ∷ []) back)) in
    no_third (BeginsProgram (front ++ t ∷ [])) (λ o. either o next)
  where
    either : (BeginsProgram (front ++ t ∷ [])) ⊎ (BeginsProgram (front ++ t ∷ []) → ⊥) →
        (BeginsProgram (front ++ t ∷ []) → (BeginsProgram ts → ⊥) → ((e : SyntaxError) → IsWhy ts stop e → ⊥) → ⊥) → ⊥
    either (inl h) next = next h all none
    either (inr h) next = none (Unexpected t.span.from) (inl (record { front = front; at = t; more = back; whole = is; fits = fits; stops = h; error = refl }))

-- tokens that stop here are a program, or are refused
some_why : (ts : List Token) (stop : Stop) → ((p : ProgramTree) → IsWholeProgram ts stop p → ⊥) → ((e : SyntaxError) → IsWhy ts stop e → ⊥) → ⊥
some_why ts stop whole none =
    first_unfit stop [] ts ts refl nothing_begins (λ fits. none (error_at [] stop) (inr (record { fits = fits; none = whole; error = refl }))) none

-- no text has neither a tree nor an error
pub some_answer : (text : List ℕ) → ((p : ProgramTree) → HasTree text p → ⊥) → ((e : SyntaxError) → IsRefused text e → ⊥) → ⊥
some_answer text tree error = no_third (length text ≤ limit_number limit.Text) by_length
  where
    by_length : (length text ≤ limit_number limit.Text) ⊎ (length text ≤ limit_number limit.Text → ⊥) → ⊥
    by_length (inr long) = error (TooLarge limit.Text) (inl (omega arith, refl))
    by_length (inl short) = some_cut (length text) 0 [] text (omega arith) (λ ts stop cut.
        some_why ts stop (λ p h. tree p (has_tree text ts stop p short cut h))
        (λ e why. error e (inr (unfit_text text ts stop e short cut why))))
