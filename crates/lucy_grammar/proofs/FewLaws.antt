-- The lists of a program that was read have no more entries than they may have.
use Rattle.std.proofs.Common.{ℕ, zero, suc, ◌≡◌, false, List, [], ◌∷◌, ◌++◌, Some, refl, sym, ◌∙◌, subst, append_assoc}
use Rattle.std.proofs.lemmas.List.{append-nil}
use Rattle.std.specs.List.{AllByRecursion}
use Rattle.std.specs.List.{slice_get}
use Rattle.lucy_tree.specs.View.{ProgramTree}
use Rattle.lucy_token.specs.declared.token.Kind.{Kind}
use Rattle.lucy_token.specs.declared.token.Token.{Token}
use Rattle.lucy_token.specs.States.{ScanState, after, is_past_last}
use Rattle.lucy_grammar.specs.Symbols.{Sym, token, part, many, perhaps, Rule, Part, Program}
use Rattle.lucy_grammar.specs.Grammar.{rules}
use Rattle.lucy_grammar.specs.Deriving.{Deriv, done, take, by_rule, enough, again, absent, present, spelled, value}
use Rattle.lucy_grammar.specs.Programs.{IsProgram}
use Rattle.lucy_grammar.specs.Kinds.{sort_kind}
use Rattle.lucy_grammar.proofs.Deriving.{derived}
use Rattle.lucy_grammar.proofs.Numbers.{fits_kind}
use Rattle.lucy_grammar.proofs.CutLimits.{AllPass}
use Rattle.lucy_grammar.proofs.FewEntries.{IsFewNode, Spec, Behind, Makes, AllMake}
use Rattle.lucy_grammar.proofs.FewRules.{all_make}

makes_in : (X : Part) (ps : List (Rule X)) (i : ℕ) (p : Rule X) → AllMake X ps → slice_get ps i ≡ Some p → Makes X p
makes_in X [] i p h e = absurd cc
makes_in X (q ∷ ps) zero p h e =
    let same : q ≡ p = cc in
    subst (λ (r : Rule X). Makes X r) same h.0
makes_in X (q ∷ ps) (suc i) p h e = makes_in X ps i p h.1 e

-- the tokens of a production, and of what follows it
both : (s : ScanState) (a b rest : List Token) → AllPass s ((a ++ b) ++ rest) → AllPass s (a ++ (b ++ rest))
both s a b rest h = subst (AllPass s) (append_assoc a b rest) h

-- a derivation in a text with no fault goes from a state to one behind it
reads : (syms : List Sym) (d : Deriv syms) (s : ScanState) (rest : List Token) → AllPass s (spelled d ++ rest) → (K : ScanState → Type 0) → Behind syms s (value d) K → (j : ScanState) × K j × AllPass j rest
reads [] done s rest h K w = (s, w, h)
reads (token i ∷ syms) (take t e d) s rest h K w =
    let k : Kind = sort_kind i in
    let P : Kind → Type 0 = λ j. (is_past_last s j ≡ false) × AllPass (after s j) (spelled d ++ rest) in
    let at : P k = subst P (fits_kind i t.what e) (h.1, h.2) in
    reads syms d (after s k) rest at.1 K (w at.0)
reads (part X ∷ syms) (by_rule i p m a b) s rest h K w =
    let r = reads p.syms a s (spelled b ++ rest) (both s (spelled a) (spelled b) rest h) (λ j. Spec X s (p.meaning (value a)) j) (makes_in X (rules X) i p (all_make X) m s (value a)) in
    reads syms b r.0 rest r.2 K (w r.0 r.1)
reads (many X ∷ syms) (enough b) s rest h K w = reads syms b s rest h K (w s refl)
reads (many X ∷ syms) (again i p m a b) s rest h K w =
    let r = reads p.syms a s (spelled b ++ rest) (both s (spelled a) (spelled b) rest h) (λ j. Spec X s (p.meaning (value a)) j) (makes_in X (rules X) i p (all_make X) m s (value a)) in
    reads (many X ∷ syms) b r.0 rest r.2 K (λ j c. w j (r.0, r.1, c))
reads (perhaps X ∷ syms) (absent b) s rest h K w = reads syms b s rest h K (w s refl)
reads (perhaps X ∷ syms) (present i p m a b) s rest h K w =
    let r = reads p.syms a s (spelled b ++ rest) (both s (spelled a) (spelled b) rest h) (λ j. Spec X s (p.meaning (value a)) j) (makes_in X (rules X) i p (all_make X) m s (value a)) in
    reads syms b r.0 rest r.2 K (w r.0 r.1)

pub few_entries : (s : ScanState) (ts : List Token) (p : ProgramTree) → IsProgram ts p → AllPass s ts → AllByRecursion IsFewNode p
few_entries s ts p program h =
    let d = derived program in
    let all : AllPass s (spelled d.0 ++ []) = subst (AllPass s) (sym (append-nil (spelled d.0) ∙ d.1)) h in
    let r = reads (part Program ∷ []) d.0 s [] all (λ j. AllByRecursion IsFewNode (value d.0).0) (λ j x. x) in
    subst (λ (v : ProgramTree × Unit {0}). AllByRecursion IsFewNode v.0) d.2 r.1
