-- A program's tokens are the printed ones but for parentheses.
use Rattle.std.proofs.Common.{ℕ, zero, suc, ◌≡◌, List, [], ◌∷◌, ◌++◌, Some, map, refl, ap, sym, ◌∙◌, subst, append_assoc}
use Rattle.std.proofs.lemmas.List.{append-nil, map-append}
use Rattle.std.specs.List.{slice_get}
use Rattle.lucy_tree.specs.View.{ProgramTree}
use Rattle.lucy_token.specs.declared.token.Kind.{Kind}
use Rattle.lucy_token.specs.declared.token.Kind.TheVariants as kind
use Rattle.lucy_token.specs.declared.token.What.{What}
use Rattle.lucy_token.specs.declared.token.What.TheVariants as what
use Rattle.lucy_token.specs.declared.token.Token.{Token}
use Rattle.lucy_token.specs.Tokens.{kind_of}
use Rattle.lucy_token.specs.Printed.{whats_of}
use Rattle.lucy_grammar.specs.Symbols.{Sym, token, part, many, perhaps, Rule, Part, Program}
use Rattle.lucy_grammar.specs.Grammar.{rules}
use Rattle.lucy_grammar.specs.Deriving.{Deriv, done, take, by_rule, enough, again, absent, present, spelled, value}
use Rattle.lucy_grammar.specs.Programs.{IsProgram}
use Rattle.lucy_grammar.specs.Parens.{kept, without_parens}
use Rattle.lucy_grammar.specs.PrintTokens.{printed_program}
use Rattle.lucy_grammar.specs.Printable.{Anywhere}
use Rattle.lucy_grammar.specs.Kinds.{sort_kind}
use Rattle.lucy_grammar.proofs.Deriving.{derived}
use Rattle.lucy_grammar.proofs.Numbers.{fits_kind}
use Rattle.lucy_grammar.proofs.PrintableLaws.{goods, all_stand}
use Rattle.lucy_grammar.proofs.Cores.{core, without-append, flat, token_of, all_flat, flats}
use Rattle.lucy_grammar.proofs.CoreRules.{IsFlat, AreFlat, all_are_flat}

flat_in : (X : Part) (ps : List (Rule X)) (i : ℕ) (p : Rule X) → AreFlat X ps → slice_get ps i ≡ Some p → IsFlat X p
flat_in X [] i p h e = absurd cc
flat_in X (q ∷ ps) zero p h e =
    let same : q ≡ p = cc in
    subst (λ (r : Rule X). IsFlat X r) same h.0
flat_in X (q ∷ ps) (suc i) p h e = flat_in X ps i p h.1 e

own_token : (w : What) → kept w ≡ token_of (kind_of w) w
own_token (what.Mark m) = refl
own_token (what.Name bytes) = refl
own_token (what.Number n) = refl
own_token (what.Word w) = refl

-- tokens but for parentheses
abbrev pub core_of : List Token → List What
core_of ts = without_parens (map (λ t. t.what) ts)

core_of-append : (a b : List Token) → core_of (a ++ b) ≡ core_of a ++ core_of b
core_of-append a b = ap without_parens (map-append (λ t. t.what) a b) ∙ without-append (map (λ t. t.what) a) (map (λ t. t.what) b)

flats_are : (syms : List Sym) (d : Deriv syms) → core_of (spelled d) ≡ flats syms (value d)
flats_are [] done = refl
flats_are (token s ∷ syms) (take t e d) =
    let k : Kind = sort_kind s in
    let one : kept t.what ≡ token_of k t.what = subst (λ (j : Kind). kept t.what ≡ token_of j t.what) (fits_kind s t.what e) (own_token t.what) in
    ap (λ u. u ++ core_of (spelled d)) one ∙ ap (λ u. token_of k t.what ++ u) (flats_are syms d)
flats_are (part X ∷ syms) (by_rule i p m a b) =
    let one : core_of (spelled a) ≡ flat X (p.meaning (value a)) =
    flats_are p.syms a ∙ sym (flat_in X (rules X) i p (all_are_flat X) m kind.End (value a) (goods Anywhere kind.End p.syms a (all_stand kind.End (spelled a)))) in
    core_of-append (spelled a) (spelled b) ∙ ap (λ u. u ++ core_of (spelled b)) one ∙ ap (λ u. flat X (p.meaning (value a)) ++ u) (flats_are syms b)
flats_are (many X ∷ syms) (enough b) = flats_are syms b
flats_are (many X ∷ syms) (again i p m a b) =
    let one : core_of (spelled a) ≡ flat X (p.meaning (value a)) =
    flats_are p.syms a ∙ sym (flat_in X (rules X) i p (all_are_flat X) m kind.End (value a) (goods Anywhere kind.End p.syms a (all_stand kind.End (spelled a)))) in
    core_of-append (spelled a) (spelled b) ∙ ap (λ u. u ++ core_of (spelled b)) one ∙ ap (λ u. flat X (p.meaning (value a)) ++ u) (flats_are (many X ∷ syms) b)
    ∙ sym (append_assoc (flat X (p.meaning (value a))) (all_flat (flat X) (value b).0) (flats syms (value b).1))
flats_are (perhaps X ∷ syms) (absent b) = flats_are syms b
flats_are (perhaps X ∷ syms) (present i p m a b) =
    let one : core_of (spelled a) ≡ flat X (p.meaning (value a)) =
    flats_are p.syms a ∙ sym (flat_in X (rules X) i p (all_are_flat X) m kind.End (value a) (goods Anywhere kind.End p.syms a (all_stand kind.End (spelled a)))) in
    core_of-append (spelled a) (spelled b) ∙ ap (λ u. u ++ core_of (spelled b)) one ∙ ap (λ u. flat X (p.meaning (value a)) ++ u) (flats_are syms b)

pub same_core : (ts : List Token) (p : ProgramTree) → IsProgram ts p → without_parens (map (λ t. t.what) ts) ≡ without_parens (whats_of (printed_program p))
same_core ts p h =
    let d = derived h in
    ap core_of (sym d.1) ∙ flats_are (part Program ∷ []) d.0 ∙ append-nil (core (printed_program (value d.0).0)) ∙ ap (λ (u : ProgramTree × Unit {0}). core (printed_program u.0)) d.2
