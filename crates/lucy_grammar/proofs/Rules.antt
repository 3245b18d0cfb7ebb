-- A production, chosen by the first token.
use Rattle.std.proofs.Common.{ℕ, zero, suc, ◌≡◌, true, List, [], ◌∷◌, ◌++◌, Some, refl, ap, sym, ◌∙◌, subst}
use Rattle.std.proofs.lemmas.List.{append-nil}
use Rattle.std.specs.List.{slice_get}
use Rattle.lucy_token.specs.declared.token.Token.{Token}
use Rattle.lucy_grammar.specs.Sets.{within}
use Rattle.lucy_grammar.specs.Kinds.{ahead}
use Rattle.lucy_grammar.specs.Symbols.{Part, part, Rule, Vals}
use Rattle.lucy_grammar.specs.Grammar.{rules}
use Rattle.lucy_grammar.specs.Deriving.{Deriv, done, by_rule, spelled, value}
use Rattle.lucy_grammar.specs.Reading.{begins, Follows, Takes, BreaksAt}
use Rattle.lucy_grammar.proofs.Sets.{within_subset}
use Rattle.lucy_grammar.proofs.Table.{look, rule_good, rule_alone}
use Rattle.lucy_grammar.proofs.Completions.{some_part}
use Rattle.lucy_grammar.proofs.Ahead.{ahead_append, first_fits}

-- no other production fits the kind
abbrev pub Alone : (X : Part) → Rule X → ℕ → Type 0
Alone X p k = (j : ℕ) (q : Rule X) → slice_get (rules X) j ≡ Some q → within k (look X q.syms) ≡ true → q ≡ p

pub by_first : (X : Part) (i : ℕ) (p : Rule X) (k : ℕ) → slice_get (rules X) i ≡ Some p → within k (look X p.syms) ≡ true → Alone X p k
by_first X i p k e l j q f m = rule_alone X j i q p k f e m l

-- the kind begins none of the productions
abbrev pub NoneFits : (X : Part) → ℕ → List (Rule X) → Type 0
NoneFits X k [] = Unit {0}
NoneFits X k (q ∷ ps) = (within k (look X q.syms) ≡ true → ⊥) × NoneFits X k ps

none_fits : (X : Part) (k : ℕ) (ps : List (Rule X)) (j : ℕ) (q : Rule X) → NoneFits X k ps → slice_get ps j ≡ Some q → within k (look X q.syms) ≡ true → ⊥
none_fits X k [] j q n f m = absurd cc
none_fits X k (r ∷ ps) zero q n f m =
    let same : r ≡ q = cc in
    n.0 (subst (λ (s : Rule X). within k (look X s.syms) ≡ true) (sym same) m)
none_fits X k (r ∷ ps) (suc j) q n f m = none_fits X k ps j q n.1 f m

-- the kind begins none of the productions but the one at this place
abbrev pub Others : (X : Part) → ℕ → List (Rule X) → ℕ → Type 0
Others X k [] i = Unit {0}
Others X k (q ∷ ps) zero = NoneFits X k ps
Others X k (q ∷ ps) (suc i) = (within k (look X q.syms) ≡ true → ⊥) × Others X k ps i

by_others_in : (X : Part) (k : ℕ) (ps : List (Rule X)) (i : ℕ) (p : Rule X) → slice_get ps i ≡ Some p → Others X k ps i →
    (j : ℕ) (q : Rule X) → slice_get ps j ≡ Some q → within k (look X q.syms) ≡ true → q ≡ p
by_others_in X k [] i p e o j q f m = absurd cc
by_others_in X k (r ∷ ps) zero p e o zero q f m = cc
by_others_in X k (r ∷ ps) zero p e o (suc j) q f m = absurd (none_fits X k ps j q o f m)
by_others_in X k (r ∷ ps) (suc i) p e o zero q f m =
    let same : r ≡ q = cc in
    absurd (o.0 (subst (λ (s : Rule X). within k (look X s.syms) ≡ true) (sym same) m))
by_others_in X k (r ∷ ps) (suc i) p e o (suc j) q f m = by_others_in X k ps i p e o.1 j q f m

pub by_others : (X : Part) (i : ℕ) (p : Rule X) (k : ℕ) → slice_get (rules X) i ≡ Some p → Others X k (rules X) i → Alone X p k
by_others X i p k e o j q f m = by_others_in X k (rules X) i p e o j q f m

-- a production is chosen by the first token
record Chosen (X : Part) (d : Deriv (part X ∷ [])) : Type 0 where
  place : ℕ
  rule : Rule X
  there : slice_get (rules X) place ≡ Some rule
  inner : Deriv rule.syms
  spells : spelled d ≡ spelled inner
  means : value d ≡ (rule.meaning (value inner), tt)

chosen : (X : Part) (d : Deriv (part X ∷ [])) → Chosen X d
chosen X (by_rule i p e a done) = record { place = i; rule = p; there = e; inner = a; spells = append-nil (spelled a); means = refl }

-- the only production of a part
pub only_one : (X : Part) (p : Rule X) (k : ℕ) → rules X ≡ p ∷ [] → Alone X p k
only_one X p k e =
    let at : slice_get (rules X) 0 ≡ Some p = ap (λ (ps : List (Rule X)). slice_get ps 0) e in
    by_others X 0 p k at (subst (λ (ps : List (Rule X)). Others X k ps 0) (sym e) tt)

-- the production of any derivation whose tokens begin like these is this one
the_rule : (X : Part) (i : ℕ) (p : Rule X) (ts front rest z : List Token) → slice_get (rules X) i ≡ Some p → Alone X p (ahead ts) → ts ≡ front ++ rest → ahead z ≡ ahead rest →
    (d : Deriv (part X ∷ [])) (tail : List Token) → Follows X tail → front ++ z ≡ spelled d ++ tail → (a : Deriv p.syms) × (spelled d ≡ spelled a) × (value d ≡ (p.meaning (value a), tt))
the_rule X i p ts front rest z e l whole s d tail f same =
    let c = chosen X d in
    let near : ahead ts ≡ ahead (spelled c.inner ++ tail) = ap ahead whole ∙ sym (ahead_append front z rest s) ∙ ap ahead same ∙ ap (λ u. ahead (u ++ tail)) c.spells in
    let fits : within (ahead (spelled c.inner ++ tail)) (look X c.rule.syms) ≡ true = first_fits X c.rule.syms (rule_good X c.place c.rule c.there).0 c.inner tail f in
    let fits' : within (ahead ts) (look X c.rule.syms) ≡ true = subst (λ (n : ℕ). within n (look X c.rule.syms) ≡ true) (sym near) fits in
    let one : c.rule ≡ p = l c.place c.rule c.there fits' in
    let P : Rule X → Type 0 = λ q. (a : Deriv q.syms) × (spelled d ≡ spelled a) × (value d ≡ (q.meaning (value a), tt)) in
    subst P one (c.inner, c.spells, c.means)

pub rule_taken : (X : Part) (i : ℕ) (p : Rule X) (ts : List Token) (vs : Vals p.syms) (rest : List Token) → slice_get (rules X) i ≡ Some p → Alone X p (ahead ts) →
    Takes X p.syms ts vs rest → Takes X (part X ∷ []) ts (p.meaning vs, tt) rest
rule_taken X i p ts vs rest e l r = record {
  front = r.front;
  whole = r.whole;
  deriv = by_rule i p e r.deriv done;
  spells = append-nil (spelled r.deriv) ∙ r.spells;
  means = ap (λ (u : Vals p.syms). (p.meaning u, tt)) r.means;
  only = λ z s d tail f same.
      let c = the_rule X i p ts r.front rest z e l r.whole s d tail f same in
      let one = r.only z s c.0 tail f (same ∙ ap (λ u. u ++ tail) c.1) in
      (c.2 ∙ ap (λ (u : Vals p.syms). (p.meaning u, tt)) one.0, one.1);
}

pub rule_refused : (X : Part) (i : ℕ) (p : Rule X) (ts rest : List Token) → slice_get (rules X) i ≡ Some p → Alone X p (ahead ts) →
    BreaksAt X p.syms ts rest → BreaksAt X (part X ∷ []) ts rest
rule_refused X i p ts rest e l r = record {
  front = r.front;
  whole = r.whole;
  completes = (by_rule i p e r.completes.0 done, r.completes.1, append-nil (spelled r.completes.0) ∙ r.completes.2);
  never = λ z s d tail f same.
      let c = the_rule X i p ts r.front rest z e l r.whole s d tail f same in
      r.never z s c.0 tail f (same ∙ ap (λ u. u ++ tail) c.1);
}

-- no production fits the first token
pub no_rule : (X : Part) (ts : List Token) → (within (ahead ts) (begins X) ≡ true → ⊥) → BreaksAt X (part X ∷ []) ts ts
no_rule X ts unfit = record {
  front = [];
  whole = refl;
  completes = (some_part X, spelled (some_part X), refl);
  never = λ z s d tail f same.
      let c = chosen X d in
      let r = rule_good X c.place c.rule c.there in
      let near : ahead ts ≡ ahead (spelled c.inner ++ tail) = sym s ∙ ap ahead same ∙ ap (λ u. ahead (u ++ tail)) c.spells in
      let fits : within (ahead (spelled c.inner ++ tail)) (look X c.rule.syms) ≡ true = first_fits X c.rule.syms r.0 c.inner tail f in
      let all : within (ahead (spelled c.inner ++ tail)) (begins X) ≡ true = within_subset (look X c.rule.syms) (begins X) _ r.1 fits in
      unfit (subst (λ (n : ℕ). within n (begins X) ≡ true) (sym near) all);
}
