-- How derivations of printed tokens are put together.
use Rattle.std.proofs.Common.{ℕ, ◌≡◌, List, [], ◌∷◌, ◌++◌, Option, Some, None, map, refl, ap, sym, ◌∙◌, subst}
use Rattle.std.proofs.lemmas.List.{append-nil, map-append}
use Rattle.std.specs.List.{slice_get}
use Rattle.lucy_token.specs.declared.token.Kind.{Kind}
use Rattle.lucy_token.specs.declared.token.What.{What}
use Rattle.lucy_token.specs.declared.token.Token.{Token}
use Rattle.lucy_token.specs.Tokens.{kind_of}
use Rattle.lucy_token.specs.Printed.{Printed, in_print}
use Rattle.lucy_grammar.specs.Symbols.{Part, Sym, token, any, part, many, perhaps, Rule, Val, Vals}
use Rattle.lucy_grammar.specs.Kinds.{Sort, of, Fits}
use Rattle.lucy_grammar.specs.Grammar.{rules}
use Rattle.lucy_grammar.specs.Deriving.{Deriv, done, take, by_rule, enough, absent, spelled, value}
use Rattle.lucy_grammar.specs.PrintTokens.{after}
use Rattle.lucy_grammar.specs.Spans.{nowhere}
use Rattle.lucy_grammar.proofs.Completions.{join}
use Rattle.lucy_grammar.proofs.Tokens.{same_pair}
use Rattle.lucy_grammar.proofs.Forms.{spelled-join, value-join, cons, spelled-cons, value-cons, here, spelled-here, value-here}

-- a printed token, wherever it stands
abbrev pub plain : What → Token
plain w = record { what = w; span = nowhere }

abbrev pub plains : List Printed → List Token
plains ts = map (λ t. plain t.what) ts

-- these printed tokens spell the symbols, which stand for vs
pub record Spells (syms : List Sym) (vs : Vals syms) (ts : List Printed) : Type 0 where
  pub deriv : Deriv syms
  pub spells : spelled deriv ≡ plains ts
  pub means : value deriv ≡ vs

abbrev pub Is : (X : Part) → Val X → List Printed → Type 0
Is X v ts = Spells (part X ∷ []) (v, tt) ts

pub spell_end : Spells [] tt []
spell_end = record { deriv = done; spells = refl; means = refl }

pub spell_sort : (k : Sort) {syms : List Sym} {vs : Vals syms} {ts : List Printed} (blanks : List ℕ) (w : What) → Fits k w → Spells syms vs ts → Spells (token k ∷ syms) (plain w, vs) (in_print blanks w ∷ ts)
spell_sort k {syms = syms} blanks w e s = record { deriv = take (plain w) e s.deriv; spells = ap (λ u. plain w ∷ u) s.spells; means = same_pair Token (Vals syms) _ _ _ _ refl s.means }

pub spell_token : {k : Kind} {syms : List Sym} {vs : Vals syms} {ts : List Printed} (blanks : List ℕ) (w : What) → kind_of w ≡ k → Spells syms vs ts → Spells (any k ∷ syms) (plain w, vs) (in_print blanks w ∷ ts)
spell_token {k = k} blanks w e s = spell_sort (of k) blanks w e s

pub spell_after : {syms : List Sym} {vs : Vals syms} {ts : List Printed} (blanks : List ℕ) → Spells syms vs ts → Spells syms vs (after blanks ts)
spell_after {ts = []} blanks s = s
spell_after {ts = t ∷ ts} blanks s = record { deriv = s.deriv; spells = s.spells; means = s.means }

plains-append : (us ts : List Printed) → plains us ++ plains ts ≡ plains (us ++ ts)
plains-append us ts = sym (map-append (λ t. plain t.what) us ts)

-- a part, one more of a repeat, and a part that is there
pub spell_part : {Y : Part} {v : Val Y} {us : List Printed} {syms : List Sym} {vs : Vals syms} {ts : List Printed} → Is Y v us → Spells syms vs ts → Spells (part Y ∷ syms) (v, vs) (us ++ ts)
spell_part {Y = Y} {v = v} {us = us} {syms = syms} {vs = vs} {ts = ts} r s = record {
  deriv = join r.deriv s.deriv;
  spells = spelled-join Y syms r.deriv s.deriv ∙ ap (λ u. u ++ spelled s.deriv) r.spells ∙ ap (λ u. plains us ++ u) s.spells ∙ plains-append us ts;
  means = value-join Y syms r.deriv s.deriv ∙ same_pair (Val Y) (Vals syms) (value r.deriv).0 v (value s.deriv) vs (ap (λ (u : Val Y × Unit {0}). u.0) r.means) s.means;
}

pub spell_again : {Y : Part} {v : Val Y} {us : List Printed} {syms : List Sym} {vs : List (Val Y)} {ws : Vals syms} {ts : List Printed} →
    Is Y v us → Spells (many Y ∷ syms) (vs, ws) ts → Spells (many Y ∷ syms) (v ∷ vs, ws) (us ++ ts)
spell_again {Y = Y} {v = v} {us = us} {syms = syms} {ts = ts} r s = record {
  deriv = cons Y syms r.deriv s.deriv;
  spells = spelled-cons Y syms r.deriv s.deriv ∙ ap (λ u. u ++ spelled s.deriv) r.spells ∙ ap (λ u. plains us ++ u) s.spells ∙ plains-append us ts;
  means = value-cons Y syms r.deriv s.deriv
      ∙ ap (λ (u : Val Y × Unit {0}). (u.0 ∷ (value s.deriv).0, (value s.deriv).1)) r.means ∙ ap (λ (u : List (Val Y) × Vals syms). (v ∷ u.0, u.1)) s.means;
}

pub spell_there : {Y : Part} {v : Val Y} {us : List Printed} {syms : List Sym} {vs : Vals syms} {ts : List Printed} → Is Y v us → Spells syms vs ts → Spells (perhaps Y ∷ syms) (Some v, vs) (us ++ ts)
spell_there {Y = Y} {v = v} {us = us} {syms = syms} {vs = vs} {ts = ts} r s = record {
  deriv = here Y syms r.deriv s.deriv;
  spells = spelled-here Y syms r.deriv s.deriv ∙ ap (λ u. u ++ spelled s.deriv) r.spells ∙ ap (λ u. plains us ++ u) s.spells ∙ plains-append us ts;
  means = value-here Y syms r.deriv s.deriv ∙ same_pair (Option (Val Y)) (Vals syms) _ _ _ _ (ap (λ (u : Val Y × Unit {0}). Some u.0) r.means) s.means;
}

-- no more of a repeat, and a part that is left out
pub spell_none : {Y : Part} {syms : List Sym} {vs : Vals syms} {ts : List Printed} → Spells syms vs ts → Spells (many Y ∷ syms) ([], vs) ts
spell_none {Y = Y} {syms = syms} s = record { deriv = enough s.deriv; spells = s.spells; means = same_pair (List (Val Y)) (Vals syms) [] [] _ _ refl s.means }

pub spell_out : {Y : Part} {syms : List Sym} {vs : Vals syms} {ts : List Printed} → Spells syms vs ts → Spells (perhaps Y ∷ syms) (None, vs) ts
spell_out {Y = Y} {syms = syms} s = record { deriv = absent s.deriv; spells = s.spells; means = same_pair (Option (Val Y)) (Vals syms) None None _ _ refl s.means }

-- the last symbols of a production
pub spell_once : {Y : Part} {v : Val Y} {us : List Printed} → Is Y v us → Spells (many Y ∷ []) (v ∷ [], tt) us
spell_once {Y = Y} {v = v} {us = us} r = subst (λ (u : List Printed). Spells (many Y ∷ []) (v ∷ [], tt) u) (append-nil us) (spell_again r (spell_none spell_end))

pub spell_given : {Y : Part} {v : Val Y} {us : List Printed} → Is Y v us → Spells (perhaps Y ∷ []) (Some v, tt) us
spell_given {Y = Y} {v = v} {us = us} r = subst (λ (u : List Printed). Spells (perhaps Y ∷ []) (Some v, tt) u) (append-nil us) (spell_there r spell_end)

pub spell_alone : {Y M : Part} {v : Val Y} {us : List Printed} → Is Y v us → Spells (part Y ∷ many M ∷ []) (v, ([], tt)) us
spell_alone {Y = Y} {M = M} {v = v} {us = us} r = subst (λ (u : List Printed). Spells (part Y ∷ many M ∷ []) (v, ([], tt)) u) (append-nil us) (spell_part r (spell_none spell_end))

pub spell_only : {Y M : Part} {v : Val Y} {us : List Printed} → Is Y v us → Spells (part Y ∷ perhaps M ∷ []) (v, (None, tt)) us
spell_only {Y = Y} {M = M} {v = v} {us = us} r = subst (λ (u : List Printed). Spells (part Y ∷ perhaps M ∷ []) (v, (None, tt)) u) (append-nil us) (spell_part r (spell_out spell_end))

-- a part, by a production
pub spell_rule : {X : Part} {p : Rule X} {vs : Vals p.syms} {ts : List Printed} (i : ℕ) → slice_get (rules X) i ≡ Some p → Spells p.syms vs ts → Is X (p.meaning vs) ts
spell_rule {X = X} {p = p} i e s = record { deriv = by_rule i p e s.deriv done; spells = append-nil (spelled s.deriv) ∙ s.spells; means = ap (λ (u : Vals p.syms). (p.meaning u, tt)) s.means }

-- a part alone, at the end
pub spell_alike : {Y : Part} {v : Val Y} {us : List Printed} → Is Y v us → Spells (part Y ∷ []) (v, tt) us
spell_alike r = r
