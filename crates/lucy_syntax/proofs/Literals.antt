-- A literal, and what it is behind `buffer`.
use Rattle.std.proofs.Common.{ℕ, ◌≡◌, Bool, true, false, List, [], ◌∷◌, refl, sym, subst, inl, inr, ◌⊎◌}
use Rattle.lucy_tree.specs.declared.expr.Lit.{Lit}
use Rattle.lucy_tree.specs.declared.expr.Lit.TheVariants as lit
use Rattle.lucy_tree.specs.declared.span.Span.{Span}
use Rattle.lucy_token.specs.declared.mark.Mark.TheVariants as mark
use Rattle.lucy_token.specs.declared.token.Kind.TheVariants as kind
use Rattle.lucy_token.specs.declared.token.Token.{Token}
use Rattle.lucy_token.specs.Tokens.{first}
use Rattle.lucy_grammar.specs.Symbols.{Part}
use Rattle.lucy_grammar.specs.Kinds.{ahead, is_bound, unbound}
use Rattle.lucy_grammar.specs.Sets.{within}
use Rattle.lucy_grammar.specs.Meanings.{token_literal}
use Rattle.lucy_grammar.specs.Reading.{begins, Begins, IsBegun, Reads}
use Rattle.lucy_grammar.proofs.Numbers.{IsNone, is_in, not_in, fits_number}
use Rattle.lucy_grammar.proofs.Sets.{within_subset}
use Rattle.lucy_grammar.proofs.Steps.{as_value}
use Rattle.lucy_grammar.proofs.LeafProductions as by
use Rattle.lucy_syntax.specs.Refusals.{IsLiteral}
use Rattle.lucy_syntax.proofs.Facts.{pair_of, is_first}

pub by_true : {ts rest : List Token} {t : Token} {span : Span} → Begins ts t (kind.Mark mark.True) rest → span ≡ t.span → IsLiteral ts (lit.Bool true, span) rest
unfolding begins
by_true {ts = ts} b e = record {
  begun = is_in ts (begins Part.Lit) (is_first b) refl;
  reads = as_value (pair_of refl e) (by.lit_true b);
  sort = inr (is_in ts (begins Part.Other) (is_first b) refl, as_value (pair_of refl e) (by.other_true b));
}

pub by_false : {ts rest : List Token} {t : Token} {span : Span} → Begins ts t (kind.Mark mark.False) rest → span ≡ t.span → IsLiteral ts (lit.Bool false, span) rest
unfolding begins
by_false {ts = ts} b e = record {
  begun = is_in ts (begins Part.Lit) (is_first b) refl;
  reads = as_value (pair_of refl e) (by.lit_false b);
  sort = inr (is_in ts (begins Part.Other) (is_first b) refl, as_value (pair_of refl e) (by.other_false b));
}

-- a number that is no bound begins another literal
other_begun : {ts rest : List Token} {t : Token} → Begins ts t kind.Number rest → is_bound t.what ≡ false → IsBegun Part.Other ts
unfolding begins
other_begun {ts = ts} {t = t} b is =
    let at : within (ahead ts) (2 ∷ []) ≡ true = subst (λ (u : List Token). within (ahead u) (2 ∷ []) ≡ true) (sym b.0) (fits_number unbound t.what (b.1, is)) in
    within_subset (2 ∷ []) (begins Part.Other) (ahead ts) refl at

pub by_number : {ts rest : List Token} {t : Token} {l : Lit × Span} → Begins ts t kind.Number rest → l.0 ≡ token_literal t.what → l.1 ≡ t.span → IsLiteral ts l rest
unfolding begins
by_number {ts = ts} {rest = rest} {t = t} {l = l} b e f = record {
  begun = is_in ts (begins Part.Lit) (is_first b) refl;
  reads = as_value (pair_of e f) (by.lit_number b);
  sort = go (is_bound t.what) refl;
}
  where
    go : (x : Bool) → is_bound t.what ≡ x → ((u : Token) × (ts ≡ u ∷ rest) × (is_bound u.what ≡ true) × (l ≡ (token_literal u.what, u.span))) ⊎ (IsBegun Part.Other ts × Reads Part.Other ts l rest)
    go true is = inl (t, b.0, is, pair_of e f)
    go false is = inr (other_begun b is, as_value (pair_of e f) (by.other_number b is))

pub no_literal : (ts : List Token) → IsNone (first ts) (kind.Number ∷ kind.Mark mark.True ∷ kind.Mark mark.False ∷ []) → IsBegun Part.Lit ts → ⊥
unfolding begins
no_literal ts n = not_in ts (kind.Number ∷ kind.Mark mark.True ∷ kind.Mark mark.False ∷ []) n
