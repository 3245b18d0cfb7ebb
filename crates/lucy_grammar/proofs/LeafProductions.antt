-- The productions of parts that need no expression, and the kinds with which parts begin, as a descent cites them.
use Rattle.std.proofs.Common.{◌≡◌, true, false, List, [], ◌∷◌, refl, subst, sym}
use Rattle.lucy_tree.specs.declared.expr.Lit.TheVariants as lit
use Rattle.lucy_token.specs.declared.mark.Mark.TheVariants as mark
use Rattle.lucy_token.specs.declared.token.Kind.{Kind}
use Rattle.lucy_token.specs.declared.token.Kind.TheVariants as kind
use Rattle.lucy_token.specs.declared.token.Token.{Token}
use Rattle.lucy_token.specs.Tokens.{first}
use Rattle.lucy_grammar.specs.Kinds.{ahead, kind_numbers, is_bound, unbound}
use Rattle.lucy_grammar.specs.Sets.{within}
use Rattle.lucy_grammar.specs.Symbols.{Part, Node, Body, MoreName, Decls, MoreDecl, Typing, ClockOf, MoreDef, MoreAnd, MoreCmp, Sampling, Other, Lit, Base, MoreExpr}
use Rattle.lucy_grammar.specs.Grammar.{rules}
use Rattle.lucy_grammar.specs.Meanings.{token_literal, token_word}
use Rattle.lucy_grammar.specs.Reading.{follows, begins, Reads, Unfit, IsBegun, Begins, IsOther}
use Rattle.lucy_grammar.proofs.Numbers.{IsNone, ahead_kind, first_in, not_in}
use Rattle.lucy_grammar.proofs.Steps.{end, tok, sort_tok, tok_no, tok_bad, rule, rule_no, led_by, led_sort, others, none}
use Rattle.lucy_grammar.proofs.Sets.{within_subset}

pub base : {ts m1 rest : List Token} {o w : Token} → Begins ts o (kind.Mark mark.At) m1 → Begins m1 w kind.Word rest → Reads Base ts (token_word w.what) rest
unfolding rules follows begins
base {ts = ts} h1 h2 = rule 0 refl (others ts 0 refl tt) (tok h1 (tok h2 (end _)))

pub base_2 : {ts m1 rest : List Token} {o : Token} → Begins ts o (kind.Mark mark.At) m1 → IsOther m1 kind.Word rest → Unfit Base ts rest
unfolding rules follows begins
base_2 {ts = ts} h1 u = rule_no 0 refl (others ts 0 refl tt) (tok_no h1 (tok_bad refl u))

pub when : {ts m1 rest : List Token} {o w : Token} → Begins ts o (kind.Mark mark.When) m1 → Begins m1 w kind.Word rest → Reads Sampling ts (false, token_word w.what) rest
unfolding rules follows begins
when h1 h2 = rule 0 refl (led_by 0 refl refl h1) (tok h1 (tok h2 (end _)))

pub when_2 : {ts m1 rest : List Token} {o : Token} → Begins ts o (kind.Mark mark.When) m1 → IsOther m1 kind.Word rest → Unfit Sampling ts rest
unfolding rules follows begins
when_2 h1 u = rule_no 0 refl (led_by 0 refl refl h1) (tok_no h1 (tok_bad refl u))

pub whenot : {ts m1 rest : List Token} {o w : Token} → Begins ts o (kind.Mark mark.Whenot) m1 → Begins m1 w kind.Word rest → Reads Sampling ts (true, token_word w.what) rest
unfolding rules follows begins
whenot h1 h2 = rule 1 refl (led_by 1 refl refl h1) (tok h1 (tok h2 (end _)))

pub whenot_2 : {ts m1 rest : List Token} {o : Token} → Begins ts o (kind.Mark mark.Whenot) m1 → IsOther m1 kind.Word rest → Unfit Sampling ts rest
unfolding rules follows begins
whenot_2 h1 u = rule_no 1 refl (led_by 1 refl refl h1) (tok_no h1 (tok_bad refl u))

pub lit_true : {ts rest : List Token} {t : Token} → Begins ts t (kind.Mark mark.True) rest → Reads Lit ts (lit.Bool true, t.span) rest
unfolding rules follows begins
lit_true h1 = rule 1 refl (led_by 1 refl refl h1) (tok h1 (end _))

pub lit_false : {ts rest : List Token} {t : Token} → Begins ts t (kind.Mark mark.False) rest → Reads Lit ts (lit.Bool false, t.span) rest
unfolding rules follows begins
lit_false h1 = rule 2 refl (led_by 2 refl refl h1) (tok h1 (end _))

pub lit_number : {ts rest : List Token} {n : Token} → Begins ts n kind.Number rest → Reads Lit ts (token_literal n.what, n.span) rest
unfolding rules follows begins
lit_number h1 = rule 0 refl (led_by 0 refl refl h1) (tok h1 (end _))

-- a literal that is no bound
pub other_true : {ts rest : List Token} {t : Token} → Begins ts t (kind.Mark mark.True) rest → Reads Other ts (lit.Bool true, t.span) rest
unfolding rules follows begins
other_true h1 = rule 1 refl (led_by 1 refl refl h1) (tok h1 (end _))

pub other_false : {ts rest : List Token} {t : Token} → Begins ts t (kind.Mark mark.False) rest → Reads Other ts (lit.Bool false, t.span) rest
unfolding rules follows begins
other_false h1 = rule 2 refl (led_by 2 refl refl h1) (tok h1 (end _))

pub other_number : {ts rest : List Token} {n : Token} → Begins ts n kind.Number rest → is_bound n.what ≡ false → Reads Other ts (token_literal n.what, n.span) rest
unfolding rules follows begins
other_number h1 f = rule 0 refl (led_sort unbound 0 refl refl h1.0 (h1.1, f)) (sort_tok unbound h1.0 (h1.1, f) (end _))

-- a literal, or a sampling, doesn't begin here
pub no_lit : {ts rest : List Token} → rest ≡ ts → IsNone (first ts) (kind.Number ∷ kind.Mark mark.True ∷ kind.Mark mark.False ∷ []) → Unfit Lit ts rest
unfolding begins
no_lit {ts = ts} e h = none e (not_in ts (kind.Number ∷ kind.Mark mark.True ∷ kind.Mark mark.False ∷ []) h)

pub no_sampling : {ts rest : List Token} → rest ≡ ts → IsNone (first ts) (kind.Mark mark.When ∷ kind.Mark mark.Whenot ∷ []) → Unfit Sampling ts rest
unfolding begins
no_sampling {ts = ts} e h = none e (not_in ts (kind.Mark mark.When ∷ kind.Mark mark.Whenot ∷ []) h)

pub no_other : {ts rest : List Token} → rest ≡ ts → IsNone (first ts) (kind.Number ∷ kind.Mark mark.True ∷ kind.Mark mark.False ∷ []) → Unfit Other ts rest
unfolding begins
no_other {ts = ts} e h = none e (λ w. not_in ts (kind.Number ∷ kind.Mark mark.True ∷ kind.Mark mark.False ∷ []) h (within_subset (2 ∷ 20 ∷ 21 ∷ []) (2 ∷ 43 ∷ 20 ∷ 21 ∷ []) (ahead ts) refl w))

-- the part begins with one kind alone
pub record StartsWith (X : Part) (k : Kind) : Type 0 where
  pub is : begins X ≡ kind_numbers k

pub begun : {X : Part} {k : Kind} (ts : List Token) → StartsWith X k → first ts ≡ k → IsBegun X ts
begun {X = X} {k = k} ts s e = subst (λ ns. within (ahead ts) ns ≡ true) (sym s.is) (first_in ts e)

pub unbegun : {X : Part} {k : Kind} (ts : List Token) → StartsWith X k → (first ts ≡ k → ⊥) → IsBegun X ts → ⊥
unbegun {X = X} {k = k} ts s n w = n (ahead_kind ts k (subst (λ ns. within (ahead ts) ns ≡ true) s.is w))

pub one_expr : StartsWith MoreExpr (kind.Mark mark.Comma)
unfolding begins
one_expr = record { is = refl }

pub one_decl : StartsWith MoreDecl (kind.Mark mark.Comma)
unfolding begins
one_decl = record { is = refl }

pub one_name : StartsWith MoreName (kind.Mark mark.Comma)
unfolding begins
one_name = record { is = refl }

pub one_def : StartsWith MoreDef (kind.Mark mark.And)
unfolding begins
one_def = record { is = refl }

pub one_node : StartsWith Node (kind.Mark mark.Let)
unfolding begins
one_node = record { is = refl }

pub one_and : StartsWith MoreAnd (kind.Mark mark.Either)
unfolding begins
one_and = record { is = refl }

pub one_cmp : StartsWith MoreCmp (kind.Mark mark.Both)
unfolding begins
one_cmp = record { is = refl }

pub a_type : StartsWith Typing (kind.Mark mark.Colon)
unfolding begins
a_type = record { is = refl }

pub a_clock : StartsWith ClockOf (kind.Mark mark.Colons)
unfolding begins
a_clock = record { is = refl }

pub a_body : StartsWith Body (kind.Mark mark.Where)
unfolding begins
a_body = record { is = refl }

pub a_base : StartsWith Base (kind.Mark mark.At)
unfolding begins
a_base = record { is = refl }

pub a_decl : StartsWith Decls kind.Name
unfolding begins
a_decl = record { is = refl }
