-- Derivations as data: what each spells, and what its symbols then stand for.
use Rattle.std.specs.Prelude.{ℕ, List, [], ◌∷◌, ◌++◌, ◌≡◌, Some, None}
use Rattle.std.specs.List.{slice_get}
use Rattle.lucy_token.specs.declared.token.Token.{Token}
use Rattle.lucy_grammar.specs.Kinds.{Sort, Fits}
use Rattle.lucy_grammar.specs.Symbols.{Part, Sym, token, part, many, perhaps, Vals, Rule}
use Rattle.lucy_grammar.specs.Grammar.{rules}

-- a derivation of symbols: a token for each token, and for each part one of its productions with a derivation of its own
pub data Deriv : List Sym → Type 0 where
  done : Deriv []
  take : {s : Sort} {syms : List Sym} (t : Token) → Fits s t.what → Deriv syms → Deriv (token s ∷ syms)
  by_rule : {X : Part} {syms : List Sym} (i : ℕ) (p : Rule X) → slice_get (rules X) i ≡ Some p → Deriv p.syms → Deriv syms → Deriv (part X ∷ syms)
  enough : {X : Part} {syms : List Sym} → Deriv syms → Deriv (many X ∷ syms)
  again : {X : Part} {syms : List Sym} (i : ℕ) (p : Rule X) → slice_get (rules X) i ≡ Some p → Deriv p.syms → Deriv (many X ∷ syms) → Deriv (many X ∷ syms)
  absent : {X : Part} {syms : List Sym} → Deriv syms → Deriv (perhaps X ∷ syms)
  present : {X : Part} {syms : List Sym} (i : ℕ) (p : Rule X) → slice_get (rules X) i ≡ Some p → Deriv p.syms → Deriv syms → Deriv (perhaps X ∷ syms)

-- the tokens that a derivation spells
abbrev pub spelled : {syms : List Sym} → Deriv syms → List Token
spelled done = []
spelled (take t e d) = t ∷ spelled d
spelled (by_rule i p e d rest) = spelled d ++ spelled rest
spelled (enough d) = spelled d
spelled (again i p e d rest) = spelled d ++ spelled rest
spelled (absent d) = spelled d
spelled (present i p e d rest) = spelled d ++ spelled rest

-- what its symbols stand for
abbrev pub value : {syms : List Sym} → Deriv syms → Vals syms
value done = tt
value (take t e d) = (t, value d)
value (by_rule i p e d rest) = (p.meaning (value d), value rest)
value (enough d) = ([], value d)
value (again i p e d rest) = (p.meaning (value d) ∷ (value rest).0, (value rest).1)
value (absent d) = (None, value d)
value (present i p e d rest) = (Some (p.meaning (value d)), value rest)
