-- Which tokens the symbols of the grammar spell, and what these then stand for.
use Rattle.std.specs.Prelude.{ℕ, List, [], ◌∷◌, ◌++◌, ◌≡◌, Some, None}
use Rattle.std.specs.List.{slice_get}
use Rattle.lucy_token.specs.declared.token.Token.{Token}
use Rattle.lucy_grammar.specs.Kinds.{Sort, Fits}
use Rattle.lucy_grammar.specs.Symbols.{Part, Sym, token, part, many, perhaps, Val, Vals, Rule}
use Rattle.lucy_grammar.specs.Grammar.{rules}

-- the symbols spell these tokens and stand for this: a token for each token, for each part what one of its productions spells
pub data Derives : (syms : List Sym) → List Token → Vals syms → Type 0 where
  done : Derives [] [] tt
  take : {s : Sort} {syms : List Sym} {ts : List Token} {vs : Vals syms} (t : Token) → Fits s t.what → Derives syms ts vs → Derives (token s ∷ syms) (t ∷ ts) (t, vs)
  by_rule : {X : Part} {syms : List Sym} {us ts : List Token} {vs : Vals syms} (i : ℕ) (p : Rule X) (ws : Vals p.syms) → slice_get (rules X) i ≡ Some p →
      Derives p.syms us ws → Derives syms ts vs → Derives (part X ∷ syms) (us ++ ts) (p.meaning ws, vs)
  enough : {X : Part} {syms : List Sym} {ts : List Token} {vs : Vals syms} → Derives syms ts vs → Derives (many X ∷ syms) ts ([], vs)
  again : {X : Part} {syms : List Sym} {ts : List Token} {v : Val X} {more : List (Val X)} {vs : Vals syms} →
      Derives (part X ∷ many X ∷ syms) ts (v, (more, vs)) → Derives (many X ∷ syms) ts (v ∷ more, vs)
  absent : {X : Part} {syms : List Sym} {ts : List Token} {vs : Vals syms} → Derives syms ts vs → Derives (perhaps X ∷ syms) ts (None, vs)
  present : {X : Part} {syms : List Sym} {ts : List Token} {v : Val X} {vs : Vals syms} → Derives (part X ∷ syms) ts (v, vs) → Derives (perhaps X ∷ syms) ts (Some v, vs)
