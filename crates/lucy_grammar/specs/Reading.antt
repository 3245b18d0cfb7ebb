-- What a function that reads a part by one token of look-ahead promises.
use Rattle.std.specs.Prelude.{ℕ, List, [], ◌∷◌, ◌++◌, ◌≡◌, true, Option, Some, None}
use Rattle.lucy_token.specs.declared.mark.Mark.{Mark}
use Rattle.lucy_token.specs.declared.mark.Mark.TheVariants as mark
use Rattle.lucy_token.specs.declared.token.Kind.{Kind}
use Rattle.lucy_token.specs.declared.token.Token.{Token}
use Rattle.lucy_token.specs.Tokens.{kind_of, first}
use Rattle.lucy_grammar.specs.Sets.{within}
use Rattle.lucy_grammar.specs.Kinds.{mark_number, ahead}
use Rattle.lucy_grammar.specs.Symbols.{Part, Sym, part, Val, Vals, Program, Node, Title, Params, Results, Names, Ident, MoreName, Body, Decls, MoreDecl, Decl, Typing, TypeName, ClockOf, Defs, Def, MoreDef, Lefts, Expr, Or, MoreAnd, And, MoreCmp, Cmp, Compared, CmpOp, Sum, MoreProd, SumOp, Prod, MoreSamp, ProdOp, Samp, Sampling, Pre, Followed, Form, Buffered, Held, Other, Atom, Small, Lit, Pair, Call, Applied, Base, Args, MoreExpr}
use Rattle.lucy_grammar.specs.Deriving.{Deriv, spelled, value}

-- the numbers of marks
abbrev pub numbers : List Mark → List ℕ
numbers [] = []
numbers (m ∷ ms) = mark_number m ∷ numbers ms

-- the kinds with which a small operand begins (1 is a name, 2 a number that may be no bound of a buffer, 43 one that may)
abbrev pub small : List ℕ
small = 1 ∷ 2 ∷ 43 ∷ numbers (mark.True ∷ mark.False ∷ mark.Open ∷ [])

-- and any operand
abbrev pub operand : List ℕ
operand = numbers (mark.Not ∷ mark.Buffer ∷ mark.Merge ∷ mark.Host ∷ []) ++ small

-- the kinds that may follow a definition (0 is the end), an expression, and what stands nearer and nearer to an operand
abbrev pub after_def : List ℕ
after_def = 0 ∷ numbers (mark.Let ∷ mark.And ∷ [])

-- the kinds that may follow an expression
abbrev pub after_expr : List ℕ
after_expr = numbers (mark.Then ∷ mark.Else ∷ mark.Close ∷ mark.Comma ∷ []) ++ after_def

-- those that may follow an operand of `||`
abbrev pub after_and : List ℕ
after_and = mark_number mark.Either ∷ after_expr

-- those that may follow an operand of `&&`
abbrev pub after_cmp : List ℕ
after_cmp = mark_number mark.Both ∷ after_and

-- the comparisons
abbrev pub comparisons : List ℕ
comparisons = numbers (mark.Same ∷ mark.Differs ∷ mark.Less ∷ mark.AtMost ∷ mark.Greater ∷ mark.AtLeast ∷ [])

-- the kinds that may follow an operand of a comparison
abbrev pub after_sum : List ℕ
after_sum = comparisons ++ after_cmp

-- `+` and `-`
abbrev pub sums : List ℕ
sums = numbers (mark.Plus ∷ mark.Minus ∷ [])

-- the kinds that may follow an operand of these
abbrev pub after_prod : List ℕ
after_prod = sums ++ after_sum

-- `*`, `/` and `%`
abbrev pub products : List ℕ
products = numbers (mark.Star ∷ mark.Slash ∷ mark.Percent ∷ [])

-- the kinds that may follow an operand of these
abbrev pub after_samp : List ℕ
after_samp = products ++ after_prod

-- `when` and `whenot`
abbrev pub samplings : List ℕ
samplings = numbers (mark.When ∷ mark.Whenot ∷ [])

-- the kinds that may follow what is sampled
abbrev pub after_pre : List ℕ
after_pre = samplings ++ after_samp

-- the kinds that may follow a declaration
abbrev pub after_decl : List ℕ
after_decl = numbers (mark.Equals ∷ mark.Comma ∷ mark.Close ∷ [])

-- the kinds that may follow a part
unfoldable pub follows : Part → List ℕ
follows Program = 0 ∷ []
follows Node = 0 ∷ numbers (mark.Let ∷ [])
follows Title = 1 ∷ numbers (mark.Open ∷ [])
follows Params = numbers (mark.Equals ∷ [])
follows Results = 0 ∷ numbers (mark.Where ∷ mark.Let ∷ [])
follows Names = numbers (mark.Close ∷ [])
follows Ident = numbers (mark.Comma ∷ mark.Close ∷ [])
follows MoreName = numbers (mark.Comma ∷ mark.Close ∷ [])
follows Body = 0 ∷ numbers (mark.Let ∷ [])
follows Decls = numbers (mark.Close ∷ [])
follows MoreDecl = numbers (mark.Comma ∷ mark.Close ∷ [])
follows Decl = after_decl
follows Typing = mark_number mark.Colons ∷ after_decl
follows TypeName = mark_number mark.Colons ∷ after_decl
follows ClockOf = after_decl
follows Defs = 0 ∷ numbers (mark.Let ∷ [])
follows Def = after_def
follows MoreDef = after_def
follows Lefts = numbers (mark.Equals ∷ [])
follows Expr = after_expr
follows Or = after_expr
follows MoreAnd = after_and
follows And = after_and
follows MoreCmp = after_cmp
follows Cmp = after_cmp
follows Compared = after_cmp
follows CmpOp = operand
follows Sum = after_sum
follows MoreProd = after_prod
follows SumOp = operand
follows Prod = after_prod
follows MoreSamp = after_samp
follows ProdOp = operand
follows Samp = after_samp
follows Sampling = after_pre
follows Pre = after_pre
follows Followed = after_pre
follows Form = after_pre
follows Buffered = after_pre
follows Held = after_pre
follows Other = mark_number mark.Fby ∷ after_pre
follows Atom = after_pre
follows Small = small ++ after_pre
follows Lit = mark_number mark.Fby ∷ (small ++ after_pre)
follows Pair = after_pre
follows Call = after_pre
follows Applied = after_pre
follows Base = numbers (mark.Open ∷ [])
follows Args = numbers (mark.Close ∷ [])
follows MoreExpr = numbers (mark.Comma ∷ mark.Close ∷ [])

-- the kinds with which a part begins; none may be nothing
unfoldable pub begins : Part → List ℕ
begins Program = numbers (mark.Let ∷ [])
begins Node = numbers (mark.Let ∷ [])
begins Title = numbers (mark.Let ∷ [])
begins Params = 1 ∷ numbers (mark.Open ∷ [])
begins Results = 1 ∷ numbers (mark.Open ∷ [])
begins Names = 1 ∷ []
begins Ident = 1 ∷ []
begins MoreName = numbers (mark.Comma ∷ [])
begins Body = numbers (mark.Where ∷ [])
begins Decls = 1 ∷ []
begins MoreDecl = numbers (mark.Comma ∷ [])
begins Decl = 1 ∷ []
begins Typing = numbers (mark.Colon ∷ [])
begins TypeName = numbers (mark.Int ∷ mark.Bool ∷ [])
begins ClockOf = numbers (mark.Colons ∷ [])
begins Defs = 1 ∷ numbers (mark.Open ∷ [])
begins Def = 1 ∷ numbers (mark.Open ∷ [])
begins MoreDef = numbers (mark.And ∷ [])
begins Lefts = numbers (mark.Open ∷ [])
begins Expr = mark_number mark.If ∷ operand
begins Or = operand
begins MoreAnd = numbers (mark.Either ∷ [])
begins And = operand
begins MoreCmp = numbers (mark.Both ∷ [])
begins Cmp = operand
begins Compared = comparisons
begins CmpOp = comparisons
begins Sum = operand
begins MoreProd = sums
begins SumOp = sums
begins Prod = operand
begins MoreSamp = products
begins ProdOp = products
begins Samp = operand
begins Sampling = samplings
begins Pre = operand
begins Followed = numbers (mark.Fby ∷ [])
begins Form = 1 ∷ numbers (mark.Not ∷ mark.Buffer ∷ mark.Merge ∷ mark.Host ∷ mark.Open ∷ [])
begins Buffered = operand
begins Held = numbers (mark.Fby ∷ mark.Open ∷ [])
begins Other = 2 ∷ numbers (mark.True ∷ mark.False ∷ [])
begins Atom = 1 ∷ numbers (mark.Host ∷ mark.Open ∷ [])
begins Small = small
begins Lit = 2 ∷ 43 ∷ numbers (mark.True ∷ mark.False ∷ [])
begins Pair = numbers (mark.Open ∷ [])
begins Call = 1 ∷ []
begins Applied = numbers (mark.At ∷ mark.Open ∷ [])
begins Base = numbers (mark.At ∷ [])
begins Args = mark_number mark.If ∷ operand
begins MoreExpr = numbers (mark.Comma ∷ [])

-- these tokens may follow the part
abbrev pub Follows : Part → List Token → Type 0
Follows X tail = within (ahead tail) (follows X) ≡ true

-- The symbols, in a production of X, spell the tokens up to `rest` and stand for vs; and they do so alone, whatever comes
-- after the first token of `rest`.
pub record Takes (X : Part) (syms : List Sym) (ts : List Token) (vs : Vals syms) (rest : List Token) : Type 0 where
  pub front : List Token
  pub whole : ts ≡ front ++ rest
  pub deriv : Deriv syms
  pub spells : spelled deriv ≡ front
  pub means : value deriv ≡ vs
  pub only : (z : List Token) → ahead z ≡ ahead rest → (d : Deriv syms) (tail : List Token) → Follows X tail → front ++ z ≡ spelled d ++ tail → (value d ≡ vs) × (tail ≡ z)

-- The tokens before `rest` begin the symbols, and with the first token of `rest` they don't, however they go on.
pub record BreaksAt (X : Part) (syms : List Sym) (ts : List Token) (rest : List Token) : Type 0 where
  pub front : List Token
  pub whole : ts ≡ front ++ rest
  pub completes : (d : Deriv syms) × (after : List Token) × (spelled d ≡ front ++ after)
  pub never : (z : List Token) → ahead z ≡ ahead rest → (d : Deriv syms) (tail : List Token) → Follows X tail → front ++ z ≡ spelled d ++ tail → ⊥

-- a whole part is read
abbrev pub Reads : (X : Part) → List Token → Val X → List Token → Type 0
Reads X ts v rest = Takes X (part X ∷ []) ts (v, tt) rest

-- no part is read: the first token of `rest` is the first that doesn't fit
abbrev pub Unfit : Part → List Token → List Token → Type 0
Unfit X ts rest = BreaksAt X (part X ∷ []) ts rest

-- a part begins here
abbrev pub IsBegun : Part → List Token → Type 0
IsBegun X ts = within (ahead ts) (begins X) ≡ true

-- a number that may be a bound is the first token
abbrev pub IsBoundAhead : List Token → Type 0
IsBoundAhead ts = within (ahead ts) (43 ∷ []) ≡ true

-- the part is read, or it doesn't begin here and nothing is taken
abbrev pub ReadsOptional : (X : Part) → List Token → Option (Val X) → List Token → Type 0
ReadsOptional X ts (Some v) rest = IsBegun X ts × Reads X ts v rest
ReadsOptional X ts None rest = (IsBegun X ts → ⊥) × (rest ≡ ts)

-- it begins here, and isn't whole
abbrev pub UnfitOptional : Part → List Token → List Token → Type 0
UnfitOptional X ts rest = IsBegun X ts × Unfit X ts rest

-- the tokens are one of this kind, and these
abbrev pub Begins : List Token → Token → Kind → List Token → Type 0
Begins ts t k rest = (ts ≡ t ∷ rest) × (kind_of t.what ≡ k)

-- nothing was taken, and the first token is of another kind
abbrev pub IsOther : List Token → Kind → List Token → Type 0
IsOther ts k rest = (rest ≡ ts) × (first ts ≡ k → ⊥)
