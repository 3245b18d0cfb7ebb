-- What the descent's functions promise of an answer.
use Rattle.std.specs.Prelude.{ℕ, Bool, true, false, List, [], ◌∷◌, Option, None, ◌≡◌, ◌⊎◌, unwrap_or}
use Rattle.lucy_word.specs.Bits.{Bits}
use Rattle.lucy_tree.specs.declared.span.Name.{Name}
use Rattle.lucy_tree.specs.declared.span.Span.{Span}
use Rattle.lucy_tree.specs.declared.expr.Lit.{Lit}
use Rattle.lucy_tree.specs.Tree.{Tree, Trees, buffered, call, no_more, trees_of}
use Rattle.lucy_grammar.specs.Symbols.{Part, Sym, part, perhaps}
use Rattle.lucy_grammar.specs.Grammar.{sign}
use Rattle.lucy_grammar.specs.Meanings.{literal_before, token_literal}
use Rattle.lucy_grammar.specs.Reading.{Begins, IsBegun, IsOther, Reads, Unfit, ReadsOptional}
use Rattle.lucy_grammar.specs.Kinds.{is_bound}
use Rattle.lucy_token.specs.Tokens.{first}
use Rattle.lucy_token.specs.declared.mark.Mark.{Mark}
use Rattle.lucy_token.specs.declared.mark.Mark.TheVariants as mark
use Rattle.lucy_token.specs.declared.token.Kind.{Kind}
use Rattle.lucy_token.specs.declared.token.Kind.TheVariants as kind
use Rattle.lucy_token.specs.declared.token.Token.{Token}
use Rattle.lucy_syntax.specs.declared.refusal.Refusal.{Refusal}
use Rattle.lucy_syntax.specs.declared.refusal.Refusal.TheVariants.{At, OutOfMemory}

-- the fact holds of the tokens that are left, unless memory ran out
abbrev pub RefusedBy : (List Token → Type 0) → Refusal → Type 0
RefusedBy P (At rest) = P rest.now
RefusedBy P OutOfMemory = Unit {0}

-- an expression begins with a token of this kind
abbrev pub begins_expr : Kind → Bool
begins_expr kind.Name = true
begins_expr kind.Number = true
begins_expr (kind.Mark mark.If) = true
begins_expr (kind.Mark mark.Not) = true
begins_expr (kind.Mark mark.Buffer) = true
begins_expr (kind.Mark mark.Merge) = true
begins_expr (kind.Mark mark.Host) = true
begins_expr (kind.Mark mark.True) = true
begins_expr (kind.Mark mark.False) = true
begins_expr (kind.Mark mark.Open) = true
begins_expr k = false

-- a bound stands before an opening parenthesis
abbrev pub IsBounded : List Token → Type 0
IsBounded ts = (t : Token) × (rest : List Token) × (ts ≡ t ∷ rest) × (is_bound t.what ≡ true) × (first rest ≡ kind.Mark mark.Open)

-- a literal is read, and what it is behind `buffer`: a number that may be a bound, or another literal
pub record IsLiteral (ts : List Token) (l : Lit × Span) (rest : List Token) : Type 0 where
  pub begun : IsBegun Part.Lit ts
  pub reads : Reads Part.Lit ts l rest
  pub sort : ((t : Token) × (ts ≡ t ∷ rest) × (is_bound t.what ≡ true) × (l ≡ (token_literal t.what, t.span))) ⊎ (IsBegun Part.Other ts × Reads Part.Other ts l rest)

-- what stands behind a literal is read, and the tree is the literal with it
abbrev pub IsFollowed : Lit → Span → List Token → Tree → List Token → Type 0
IsFollowed lit span ts e rest = (v : Option (Span × Tree)) × ReadsOptional Part.Followed ts v rest × (e ≡ literal_before (lit, span) v)

-- an operand is read, and would be behind `buffer` if no bound with its expression begins here
pub record ReadsOperand (ts : List Token) (e : Tree) (rest : List Token) : Type 0 where
  pub operand : Reads Part.Pre ts e rest
  pub behind_buffer : (IsBounded ts → ⊥) → Reads Part.Buffered ts (None, e) rest

-- it is refused, and would be
pub record UnfitOperand (ts rest : List Token) : Type 0 where
  pub operand : Unfit Part.Pre ts rest
  pub behind_buffer : (IsBounded ts → ⊥) → Unfit Part.Buffered ts rest

-- what stands behind `buffer` is read, and the tree is the buffer with it
abbrev pub ReadsHeld : Span → List Token → Tree → List Token → Type 0
ReadsHeld span ts e rest = (b : Option ℕ × Tree) × Reads Part.Buffered ts b rest × (e ≡ buffered b.0 b.1 span)

-- what stands behind the name of a call is read, and the tree is the call
abbrev pub IsApplied : Name → List Token → Tree → List Token → Type 0
IsApplied name ts e rest = (v : Option Bits × Trees) × Reads Part.Applied ts v rest × (e ≡ call name v.0 v.1)

-- the arguments of a call are read, of which there may be none
abbrev pub ReadsArgs : List Token → List Tree → List Token → Type 0
ReadsArgs ts es rest = (o : Option Trees) × ReadsOptional Part.Args ts o rest × (trees_of es ≡ unwrap_or o no_more)

-- expressions are read, each behind its sign
abbrev pub ReadsEach : List Mark → List Token → List Tree → List Token → Type 0
ReadsEach [] ts es rest = (es ≡ []) × (rest ≡ ts)
ReadsEach (k ∷ ks) ts es rest =
    (o : Token) × (m : List Token) × (e : Tree) × (n : List Token) × (more : List Tree) × Begins ts o (kind.Mark k) m × Reads Part.Expr m e n × ReadsEach ks n more rest × (es ≡ e ∷ more)

-- they are refused, at a sign or behind it
abbrev pub UnfitEach : List Mark → List Token → List Token → Type 0
UnfitEach [] ts rest = ⊥
UnfitEach (k ∷ ks) ts rest =
    IsOther ts (kind.Mark k) rest ⊎ (((o : Token) × (m : List Token) × Begins ts o (kind.Mark k) m × Unfit Part.Expr m rest)
    ⊎ ((o : Token) × (m : List Token) × (e : Tree) × (n : List Token) × Begins ts o (kind.Mark k) m × Reads Part.Expr m e n × UnfitEach ks n rest))

-- the same, and then a `)`
abbrev pub ReadsEnclosed : List Mark → List Token → List Tree → List Token → Type 0
ReadsEnclosed ks ts es rest = (m : List Token) × (s : Token) × ReadsEach ks ts es m × Begins m s (kind.Mark mark.Close) rest

-- they are refused, or at the `)`
abbrev pub UnfitEnclosed : List Mark → List Token → List Token → Type 0
UnfitEnclosed ks ts rest = UnfitEach ks ts rest ⊎ ((es : List Tree) × (m : List Token) × ReadsEach ks ts es m × IsOther m (kind.Mark mark.Close) rest)

-- what stands in a declaration behind its name
abbrev pub behind_name : List Sym
behind_name = perhaps Part.Typing ∷ perhaps Part.ClockOf ∷ []

-- and in several names on the left behind the first one
abbrev pub behind_first : List Sym
behind_first = sign mark.Comma ∷ part Part.Decls ∷ sign mark.Close ∷ []
