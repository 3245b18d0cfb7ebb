-- Trees that can be printed and read again: operators have as many operands as they take, lists have as many entries as
-- they must, and several names are defined by a call.
--
-- Q says of names, numbers and words that they may stand as tokens after one of a kind.
use Rattle.std.specs.Prelude.{ℕ, pos, ◌≤◌, false, List, [], ◌∷◌, ◌≡◌, length, Option, Some, None}
use Rattle.std.specs.List.{AllByRecursion}
use Rattle.lucy_word.specs.Bits.{Bits}
use Rattle.lucy_host.specs.Arity.{arity}
use Rattle.lucy_tree.specs.declared.span.Name.{Name}
use Rattle.lucy_tree.specs.declared.decl.Decl.{Decl}
use Rattle.lucy_tree.specs.declared.expr.Lit.{Lit}
use Rattle.lucy_tree.specs.declared.expr.Lit.TheVariants as lit
use Rattle.lucy_tree.specs.Tree.{Tree, Trees, literal, variable, operator, host, sampled, merged, followed, buffered, call, no_more, more, list_of}
use Rattle.lucy_tree.specs.View.{DefTree, NodeTree, ProgramTree}
use Rattle.lucy_tree.specs.Shaped.{most_bound, Defines}
use Rattle.lucy_token.specs.declared.mark.Mark.{Mark}
use Rattle.lucy_token.specs.declared.mark.Mark.TheVariants as mark
use Rattle.lucy_token.specs.declared.token.Kind.{Kind}
use Rattle.lucy_token.specs.declared.token.Kind.TheVariants as kind
use Rattle.lucy_token.specs.declared.token.What.{What}
use Rattle.lucy_token.specs.declared.token.What.TheVariants as what
use Rattle.lucy_token.specs.declared.token.Token.{Token}
use Rattle.lucy_token.specs.Tokens.{kind_of}
use Rattle.lucy_token.specs.Before.{wants_word}
use Rattle.lucy_grammar.specs.PrintTokens.{when_mark}

-- the name may stand somewhere
abbrev pub MayBeNamed : (Kind → What → Type 0) → Name → Type 0
MayBeNamed Q name = (k : Kind) × Q k (what.Name name.text)

-- a number may stand somewhere; a truth always may
abbrev pub IsLit : (Kind → What → Type 0) → Lit → Type 0
IsLit Q (lit.Int n) = (k : Kind) × Q k (what.Number n)
IsLit Q (lit.Bool b) = Unit {0}

-- the bound, where one is written, is one and may stand somewhere
abbrev pub MayHaveBound : (Kind → What → Type 0) → Option ℕ → Type 0
MayHaveBound Q None = Unit {0}
MayHaveBound Q (Some n) = (n ≤ most_bound) × IsLit Q (lit.Int (pos n))

-- the word, where one is written, may stand after the mark
abbrev pub IsWordBehind : (Kind → What → Type 0) → Mark → Option Bits → Type 0
IsWordBehind Q m None = Unit {0}
IsWordBehind Q m (Some w) = Q (kind.Mark m) (what.Word w)

abbrev mutual
  -- every name, number and word of the tree may stand somewhere, and each operator has as many operands as it takes
  pub IsPrintable : (Kind → What → Type 0) → Tree → Type 0
  IsPrintable Q (literal l span) = IsLit Q l
  IsPrintable Q (variable name) = MayBeNamed Q name
  IsPrintable Q (operator o args span) = (length (list_of args) ≡ arity o) × ArePrintable Q args
  IsPrintable Q (host name args) = MayBeNamed Q name × ((length (list_of args) ≡ 2) × ArePrintable Q args)
  IsPrintable Q (sampled flip e w) = IsPrintable Q e × IsWordBehind Q (when_mark flip) (Some w)
  IsPrintable Q (merged w a b span) = IsWordBehind Q mark.Merge (Some w) × (IsPrintable Q a × IsPrintable Q b)
  IsPrintable Q (followed l e span) = IsLit Q l × IsPrintable Q e
  IsPrintable Q (buffered most e span) = MayHaveBound Q most × IsPrintable Q e
  IsPrintable Q (call name at args) = MayBeNamed Q name × (IsWordBehind Q mark.At at × ArePrintable Q args)

  -- and so of each tree of a list
  pub ArePrintable : (Kind → What → Type 0) → Trees → Type 0
  ArePrintable Q no_more = Unit {0}
  ArePrintable Q (more t ts) = IsPrintable Q t × ArePrintable Q ts

-- the property holds of each entry, and there is one
abbrev pub AllOfSome : {A : Type 0} → (A → Type 0) → List A → Type 0
AllOfSome P [] = ⊥
AllOfSome P (x ∷ xs) = P x × AllByRecursion P xs

-- the name may stand somewhere, and its clock behind `::`
abbrev pub IsPrintableDecl : (Kind → What → Type 0) → Decl → Type 0
IsPrintableDecl Q d = MayBeNamed Q d.name × IsWordBehind Q mark.Colons d.word

-- both sides can be printed, and the right one defines as many names as stand left
pub record IsPrintableDef (Q : Kind → What → Type 0) (d : DefTree) : Type 0 where
  pub left : AllByRecursion (IsPrintableDecl Q) d.left
  pub right : IsPrintable Q d.right
  pub defines : Defines d.left d.right

-- its name, its parameters, its results, of which there is one at least, and its definitions can be printed
pub record IsPrintableNode (Q : Kind → What → Type 0) (n : NodeTree) : Type 0 where
  pub name : MayBeNamed Q n.name
  pub params : AllByRecursion (IsPrintableDecl Q) n.params
  pub results : AllOfSome (MayBeNamed Q) n.results
  pub defs : AllByRecursion (IsPrintableDef Q) n.defs

-- there is a node, and each can be printed
abbrev pub IsPrintableProgram : (Kind → What → Type 0) → ProgramTree → Type 0
IsPrintableProgram Q p = AllOfSome (IsPrintableNode Q) p

-- all may stand everywhere
abbrev pub Anywhere : Kind → What → Type 0
Anywhere k w = Unit {0}

-- each token may stand after the one before it, the first one after a token of this kind
abbrev pub StandAfter : (Kind → What → Type 0) → Kind → List Token → Type 0
StandAfter Q before [] = Unit {0}
StandAfter Q before (t ∷ ts) = Q before t.what × StandAfter Q (kind_of t.what) ts

-- the token may be printed after one of a kind: a word where one is wanted, and anything else elsewhere
abbrev pub MayFollow : (Kind → What → Type 0) → Kind → What → Type 0
MayFollow Q before (what.Word w) = Q before (what.Word w)
MayFollow Q before (what.Mark m) = wants_word before ≡ false
MayFollow Q before (what.Name bytes) = (wants_word before ≡ false) × ((k : Kind) × Q k (what.Name bytes))
MayFollow Q before (what.Number n) = (wants_word before ≡ false) × ((k : Kind) × Q k (what.Number n))

-- each token may be printed after the one before it, the first one after one of this kind
abbrev pub AllMayFollow : (Kind → What → Type 0) → Kind → List What → Type 0
AllMayFollow Q before [] = Unit {0}
AllMayFollow Q before (w ∷ ws) = MayFollow Q before w × AllMayFollow Q (kind_of w) ws
