-- The parts of a program, and what each stands for.
use Rattle.std.specs.Prelude.{ℕ, Bool, List, [], ◌∷◌, Option}
use Rattle.lucy_word.specs.Bits.{Bits}
use Rattle.lucy_host.specs.declared.op.Op.{Op}
use Rattle.lucy_host.specs.declared.data_type.DataType.{DataType}
use Rattle.lucy_tree.specs.declared.span.Span.{Span}
use Rattle.lucy_tree.specs.declared.span.Name as name
use Rattle.lucy_tree.specs.declared.decl.Decl as decl
use Rattle.lucy_tree.specs.declared.expr.Lit as lit
use Rattle.lucy_tree.specs.Tree.{Tree, Trees}
use Rattle.lucy_tree.specs.View.{DefTree, NodeTree, ProgramTree}
use Rattle.lucy_token.specs.declared.token.Kind.{Kind}
use Rattle.lucy_token.specs.declared.token.Token.{Token}
use Rattle.lucy_grammar.specs.Kinds.{Sort, of}

-- the parts: of a program, of a node, of its declarations and definitions, of an expression
pub data Part : Type 0 where
  Program Node Title Params Results Names Ident MoreName Body : Part
  Decls MoreDecl Decl Typing TypeName ClockOf Defs Def MoreDef Lefts : Part
  Expr Or MoreAnd And MoreCmp Cmp Compared CmpOp Sum MoreProd SumOp Prod MoreSamp ProdOp Samp Sampling : Part
  Pre Followed Form Buffered Held Other Atom Small Lit Pair Call Applied Base Args MoreExpr : Part

-- a symbol of a production: a token of a sort, a part, a part as often as one likes, a part or nothing
pub data Sym : Type 0 where
  token : Sort → Sym
  part : Part → Sym
  many : Part → Sym
  perhaps : Part → Sym

-- any token of a kind
abbrev pub any : Kind → Sym
any k = token (of k)

-- an operator with its place, and the operand to its right
pub record Operation : Type 0 where
  pub op : Op
  pub span : Span
  pub right : Tree

-- what a part stands for
abbrev pub Val : Part → Type 0
Val Program = ProgramTree
Val Node = NodeTree
Val Title = name.Name
Val Params = List decl.Decl
Val Results = List name.Name
Val Names = List name.Name
Val Ident = name.Name
Val MoreName = name.Name
Val Body = List DefTree
Val Decls = List decl.Decl
Val MoreDecl = decl.Decl
Val Decl = decl.Decl
Val Typing = DataType
Val TypeName = DataType
Val ClockOf = Bits
Val Defs = List DefTree
Val Def = DefTree
Val MoreDef = DefTree
Val Lefts = List decl.Decl
Val MoreAnd = Operation
Val MoreCmp = Operation
Val Compared = Operation
Val CmpOp = Op × Span
Val MoreProd = Operation
Val SumOp = Op × Span
Val MoreSamp = Operation
Val ProdOp = Op × Span
Val Sampling = Bool × Bits
Val Followed = Span × Tree
Val Buffered = Option ℕ × Tree
Val Held = Option Span × Tree
Val Other = lit.Lit × Span
Val Lit = lit.Lit × Span
Val Pair = Trees
Val Applied = Option Bits × Trees
Val Base = Bits
Val Args = Trees
Val X = Tree

-- what symbols stand for, one after the other
abbrev pub Vals : List Sym → Type 0
Vals [] = Unit {0}
Vals (token s ∷ syms) = Token × Vals syms
Vals (part X ∷ syms) = Val X × Vals syms
Vals (many X ∷ syms) = List (Val X) × Vals syms
Vals (perhaps X ∷ syms) = Option (Val X) × Vals syms

-- a production of a part: its symbols, and what the part stands for by them
pub record Rule (X : Part) : Type 0 where
  pub syms : List Sym
  pub meaning : Vals syms → Val X
