-- Lists that have no more entries than they may have, and how a text with no fault has such lists alone.
use Rattle.std.proofs.Common.{◌≡◌, ℕ, ◌+◌, ◌<◌, ◌≤◌, false, List, [], ◌∷◌, length, Option, Some, None}
use Rattle.std.specs.List.{AllByRecursion}
use Rattle.lucy_word.specs.Limits.{limit_number}
use Rattle.lucy_word.specs.declared.limit.Limit.TheVariants as limit
use Rattle.lucy_tree.specs.Tree.{Tree, Trees, literal, variable, operator, host, sampled, merged, followed, buffered, call, no_more, more, list_of}
use Rattle.lucy_tree.specs.View.{DefTree, NodeTree}
use Rattle.lucy_token.specs.declared.mark.Mark.TheVariants as mark
use Rattle.lucy_token.specs.declared.token.Kind.{Kind}
use Rattle.lucy_token.specs.declared.token.Kind.TheVariants as kind
use Rattle.lucy_token.specs.declared.state.Side.TheVariants as side
use Rattle.lucy_token.specs.States.{ScanState, after, side_defined, is_past_last}
use Rattle.lucy_grammar.specs.Kinds.{sort_kind}
use Rattle.lucy_grammar.specs.Symbols.{Sym, token, part, many, perhaps, Val, Vals, Operation, Rule, Part, Program, Node, Title, Params, Results, Names, Ident, MoreName, Body, Decls, MoreDecl, Decl, Typing, TypeName, ClockOf, Defs, Def, MoreDef, Lefts, Expr, Or, MoreAnd, And, MoreCmp, Cmp, Compared, CmpOp, Sum, MoreProd, SumOp, Prod, MoreSamp, ProdOp, Samp, Sampling, Pre, Followed, Form, Buffered, Held, Other, Atom, Small, Lit, Pair, Call, Applied, Base, Args, MoreExpr}
use Rattle.lucy_grammar.proofs.Levels.{Keeps, IsDue}

abbrev pub most : ℕ
most = limit_number limit.Names

abbrev mutual
  pub IsFew : Tree → Type 0
  IsFew (literal l span) = Unit {0}
  IsFew (variable n) = Unit {0}
  IsFew (operator o args span) = AreFew args
  IsFew (host n args) = (length (list_of args) ≤ most) × AreFew args
  IsFew (sampled flip e w) = IsFew e
  IsFew (merged w a b span) = IsFew a × IsFew b
  IsFew (followed l e span) = IsFew e
  IsFew (buffered most_held e span) = IsFew e
  IsFew (call n at args) = (length (list_of args) ≤ most) × AreFew args

  pub AreFew : Trees → Type 0
  AreFew no_more = Unit {0}
  AreFew (more t ts) = IsFew t × AreFew ts

abbrev pub IsFewDef : DefTree → Type 0
IsFewDef d = (length d.left ≤ most) × IsFew d.right

pub record IsFewNode (n : NodeTree) : Type 0 where
  pub params : length n.params ≤ most
  pub results : length n.results ≤ most
  pub defs : AllByRecursion IsFewDef n.defs

-- what a part leaves behind: of an expression, an operator with its right operand, a call, a declaration, one entry more
pub record ReadsExpr (s : ScanState) (v : Tree) (j : ScanState) : Type 0 where
  pub first : (k : Kind) × (is_past_last s k ≡ false)
  pub keeps : Keeps s j
  pub few : IsFew v

abbrev pub ExprSpec : ScanState → Tree → ScanState → Type 0
ExprSpec s v j = s.side ≡ side.Right → ReadsExpr s v j

abbrev pub LinkSpec : ScanState → Operation → ScanState → Type 0
LinkSpec s l j = s.side ≡ side.Right → Keeps s j × IsFew l.right

pub record ReadsArgs (s : ScanState) (v : Trees) (j : ScanState) : Type 0 where
  pub at : j.side ≡ side.Right
  pub outer : j.outer ≡ s.outer
  pub length : length (list_of v) ≤ most
  pub few : AreFew v

pub record ReadsCall (s : ScanState) (v : Trees) (j : ScanState) : Type 0 where
  pub at : j.side ≡ side.Right
  pub outer : j.outer ≡ s.outer
  pub commas : j.level.commas ≡ s.level.commas
  pub length : length (list_of v) ≤ most
  pub few : AreFew v

pub record ReadsDecl (s j : ScanState) : Type 0 where
  pub first : is_past_last s kind.Name ≡ false
  pub keeps : Keeps s j
  pub named : side_defined j.before ≡ side.Right

pub record ReadsMore (s j : ScanState) : Type 0 where
  pub at : j.side ≡ s.side
  pub outer : j.outer ≡ s.outer
  pub commas : j.level.commas ≡ s.level.commas + 1
  pub few : s.level.commas + 1 < most

pub record ReadsList (s : ScanState) (n : ℕ) (j : ScanState) : Type 0 where
  pub at : j.side ≡ s.side
  pub outer : j.outer ≡ s.outer
  pub few : s.level.commas + n ≤ most

pub record ReadsLefts (s : ScanState) (n : ℕ) (j : ScanState) : Type 0 where
  pub at : j.side ≡ side.Left
  pub before : j.before ≡ kind.Mark mark.Close
  pub few : n ≤ most

-- what is so of a part that goes from one state to another, and of what it stands for
abbrev pub Spec : (X : Part) → ScanState → Val X → ScanState → Type 0
Spec Program s v j = AllByRecursion IsFewNode v
Spec Node s v j = IsFewNode v
Spec Title s v j = Unit {0}
Spec Params s v j = length v ≤ most
Spec Results s v j = length v ≤ most
Spec Names s v j = s.level.commas < most → ReadsList s (length v) j
Spec Ident s v j = (is_past_last s kind.Name ≡ false) × Keeps s j
Spec MoreName s v j = ReadsMore s j
Spec Body s v j = AllByRecursion IsFewDef v
Spec Decls s v j = s.level.commas < most → ReadsList s (length v) j
Spec MoreDecl s v j = ReadsMore s j
Spec Decl s v j = ReadsDecl s j
Spec Typing s v j = Keeps s j × (side_defined j.before ≡ side.Right)
Spec TypeName s v j = Keeps s j × (side_defined j.before ≡ side.Right)
Spec ClockOf s v j = Keeps s j × (side_defined j.before ≡ side.Right)
Spec Defs s v j = s.side ≡ side.Left → AllByRecursion IsFewDef v
Spec Def s v j = s.side ≡ side.Left → IsFewDef v
Spec MoreDef s v j = IsFewDef v
Spec Lefts s v j = s.side ≡ side.Left → ReadsLefts s (length v) j
Spec Expr s v j = ExprSpec s v j
Spec Or s v j = ExprSpec s v j
Spec MoreAnd s v j = LinkSpec s v j
Spec And s v j = ExprSpec s v j
Spec MoreCmp s v j = LinkSpec s v j
Spec Cmp s v j = ExprSpec s v j
Spec Compared s v j = LinkSpec s v j
Spec CmpOp s v j = Keeps s j
Spec Sum s v j = ExprSpec s v j
Spec MoreProd s v j = LinkSpec s v j
Spec SumOp s v j = Keeps s j
Spec Prod s v j = ExprSpec s v j
Spec MoreSamp s v j = LinkSpec s v j
Spec ProdOp s v j = Keeps s j
Spec Samp s v j = ExprSpec s v j
Spec Sampling s v j = Keeps s j
Spec Pre s v j = ExprSpec s v j
Spec Followed s v j = s.side ≡ side.Right → Keeps s j × IsFew v.1
Spec Form s v j = ExprSpec s v j
Spec Buffered s v j = s.side ≡ side.Right → Keeps s j × IsFew v.1
Spec Held s v j = s.side ≡ side.Right → Keeps s j × IsFew v.1
Spec Other s v j = ((k : Kind) × (is_past_last s k ≡ false)) × Keeps s j
Spec Atom s v j = ExprSpec s v j
Spec Small s v j = ExprSpec s v j
Spec Lit s v j = ((k : Kind) × (is_past_last s k ≡ false)) × Keeps s j
Spec Pair s v j = s.side ≡ side.Right → Keeps s j × ((length (list_of v) ≤ most) × AreFew v)
Spec Call s v j = IsDue s.side → IsFew v
Spec Applied s v j = IsDue s.side → ReadsCall s v.1 j
Spec Base s v j = Keeps s j
Spec Args s v j = s.side ≡ side.Right → s.level.commas ≡ 0 → ReadsArgs s v j
Spec MoreExpr s v j = s.side ≡ side.Right → ReadsMore s j × IsFew v

-- one after the other, and one or none
abbrev pub Chain : {A : Type 0} → (ScanState → A → ScanState → Type 0) → ScanState → List A → ScanState → Type 0
Chain R s [] j = j ≡ s
Chain R s (x ∷ xs) j = (m : ScanState) × R s x m × Chain R m xs j

abbrev pub Maybe : {A : Type 0} → (ScanState → A → ScanState → Type 0) → ScanState → Option A → ScanState → Type 0
Maybe R s None j = j ≡ s
Maybe R s (Some x) j = R s x j

-- what holds behind symbols, where each of their parts is so
abbrev pub Behind : (syms : List Sym) → ScanState → Vals syms → (ScanState → Type 0) → Type 0
Behind [] s vs K = K s
Behind (token k ∷ syms) s vs K = is_past_last s (sort_kind k) ≡ false → Behind syms (after s (sort_kind k)) vs.1 K
Behind (part X ∷ syms) s vs K = (j : ScanState) → Spec X s vs.0 j → Behind syms j vs.1 K
Behind (many X ∷ syms) s vs K = (j : ScanState) → Chain (Spec X) s vs.0 j → Behind syms j vs.1 K
Behind (perhaps X ∷ syms) s vs K = (j : ScanState) → Maybe (Spec X) s vs.0 j → Behind syms j vs.1 K

-- a production makes its part so
abbrev pub Makes : (X : Part) → Rule X → Type 0
Makes X p = (s : ScanState) (vs : Vals p.syms) → Behind p.syms s vs (λ j. Spec X s (p.meaning vs) j)

abbrev pub AllMake : (X : Part) → List (Rule X) → Type 0
AllMake X [] = Unit {0}
AllMake X (p ∷ ps) = Makes X p × AllMake X ps
