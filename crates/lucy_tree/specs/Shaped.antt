-- Trees of the shape that the grammar gives: an operator has as many operands as it takes, an operator of the host two, the
-- word of `whenot` and of `merge` has a zero in its period, a written bound is small, several names are defined by a call, and
-- there is a node, but nodes are few.
use Rattle.std.specs.Prelude.{ℕ, List, [], ◌∷◌, ◌≡◌, ◌<◌, ◌≤◌, true, length, Option, Some, None}
use Rattle.std.specs.List.{AllByRecursion}
use Rattle.lucy_word.specs.Bits.{Bits, ones_in}
use Rattle.lucy_word.specs.Limits.{limit_number}
use Rattle.lucy_word.specs.declared.limit.Limit.TheVariants as limit
use Rattle.lucy_host.specs.Arity.{arity}
use Rattle.lucy_tree.specs.declared.decl.Decl.{Decl}
use Rattle.lucy_tree.specs.Tree.{Tree, Trees, literal, variable, operator, host, sampled, merged, followed, buffered, call, no_more, more, list_of}
use Rattle.lucy_tree.specs.View.{DefTree, NodeTree, ProgramTree}

-- the period has a zero
abbrev pub HasZero : Bits → Type 0
HasZero w = ones_in w.period < length w.period

-- a written bound of a buffer is at most this
abbrev pub most_bound : ℕ
most_bound = 4095

-- the bound of a buffer, where one is written, is no greater than it may be
abbrev pub IsBound : Option ℕ → Type 0
IsBound None = Unit {0}
IsBound (Some n) = n ≤ most_bound

abbrev mutual
  -- each operator in the tree has as many operands as it takes, each word that must have a zero has one, and each bound is one
  pub IsShaped : Tree → Type 0
  IsShaped (literal l span) = Unit {0}
  IsShaped (variable name) = Unit {0}
  IsShaped (operator op args span) = (length (list_of args) ≡ arity op) × AreShaped args
  IsShaped (host name args) = (length (list_of args) ≡ 2) × AreShaped args
  IsShaped (sampled flip e w) = (flip ≡ true → HasZero w) × IsShaped e
  IsShaped (merged w a b span) = HasZero w × IsShaped a × IsShaped b
  IsShaped (followed l e span) = IsShaped e
  IsShaped (buffered most e span) = IsBound most × IsShaped e
  IsShaped (call name at args) = AreShaped args

  -- and so of each tree of a list
  pub AreShaped : Trees → Type 0
  AreShaped no_more = Unit {0}
  AreShaped (more t ts) = IsShaped t × AreShaped ts

-- the tree is a call
abbrev pub IsCall : Tree → Type 0
IsCall (call name at args) = Unit {0}
IsCall _ = ⊥

-- one name by any expression, several by a call
abbrev pub Defines : List Decl → Tree → Type 0
Defines [] e = ⊥
Defines (d ∷ []) e = Unit {0}
Defines (d ∷ e ∷ ds) right = IsCall right

-- the right side has its shape, and defines as many names as stand left
pub record IsShapedDef (d : DefTree) : Type 0 where
  pub right : IsShaped d.right
  pub defines : Defines d.left d.right

-- each definition of the node has its shape
abbrev pub IsShapedNode : NodeTree → Type 0
IsShapedNode n = AllByRecursion IsShapedDef n.defs

-- each node has its shape, and there is one, but no more than the limit
pub record IsShapedProgram (p : ProgramTree) : Type 0 where
  pub nodes : AllByRecursion IsShapedNode p
  pub some : 0 < length p
  pub few : length p ≤ limit_number limit.Nodes
