-- What contracts see of an expression, and of a program.
use Rattle.std.specs.Prelude.{List, map}
use Rattle.lucy_tree.specs.Tree.{Tree, Trees, literal, variable, operator, host, sampled, merged, followed, buffered, call, trees_of}
use Rattle.lucy_tree.specs.declared.span.Name.{Name}
use Rattle.lucy_tree.specs.declared.decl.Decl.{Decl}
use Rattle.lucy_tree.specs.declared.expr.Expr.{Expr}
use Rattle.lucy_tree.specs.declared.expr.Exprs.{Exprs}
use Rattle.lucy_tree.specs.declared.expr.Expr.TheOpen.{Expr-F, Lit, Var, Op, Host, When, Merge, Fby, Buffer, Call, Exprs-F}
use Rattle.lucy_tree.specs.declared.expr.Expr.TheFolds.{fold-Expr}
use Rattle.lucy_tree.specs.declared.program.Def as def
use Rattle.lucy_tree.specs.declared.program.Node as node
use Rattle.lucy_tree.specs.declared.program.Program as program

-- one form, with the trees of its operands
abbrev pub tree_step : Expr-F Tree Trees → Tree
tree_step (Lit lit span) = literal lit span
tree_step (Var name) = variable name
tree_step (Op op args span) = operator op args span
tree_step (Host name args) = host name args
tree_step (When flip operand word) = sampled flip operand.value word
tree_step (Merge word one zero span) = merged word one.value zero.value span
tree_step (Fby lit operand span) = followed lit operand.value span
tree_step (Buffer most operand span) = buffered most operand.value span
tree_step (Call node at args) = call node at args

-- the trees of a list's expressions
abbrev pub trees_step : Exprs-F Tree Trees → Trees
trees_step e = trees_of e.list.items

-- the tree of an expression
abbrev pub tree_of : Expr → Tree
tree_of = fold-Expr Tree Trees tree_step trees_step

-- the trees of expressions in a row
abbrev pub all_trees : List Expr → Trees
all_trees es = trees_of (map tree_of es)

-- the expressions of a list
abbrev pub expr_list : Exprs → List Expr
expr_list e = e.list.items

-- a definition: the names on its left, and the tree on its right
pub record DefTree : Type 0 where
  pub left : List Decl
  pub right : Tree

-- a node
pub record NodeTree : Type 0 where
  pub name : Name
  pub params : List Decl
  pub results : List Name
  pub defs : List DefTree

-- a program: its nodes
abbrev pub ProgramTree : Type 0
ProgramTree = List NodeTree

-- what is seen of a definition
abbrev pub def_tree : def.Def → DefTree
def_tree d = record { left = d.left; right = tree_of d.right }

-- what is seen of a node
abbrev pub node_tree : node.Node → NodeTree
node_tree n = record { name = n.name; params = n.params; results = n.results; defs = map def_tree n.defs }

-- what is seen of a program
abbrev pub program_tree : program.Program → ProgramTree
program_tree p = map node_tree p.nodes
