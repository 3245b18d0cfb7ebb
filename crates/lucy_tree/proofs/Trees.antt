-- The trees of single expressions.
use Rattle.std.proofs.Common.{◌≡◌, ℕ, Bool, Box, Global, Option, ap, sym, ◌∙◌, rules}
use Rattle.lucy_word.specs.Bits.{Bits}
use Rattle.lucy_host.specs.declared.op.Op as ops
use Rattle.lucy_tree.specs.declared.span.Span.{Span}
use Rattle.lucy_tree.specs.declared.span.Name.{Name}
use Rattle.lucy_tree.specs.declared.expr.Lit as lits
use Rattle.lucy_tree.specs.declared.expr.Expr.{Expr}
use Rattle.lucy_tree.specs.declared.expr.Exprs.{Exprs}
use Rattle.lucy_tree.specs.declared.expr.Expr.TheOpen as layer
use Rattle.lucy_tree.specs.declared.expr.Expr.TheFolds.{fold-roll-Expr, the_lemmas}
use Rattle.lucy_tree.specs.declared.expr.Expr.TheVariants.{Lit, Var, Op, Host, When, Merge, Fby, Buffer, Call, rolls-When, rolls-Merge, rolls-Fby, rolls-Buffer}
use Rattle.lucy_tree.specs.Tree.{Tree, Trees, literal, variable, operator, host, sampled, merged, followed, buffered, call}
use Rattle.lucy_tree.specs.View.{tree_of, all_trees, tree_step, trees_step, expr_list}

-- a literal
pub tree_literal : (l : lits.Lit) (s : Span) → tree_of (Lit l s) ≡ literal l s
tree_literal l s = search (rules, the_lemmas)

-- a variable
pub tree_variable : (n : Name) → tree_of (Var n) ≡ variable n
tree_variable n = search (rules, the_lemmas)

-- an operator over the trees of its operands
pub tree_operator : (o : ops.Op) (args : Exprs) (s : Span) → tree_of (Op o args s) ≡ operator o (all_trees (expr_list args)) s
tree_operator o args s = search (rules, the_lemmas)

-- an operator of the host
pub tree_host : (n : Name) (args : Exprs) → tree_of (Host n args) ≡ host n (all_trees (expr_list args))
tree_host n args = search (rules, the_lemmas)

-- a call of a node
pub tree_call : (n : Name) (at : Option Bits) (args : Exprs) → tree_of (Call n at args) ≡ call n at (all_trees (expr_list args))
tree_call n at args = search (rules, the_lemmas)

-- a sampling over the tree of what it samples
pub tree_sampled : (flip : Bool) (inner : Box Expr Global) (w : Bits) → tree_of (When flip inner w) ≡ sampled flip (tree_of inner.value) w
tree_sampled flip inner w = ap tree_of (sym (rolls-When flip inner w)) ∙ fold-roll-Expr Tree Trees tree_step trees_step (layer.When flip inner w)

-- a merge over both its trees
pub tree_merged : (by : Bits) (one zero : Box Expr Global) (s : Span) → tree_of (Merge by one zero s) ≡ merged by (tree_of one.value) (tree_of zero.value) s
tree_merged by one zero s = ap tree_of (sym (rolls-Merge by one zero s)) ∙ fold-roll-Expr Tree Trees tree_step trees_step (layer.Merge by one zero s)

-- a literal followed by a tree
pub tree_followed : (l : lits.Lit) (later : Box Expr Global) (s : Span) → tree_of (Fby l later s) ≡ followed l (tree_of later.value) s
tree_followed l later s = ap tree_of (sym (rolls-Fby l later s)) ∙ fold-roll-Expr Tree Trees tree_step trees_step (layer.Fby l later s)

-- a buffer over the tree of what it holds
pub tree_buffered : (most : Option ℕ) (inner : Box Expr Global) (s : Span) → tree_of (Buffer most inner s) ≡ buffered most (tree_of inner.value) s
tree_buffered most inner s = ap tree_of (sym (rolls-Buffer most inner s)) ∙ fold-roll-Expr Tree Trees tree_step trees_step (layer.Buffer most inner s)
