-- What an expression is, apart from where it lies in memory.
use Rattle.std.specs.Prelude.{ℕ, Bool, List, [], ◌∷◌, Option}
use Rattle.lucy_word.specs.Bits.{Bits}
use Rattle.lucy_host.specs.declared.op.Op.{Op}
use Rattle.lucy_tree.specs.declared.span.Span.{Span}
use Rattle.lucy_tree.specs.declared.span.Name.{Name}
use Rattle.lucy_tree.specs.declared.expr.Lit.{Lit}

-- an expression, by its outermost form
mutual
  pub data Tree : Type 0 where
    literal : Lit → Span → Tree
    variable : Name → Tree
    operator : Op → Trees → Span → Tree
    host : Name → Trees → Tree
    sampled : Bool → Tree → Bits → Tree
    merged : Bits → Tree → Tree → Span → Tree
    followed : Lit → Tree → Span → Tree
    buffered : Option ℕ → Tree → Span → Tree
    call : Name → Option Bits → Trees → Tree

  pub data Trees : Type 0 where
    no_more : Trees
    more : Tree → Trees → Trees

-- the trees of a list
abbrev pub trees_of : List Tree → Trees
trees_of [] = no_more
trees_of (t ∷ ts) = more t (trees_of ts)

-- the list of trees
abbrev pub list_of : Trees → List Tree
list_of no_more = []
list_of (more t ts) = t ∷ list_of ts
