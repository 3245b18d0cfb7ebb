-- The shape of forms: each head has as many operands as it takes, and the word that it wants.
use Rattle.std.proofs.Common.{◌≡◌, ◌<◌, ℕ, zero, suc, List, [], ◌∷◌, length, map, get_or, true, refl, sym, ◌∙◌, subst, arith}
use Rattle.std.specs.List.{AllByRecursion}
use Rattle.lucy_host.specs.Arity.{arity}
use Rattle.lucy_tree.specs.Tree.{Tree, Trees, literal, variable, operator, host, sampled, merged, followed, buffered, call, no_more, more, list_of, trees_of}
use Rattle.lucy_tree.specs.declared.expr.Expr.{Expr}
use Rattle.lucy_tree.specs.declared.program.Def.{Def}
use Rattle.lucy_tree.specs.declared.program.Node.{Node}
use Rattle.lucy_tree.specs.View.{tree_of, def_tree, node_tree}
use Rattle.lucy_tree.specs.Shaped.{HasZero, IsBound, IsShaped, AreShaped, IsShapedDef, IsShapedNode}
use Rattle.lucy_naming.specs.Phrases.{Head, Literal, Applied, Host, Sampled, Merged, Followed, Buffered, Called, Phrase, Phrases, name, headed, none, and, phrase_of, phrases_of, count}
use Rattle.lucy_naming.specs.Numbering.{Next, past, numbers}
use Rattle.lucy_naming.specs.Places.{Known}

-- a head takes so many operands; the word of `whenot` and of `merge` has a zero, and a written bound is small
abbrev pub Takes : Head → ℕ → Type 0
Takes (Literal l) n = n ≡ 0
Takes (Applied op) n = n ≡ arity op
Takes (Host function) n = n ≡ 2
Takes (Sampled flip w) n = (n ≡ 1) × (flip ≡ true → HasZero w)
Takes (Merged w) n = (n ≡ 2) × HasZero w
Takes (Followed l) n = n ≡ 1
Takes (Buffered most) n = (n ≡ 1) × IsBound most
Takes (Called node base) n = Unit {0}

abbrev mutual
  pub HasShape : Phrase → Type 0
  HasShape (name n) = Unit {0}
  HasShape (headed h span fs) = Takes h (count fs) × HaveShape fs

  pub HaveShape : Phrases → Type 0
  HaveShape none = Unit {0}
  HaveShape (and f fs) = HasShape f × HaveShape fs

count_of : (ts : Trees) → count (phrases_of ts) ≡ length (list_of ts)
count_of no_more = refl
count_of (more t ts) = omega (arith, count_of ts)

mutual
  pub has_shape : (t : Tree) → IsShaped t → HasShape (phrase_of t)
  has_shape (literal l span) s = (refl, tt)
  has_shape (variable n) s = tt
  has_shape (operator op args span) s = (count_of args ∙ s.0, have_shape args s.1)
  has_shape (host n args) s = (count_of args ∙ s.0, have_shape args s.1)
  has_shape (sampled flip e w) s = ((refl, s.0), (has_shape e s.1, tt))
  has_shape (merged w a b span) s = ((refl, s.0), (has_shape a s.1, (has_shape b s.2, tt)))
  has_shape (followed l e span) s = (refl, (has_shape e s, tt))
  has_shape (buffered most e span) s = ((refl, s.0), (has_shape e s.1, tt))
  has_shape (call n at args) s = (tt, have_shape args s)

  pub have_shape : (ts : Trees) → AreShaped ts → HaveShape (phrases_of ts)
  have_shape no_more s = tt
  have_shape (more t ts) s = (has_shape t s.0, have_shape ts s.1)

-- as many numbers as operands
pub count_numbers : (k : Known) (at : Next) (fs : Phrases) → count fs ≡ length (numbers k at fs)
count_numbers k at none = refl
count_numbers k at (and f fs) = omega (arith, count_numbers k (past at 1 f) fs)

-- one of expressions, and one of definitions
pub shaped_at : (es : List Expr) (i : ℕ) (e : Expr) → i < length es → e ≡ get_or es i e → AreShaped (trees_of (map tree_of es)) → IsShaped (tree_of e)
shaped_at [] i e h is s = absurd (omega arith)
shaped_at (x ∷ es) zero e h is s = subst (λ y. IsShaped (tree_of y)) (sym is) s.0
shaped_at (x ∷ es) (suc i) e h is s = shaped_at es i e (omega (arith, h)) is s.1

pub def_shaped_at : (ds : List Def) (i : ℕ) (d : Def) → i < length ds → d ≡ get_or ds i d → AllByRecursion IsShapedDef (map def_tree ds) → IsShapedDef (def_tree d)
def_shaped_at [] i d h is s = absurd (omega arith)
def_shaped_at (x ∷ ds) zero d h is s = subst (λ y. IsShapedDef (def_tree y)) (sym is) s.0
def_shaped_at (x ∷ ds) (suc i) d h is s = def_shaped_at ds i d (omega (arith, h)) is s.1

pub node_shaped_at : (ns : List Node) (i : ℕ) (n : Node) → i < length ns → n ≡ get_or ns i n → AllByRecursion IsShapedNode (map node_tree ns) → IsShapedNode (node_tree n)
node_shaped_at [] i n h is s = absurd (omega arith)
node_shaped_at (x ∷ ns) zero n h is s = subst (λ y. IsShapedNode (node_tree y)) (sym is) s.0
node_shaped_at (x ∷ ns) (suc i) n h is s = node_shaped_at ns i n (omega (arith, h)) is s.1
