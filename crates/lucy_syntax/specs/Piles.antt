-- Expressions on a pile, as contracts see them: by their trees, the last one on top.
use Rattle.std.specs.Prelude.{ℕ, Bool, List, [], ◌∷◌, ◌++◌, ◌≡◌, ◌<◌, Option, Result, MatchResult, length, map}
use Rattle.std.specs.Option.{option_map}
use Rattle.std.specs.Borrow.{Bor}
use Rattle.lucy_word.specs.Bits.{Bits}
use Rattle.lucy_tree.specs.Tree.{Tree, sampled}
use Rattle.lucy_tree.specs.View.{tree_of}
use Rattle.lucy_tree.specs.declared.expr.Expr.{Expr}
use Rattle.lucy_token.specs.declared.token.Token.{Token}
use Rattle.lucy_grammar.specs.Symbols.{Part}
use Rattle.lucy_grammar.specs.Meanings.{token_word}
use Rattle.lucy_grammar.specs.Reading.{Reads}
use Rattle.lucy_syntax.specs.declared.refusal.Refusal.{Refusal}
use Rattle.lucy_syntax.specs.declared.refusal.Refusal.TheVariants.{OutOfMemory}
use Rattle.lucy_syntax.specs.Refusals.{RefusedBy}

-- the trees of expressions, one after the other
abbrev pub trees : List Expr → List Tree
trees es = map tree_of es

-- the word of a call's base, where it is written
abbrev pub base_word : Option (Bor Token) → Option Bits
base_word base = option_map (λ t. token_word t.now.what) base

-- these trees lie on a pile, and both are the other one
pub record Lies (under : List Expr) (es : List Tree) (pile : List Expr) : Type 0 where
  pub is : trees pile ≡ trees under ++ es

-- the last trees, if this holds of them, are replaced by the one that is made of them
abbrev pub Grouped : (List Tree → Type 0) → (List Tree → Tree) → List Expr → List Expr → Type 0
Grouped P made old new = (under : List Expr) (es : List Tree) → P es → Lies under es old → Lies under (made es ∷ []) new

-- the last tree is replaced by the one that is made of it
abbrev pub Wrapped : (Tree → Tree) → List Expr → List Expr → Type 0
Wrapped made old new = (under : List Expr) (e : Tree) → Lies under (e ∷ []) old → Lies under (made e ∷ []) new

-- the last two are
abbrev pub Joined : (Tree → Tree → Tree) → List Expr → List Expr → Type 0
Joined made old new = (under : List Expr) (a b : Tree) → Lies under (a ∷ b ∷ []) old → Lies under (made a b ∷ []) new

-- a sampling is read, and the last tree is replaced by itself with the sampling
abbrev pub Samples : List Token → List Expr → List Expr → List Token → Type 0
Samples ts old new rest = (v : Bool × Bits) × Reads Part.Sampling ts v rest × Wrapped (λ e. sampled v.0 e v.1) old new × (length rest < length ts)

-- the pile changes so, and these tokens are left, unless memory runs out
abbrev pub Makes : Type 0 → List Token → Result (Bor (List Token)) Refusal → Type 0
Makes P ts r = MatchResult r (λ rest. P × (rest.now ≡ ts)) (λ e. e ≡ OutOfMemory)

-- a tree is put on the pile, of which this holds and the tokens that are left, fewer than n
pub record Puts (P : Tree → List Token → Type 0) (n : ℕ) (old new : List Expr) (rest : List Token) : Type 0 where
  pub tree : Tree
  pub reads : P tree rest
  pub put : Lies old (tree ∷ []) new
  pub shorter : length rest < n

-- the same of several trees
pub record PutsAll (P : List Tree → List Token → Type 0) (n : ℕ) (old new : List Expr) (rest : List Token) : Type 0 where
  pub list : List Tree
  pub reads : P list rest
  pub put : Lies old list new
  pub shorter : length rest < n

-- what a function of the descent promises: it puts such a tree on the pile, or it is refused so
abbrev pub Descends : (Tree → List Token → Type 0) → (List Token → Type 0) → ℕ → List Expr → List Expr → Result (Bor (List Token)) Refusal → Type 0
Descends P Q n old new r = MatchResult r (λ rest. Puts P n old new rest.now) (RefusedBy Q)

abbrev pub DescendsAll : (List Tree → List Token → Type 0) → (List Token → Type 0) → ℕ → List Expr → List Expr → Result (Bor (List Token)) Refusal → Type 0
DescendsAll P Q n old new r = MatchResult r (λ rest. PutsAll P n old new rest.now) (RefusedBy Q)
