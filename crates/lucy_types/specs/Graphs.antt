-- Graphs of places as rules.
use Rattle.std.specs.Prelude.{ℕ, ◌≡◌, ◌≤◌, ◌<◌, ◌∷◌, ◌++◌, Bool as Truth, true, false, List, [], length, slice_index_or, slice_set}
use Rattle.std.specs.List.{Contains}
use Rattle.lucy_host.specs.declared.data_type.DataType.{DataType}
use Rattle.lucy_host.specs.declared.data_type.DataType.TheVariants.{Int, Bool}
use Rattle.lucy_types.specs.declared.graph.Graph.{Graph}
use Rattle.lucy_types.specs.declared.rule.Rule.{Rule}
use Rattle.lucy_types.specs.declared.rule.Rule.TheVariants.{Is, Alike}
use Rattle.lucy_types.specs.Clash.{Touch}

-- whether the list has a true at the number
abbrev pub HasTrue : List Truth → ℕ → Type 0
HasTrue xs p = slice_index_or xs p false ≡ true

-- the places beside one
abbrev pub beside : List (List ℕ) → ℕ → List ℕ
beside near p = slice_index_or near p []

-- what a graph says of its places, as rules
abbrev pub GraphRule : Graph → Rule → Type 0
GraphRule g (Is p Int) = HasTrue g.ints.items p
GraphRule g (Is p Bool) = HasTrue g.bools.items p
GraphRule g (Alike p q) = Contains (beside g.near.items p) q

-- how many numbers the graph has room for: one more than places, which count from 1
abbrev pub room : Graph → ℕ
room g = length g.near.items

-- the places of a rule count from 1, and stand below the number
abbrev pub IsRuleBelow : ℕ → Rule → Type 0
IsRuleBelow most (Is p t) = (1 ≤ p) × (p < most)
IsRuleBelow most (Alike p q) = ((1 ≤ p) × (p < most)) × ((1 ≤ q) × (q < most))

-- each of the rules fits
abbrev pub AllFit : ℕ → List Rule → Type 0
AllFit most rules = (rule : Rule) → Contains rules rule → IsRuleBelow most rule

-- the graph has as much room for each of its lists
abbrev pub IsEven : Graph → Type 0
IsEven g = (length g.ints.items ≡ length g.near.items) × (length g.bools.items ≡ length g.near.items)

-- the graph says what the rules say, and that alike places are so either way round
pub record IsDrawn (rules : List Rule) (g : Graph) : Type 0 where
  pub says_is : (p : ℕ) (t : DataType) → GraphRule g (Is p t) → Contains rules (Is p t)
  pub says_alike : (p q : ℕ) → GraphRule g (Alike p q) → Touch (Contains rules) p q
  pub all : (rule : Rule) → Contains rules rule → GraphRule g rule
  pub turned : (p q : ℕ) → GraphRule g (Alike p q) → GraphRule g (Alike q p)

-- the places beside, once one more is beside another
abbrev pub added : List (List ℕ) → ℕ → ℕ → List (List ℕ)
added near p q = slice_set near p (beside near p ++ q ∷ [])

-- the places beside, once two more are alike
abbrev pub joined : List (List ℕ) → ℕ → ℕ → List (List ℕ)
joined near p q = added (added near p q) q p

-- the graph says one rule more
abbrev pub DrawsRule : Rule → Graph → Graph → Type 0
DrawsRule (Is p Int) old new = (new.ints.items ≡ slice_set old.ints.items p true) × (new.bools.items ≡ old.bools.items) × (new.near.items ≡ old.near.items)
DrawsRule (Is p Bool) old new = (new.ints.items ≡ old.ints.items) × (new.bools.items ≡ slice_set old.bools.items p true) × (new.near.items ≡ old.near.items)
DrawsRule (Alike p q) old new = (new.ints.items ≡ old.ints.items) × (new.bools.items ≡ old.bools.items) × (new.near.items ≡ joined old.near.items p q)

-- what a flood needs of a graph
pub record IsGraph (g : Graph) : Type 0 where
  pub ints : length g.ints.items ≡ length g.near.items
  pub bools : length g.bools.items ≡ length g.near.items
  pub fits : (rule : Rule) → GraphRule g rule → IsRuleBelow (length g.near.items) rule
  pub turned : (p q : ℕ) → GraphRule g (Alike p q) → GraphRule g (Alike q p)
