-- The bounds of a node's buffers: as many as buffers, and small.
use Rattle.std.proofs.Common.{ℕ, ◌+◌, ◌≡◌, List, [], ◌∷◌, ◌++◌, Option, length, length-append, arith}
use Rattle.std.specs.List.{AllByRecursion}
use Rattle.lucy_tree.specs.View.{DefTree}
use Rattle.lucy_tree.specs.Shaped.{IsBound, IsShapedDef}
use Rattle.lucy_naming.specs.Phrases.{Head, Literal, Applied, Host, Sampled, Merged, Followed, Buffered, Called, Phrase, Phrases, name, headed, none, and, phrase_of}
use Rattle.lucy_naming.specs.Numbering.{Next, bounds, all_bounds}
use Rattle.lucy_naming.specs.Places.{own_bounds}
use Rattle.lucy_naming.specs.Nodes.{past_def, past_defs, def_bounds}
use Rattle.lucy_naming.proofs.ShapeLaws.{Takes, HasShape, HaveShape, has_shape}

-- the numbers of buffers go on by the bounds
pub past_bounds : (at : Next) (ds : List DefTree) → (past_defs at ds).buffer ≡ at.buffer + length (def_bounds ds)
past_bounds at [] = omega arith
past_bounds at (d ∷ ds) =
    let more = past_bounds (past_def at d) ds in
    omega (arith, more, length-append (bounds (phrase_of d.right)) (def_bounds ds))

small_join : (xs ys : List (Option ℕ)) → AllByRecursion IsBound xs → AllByRecursion IsBound ys → AllByRecursion IsBound (xs ++ ys)
small_join [] ys a b = b
small_join (x ∷ xs) ys a b = (a.0, small_join xs ys a.1 b)

own_small : (h : Head) (n : ℕ) → Takes h n → AllByRecursion IsBound (own_bounds h)
own_small (Literal l) n takes = tt
own_small (Applied op) n takes = tt
own_small (Host t) n takes = tt
own_small (Sampled flip w) n takes = tt
own_small (Merged w) n takes = tt
own_small (Followed l) n takes = tt
own_small (Buffered most) n takes = (takes.1, tt)
own_small (Called t base) n takes = tt

mutual
  small : (f : Phrase) → HasShape f → AllByRecursion IsBound (bounds f)
  small (name t) shape = tt
  small (headed h span fs) shape = small_join (own_bounds h) (all_bounds fs) (own_small h _ shape.0) (all_small fs shape.1)

  all_small : (fs : Phrases) → HaveShape fs → AllByRecursion IsBound (all_bounds fs)
  all_small none shape = tt
  all_small (and f fs) shape = small_join (bounds f) (all_bounds fs) (small f shape.0) (all_small fs shape.1)

-- the bounds of shaped definitions are small
pub defs_small : (ds : List DefTree) → AllByRecursion IsShapedDef ds → AllByRecursion IsBound (def_bounds ds)
defs_small [] shape = tt
defs_small (d ∷ ds) shape = small_join (bounds (phrase_of d.right)) (def_bounds ds) (small (phrase_of d.right) (has_shape d.right shape.0.right)) (defs_small ds shape.1)
