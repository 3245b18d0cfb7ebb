-- The search for the form of a number.
use Rattle.std.specs.Prelude.{ℕ, zero, suc, Option, Some, None}
use Rattle.std.specs.Option.{option_map}
use Rattle.lucy_tree.specs.Tree.{Tree}
use Rattle.lucy_tree.specs.View.{tree_of}
use Rattle.lucy_picture.specs.declared.forms.Search.{Search}

-- how many forms stand before it, and the form where it is found
pub record Seek : Type 0 where
  pub skip : ℕ
  pub found : Option Tree

abbrev pub seek_by : (skip : ℕ) (found : Option Tree) → Tree → Seek
seek_by skip (Some u) t = record { skip = skip; found = Some u }
seek_by zero None t = record { skip = 0; found = Some t }
seek_by (suc skip) None t = record { skip = skip; found = None }

-- past one form
abbrev pub seek : Seek → Tree → Seek
seek s t = seek_by s.skip s.found t

-- what is seen of a search
abbrev pub seen : Search → Seek
seen s = record { skip = s.skip; found = option_map (λ e. tree_of e.now) s.found }
