-- What the functions of this crate see of what they are given.
use Rattle.std.specs.Prelude.{ℕ, List, [], ◌++◌, length, map, not, nat_lt}
use Rattle.lucy_word.specs.declared.limit.Limit.TheVariants as limit
use Rattle.lucy_tree.specs.declared.span.Name.{Name}
use Rattle.lucy_tree.specs.View.{NodeTree, node_tree}
use Rattle.lucy_naming.specs.declared.error.NameError.{NameError}
use Rattle.lucy_naming.specs.declared.error.NameError.TheVariants.{TooMany}
use Rattle.lucy_naming.specs.declared.names.Names.{Names}
use Rattle.lucy_naming.specs.Faults.{Within, unless, def_faults, result_faults}
use Rattle.lucy_place.specs.Standing.{most_places}
use Rattle.lucy_naming.specs.Places.{Known, as_placed}

-- the bytes of a name
abbrev pub text_of : Name → List ℕ
text_of n = n.text

-- where names stand
abbrev pub within_of : Names → Within
within_of n = record { operators = n.ops.now; all = map node_tree n.all.now; above = map node_tree n.above.now; streams = n.streams.now }

-- what names stand for
abbrev pub known_of : Names → Known
known_of n = record { operators = n.ops.now; nodes = n.nodes.now; streams = n.streams.now }

-- what is wrong with a node whose name and streams are good
abbrev pub inner_faults : Within → NodeTree → List NameError
inner_faults w n = def_faults w n.defs ++ (result_faults w.streams [] n.results ++ unless (not (nat_lt most_places (length (as_placed w.operators w.above n).places))) (TooMany limit.Places))
