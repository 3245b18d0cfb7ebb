-- What contracts see of a placed program.
use Rattle.std.specs.Prelude.{List, Option}
use Rattle.lucy_tree.specs.declared.span.Span.{Span}
use Rattle.lucy_place.specs.declared.placed.PlacedNode.{PlacedNode}

-- the nodes, and for each the first span that keeps it from being written, where there is one
pub record PlacedProgram : Type 0 where
  pub nodes : List PlacedNode
  pub unwritten : List (Option Span)
