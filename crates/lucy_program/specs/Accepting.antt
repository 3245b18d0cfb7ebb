-- What a text is accepted as.
use Rattle.std.specs.Prelude.{ℕ, ◌≡◌, List}
use Rattle.lucy_host.specs.Operators.{Operator}
use Rattle.lucy_tree.specs.View.{ProgramTree}
use Rattle.lucy_grammar.specs.Texts.{HasTree}
use Rattle.lucy_place.specs.PlacedProgram.{PlacedProgram}
use Rattle.lucy_naming.specs.Placing.{IsPlaced}
use Rattle.lucy_types.specs.declared.ty.Ty.{Ty}
use Rattle.lucy_types.specs.Programs.{IsTyped}
use Rattle.lucy_clock.specs.declared.node_clock.NodeClock.{NodeClock}
use Rattle.lucy_net.specs.Schedules.{IsScheduleOf}
use Rattle.lucy_program.specs.declared.accepted.Accepted.{Accepted}
use Rattle.lucy_program.specs.declared.options.Options.{Options}
use Rattle.lucy_program.specs.Clocked.{AreClocksOf}
use Rattle.lucy_program.specs.Scheduled.{main_inputs, main_outputs, IsNetOf}

-- the text has this tree, whose names are good where the host has these operators, and these are its places
pub record IsPlacedText (ops : List Operator) (text : List ℕ) (placed : PlacedProgram) : Type 0 where
  pub tree : ProgramTree
  pub read : HasTree text tree
  pub is_placed : IsPlaced ops tree placed

-- and each of its nodes has types
pub record IsTypedText (ops : List Operator) (text : List ℕ) (placed : PlacedProgram) (tables : List (List Ty)) : Type 0 where
  pub program : IsPlacedText ops text placed
  pub typed : IsTyped placed.nodes tables

-- and clocks, with these options
pub record IsClockedText (ops : List Operator) (o : Options) (text : List ℕ) (placed : PlacedProgram) (tables : List (List Ty)) (node_clocks : List NodeClock) : Type 0 where
  pub program : IsTypedText ops text placed tables
  pub clocks : AreClocksOf o placed.nodes node_clocks

-- the text is accepted as this: its places, their types, and the clocks of its nodes, its flat net and a sound schedule of that,
-- its inputs and its outputs
pub record IsAccepted (ops : List Operator) (o : Options) (text : List ℕ) (a : Accepted) : Type 0 where
  pub clocked : IsClockedText ops o text a.placed a.typed a.clocks.items
  pub net : IsNetOf a.placed.nodes a.clocks.items a.net
  pub schedule : IsScheduleOf a.net a.schedule
  pub inputs : a.inputs.items ≡ main_inputs a.placed.nodes a.typed
  pub outputs : a.outputs.items ≡ main_outputs a.placed.nodes a.typed a.clocks.items
