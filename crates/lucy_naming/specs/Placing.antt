-- What is told of a program: its places, or what is wrong with its names.
use Rattle.std.specs.Prelude.{◌≡◌, ◌⊎◌, List, [], Err, map}
use Rattle.lucy_host.specs.Operators.{Operator}
use Rattle.lucy_tree.specs.View.{ProgramTree}
use Rattle.lucy_naming.specs.declared.error.NameError.{NameError}
use Rattle.lucy_naming.specs.declared.error.NameError.TheVariants.{OutOfMemory}
use Rattle.lucy_naming.specs.Faults.{faults, verdict}
use Rattle.lucy_naming.specs.Places.{AreNodesOf}
use Rattle.lucy_naming.specs.Written.{first_unwritten}
use Rattle.lucy_place.specs.PlacedProgram.{PlacedProgram}

-- the first of the faults
abbrev pub IsFirstFault : List NameError → NameError → Type 0
IsFirstFault fs e = verdict fs ≡ Err e

-- the first of the faults, unless memory ran out
abbrev pub TellsFirstFault : List NameError → NameError → Type 0
TellsFirstFault fs e = (e ≡ OutOfMemory) ⊎ IsFirstFault fs e

-- the program's names are good, where the host has these operators, and these are its nodes with their places
pub record IsPlaced (ops : List Operator) (p : ProgramTree) (v : PlacedProgram) : Type 0 where
  pub good : faults ops p ≡ []
  pub nodes : AreNodesOf ops p v.nodes
  pub unwritten : v.unwritten ≡ map first_unwritten p
