-- What the law of names says: they are good, read off the tree, where the compiler finds no fault of them.
use Rattle.std.specs.Prelude.{◌≡◌, List, []}
use Rattle.lucy_word.specs.declared.limit.Limit.TheVariants as limit
use Rattle.lucy_host.specs.Operators.{Operator}
use Rattle.lucy_tree.specs.View.{ProgramTree}
use Rattle.lucy_naming.specs.declared.error.NameError.{NameError}
use Rattle.lucy_naming.specs.declared.error.NameError.TheVariants.{TooMany}
use Rattle.lucy_naming.specs.Faults.{faults}
use Rattle.lucy_naming.specs.Placing.{IsFirstFault}
use Rattle.lucy_right.specs.Names.{AreWellNamed}

-- a program without faults of names is well named
abbrev pub FaultlessAreWellNamed : Type 0
FaultlessAreWellNamed = (ops : List Operator) (program : ProgramTree) → faults ops program ≡ [] → AreWellNamed ops program

-- one that is well named has no fault first but that a node has too many places
abbrev pub WellNamedHaveNoFault : Type 0
WellNamedHaveNoFault = (ops : List Operator) (program : ProgramTree) (e : NameError) →
    AreWellNamed ops program → IsFirstFault (faults ops program) e → e ≡ TooMany limit.Places
