-- What the law of chosen clocks says.
use Rattle.std.specs.Prelude.{ℕ, ◌≡◌, List}
use Rattle.lucy_host.specs.Operators.{Operator}
use Rattle.lucy_tree.specs.View.{ProgramTree}
use Rattle.lucy_place.specs.Proper.{AreProper}
use Rattle.lucy_right.specs.Right.{Meaning, StandsFor}
use Rattle.lucy_right.specs.Earliest.{AreChosen}

-- a program with proper nodes stands for one thing whose clocks are chosen so
abbrev pub ChosenAreOne : Type 0
ChosenAreOne = (ops : List Operator) (scale lead : ℕ) (program : ProgramTree) (m other : Meaning) → AreProper m.nodes →
    StandsFor ops program m → StandsFor ops program other → AreChosen scale lead m → AreChosen scale lead other → m ≡ other
