-- What a comparison hands on.
use Rattle.std.specs.Prelude.{ℕ, List}
use Rattle.lucy_host.specs.Operators.{Operator}
use Rattle.lucy_program.specs.declared.accepted.Accepted.{Accepted}
use Rattle.lucy_program.specs.declared.options.Options.{Options}
use Rattle.lucy_program.specs.Accepting.{IsAccepted}
use Rattle.lucy_freeze.specs.declared.error.FreezeError.{FreezeError}
use Rattle.lucy_freeze.specs.Freezing.{IsUnfrozen}

-- why no text is answered for any text that is accepted as this program
abbrev pub IsNotFrozen : Accepted → FreezeError → Type 0
IsNotFrozen program e = (operators : List Operator) (o : Options) (text : List ℕ) → IsAccepted operators o text program → IsUnfrozen operators o text e
