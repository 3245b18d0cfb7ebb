-- What is answered for a text: the text of the same program with its clocks written out, or why there is none.
use Rattle.std.specs.Prelude.{ℕ, true, List}
use Rattle.lucy_host.specs.Operators.{Operator}
use Rattle.lucy_program.specs.declared.accepted.Accepted.{Accepted}
use Rattle.lucy_program.specs.declared.options.Options.{Options}
use Rattle.lucy_program.specs.Accepting.{IsAccepted}
use Rattle.lucy_front.specs.Refusing.{Refuses}
use Rattle.lucy_front.specs.Refusals.{IsTellable}
use Rattle.lucy_freeze.specs.declared.error.FreezeError.{FreezeError}
use Rattle.lucy_freeze.specs.declared.error.FreezeError.TheVariants.{Program, Text, Differs, OutOfMemory}
use Rattle.lucy_freeze.specs.Frozen.{AreFrozen}

-- the options by which each node has to be written
abbrev pub all_written : Options → Options
all_written o = record { scale = o.scale; lead = o.lead; written_only = true }

-- the text is accepted, and the frozen text is accepted as this, with all clocks written: the same program with its clocks written out
pub record IsFrozen (operators : List Operator) (o : Options) (text frozen : List ℕ) (twin : Accepted) : Type 0 where
  pub program : Accepted
  pub accepted : IsAccepted operators o text program
  pub checked : IsAccepted operators (all_written o) frozen twin
  pub same : AreFrozen program.placed.nodes program.clocks.items twin.placed.nodes twin.clocks.items

-- why a text has no frozen text: it is refused; or it is accepted, and a text with its clocks written out is refused, or is told to be
-- another program
abbrev pub IsUnfrozen : List Operator → Options → List ℕ → FreezeError → Type 0
IsUnfrozen operators o text (Program refusal) = Refuses operators o text refusal × IsTellable refusal
IsUnfrozen operators o text (Text refusal) = (program : Accepted) × IsAccepted operators o text program × IsTellable refusal
IsUnfrozen operators o text Differs = (program : Accepted) × IsAccepted operators o text program
IsUnfrozen operators o text OutOfMemory = Unit {0}
