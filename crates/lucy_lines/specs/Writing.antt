-- What a writer of output lines is seen as.
use Rattle.std.specs.Prelude.{ℕ, Bool, false, List}
use Rattle.lucy_lines.specs.declared.output.OutputSpec.{OutputSpec}

-- The outputs, how many instants were written, and whether a write of lines was begun and not ended.
pub record WriterState : Type 0 where
  pub outputs : List OutputSpec
  pub instants : ℕ
  pub broken : Bool

-- a writer of the outputs that has written nothing
abbrev pub new_writer : List OutputSpec → WriterState
new_writer outputs = record { outputs = outputs; instants = 0; broken = false }
