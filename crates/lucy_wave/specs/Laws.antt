-- Laws of the dumps of runs.
use Rattle.std.specs.Prelude.{ℕ, ℤ, ◌≤◌, ◌≡◌, List, ◌++◌, length, Option, Some, IfSome, slice_get}
use Rattle.lucy_word.specs.Limits.{limit_number}
use Rattle.lucy_word.specs.declared.limit.Limit.TheVariants as limit
use Rattle.lucy_host.specs.Operators.{Operator}
use Rattle.lucy_host.specs.declared.kind.HostKind.{HostKind}
use Rattle.lucy_text.specs.Sources.{ReadStop}
use Rattle.lucy_lines.specs.declared.output.OutputSpec.{OutputSpec}
use Rattle.lucy_kahn.specs.Spots.{main_of}
use Rattle.lucy_kahn.specs.Turns.{params_in}
use Rattle.lucy_results.specs.Streams.{main_word}
use Rattle.lucy_program.specs.declared.accepted.Accepted.{Accepted}
use Rattle.lucy_program.specs.declared.options.Options.{Options}
use Rattle.lucy_program.specs.Accepting.{IsAccepted}
use Rattle.lucy_run.specs.declared.ending.Ending.{Ending}
use Rattle.lucy_run.specs.Owes.{heading, OwesRun}
use Rattle.lucy_wave.specs.Reading.{SaysOutput, ReadsFrom}
use Rattle.lucy_wave.specs.Dumps.{Variable}
use Rattle.lucy_wave.specs.Waves.{variables, IsWave, OwesWave}

-- The dump that is owed of an accepted program says, read back, the output lines that `run` owes of the same input, and both end alike.
abbrev pub WavesAreReadBack : Type 0
WavesAreReadBack = (ops : List Operator) (o : Options) (text : List ℕ) (kinds : List HostKind) (a : Accepted) (given : Option ℕ) (taken : List ℕ) (stop : ReadStop) (dump printed : List ℕ) (end other : Ending) →
    IsAccepted ops o text a → IfSome given (λ most. most ≤ limit_number limit.Instants) → OwesWave kinds a given taken stop dump end → OwesRun kinds a given taken stop printed other →
    (count : ℕ) × (lines : List ℕ) × SaysOutput dump a.outputs.items count lines × (printed ≡ heading a ++ lines) × (end ≡ other)

-- the bytes taken and how reading stopped owe one dump, with one ending
abbrev pub OneWave : Type 0
OneWave = (kinds : List HostKind) (a : Accepted) (given : Option ℕ) (taken : List ℕ) (stop : ReadStop) (output out : List ℕ) (end other : Ending) →
    OwesWave kinds a given taken stop output end → OwesWave kinds a given taken stop out other → (output ≡ out) × (end ≡ other)

-- a variable has one value at a step
abbrev pub OneReading : Type 0
OneReading = (code : List ℕ) (step : ℕ) (held : Option ℕ) (lines : List (List ℕ)) (value other : Option ℕ) →
    ReadsFrom code step held lines value → ReadsFrom code step held lines other → value ≡ other

-- a text says the output lines of one count of instants
abbrev pub OneCount : Type 0
OneCount = (text : List ℕ) (outputs : List OutputSpec) (count other : ℕ) (output out : List ℕ) →
    SaysOutput text outputs count output → SaysOutput text outputs other out → count ≡ other

-- two variables of a list that have one name are one
abbrev pub AreDistinct : List Variable → Type 0
AreDistinct vs = (i j : ℕ) (v u : Variable) → slice_get vs i ≡ Some v → slice_get vs j ≡ Some u → v.name ≡ u.name → i ≡ j

-- the variables in the dump of an accepted program have names of their own
abbrev pub NamesAreDistinct : Type 0
NamesAreDistinct = (ops : List Operator) (o : Options) (text : List ℕ) (a : Accepted) (lists streams : List (List ℤ)) (inside : Option (List (List ℤ))) (horizon : ℕ) (dump : List ℕ) →
    IsAccepted ops o text a → (wave : IsWave a.placed.nodes a.clocks.items a.outputs.items lists streams inside horizon dump) → length lists ≡ params_in (main_of a.placed.nodes) →
    AreDistinct (variables wave.main (main_word a.placed.nodes a.clocks.items) a.outputs.items lists streams inside)
