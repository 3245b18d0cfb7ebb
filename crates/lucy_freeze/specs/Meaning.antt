-- That a program means the same with its clocks written out.
use Rattle.std.specs.Prelude.{ℕ, ◌≡◌, List, ℤ, Some, slice_get}
use Rattle.lucy_host.specs.declared.kind.HostKind.{HostKind}
use Rattle.lucy_host.specs.Operators.{Operator}
use Rattle.lucy_program.specs.declared.accepted.Accepted.{Accepted}
use Rattle.lucy_program.specs.declared.options.Options.{Options}
use Rattle.lucy_kahn.specs.Horizons.{Suffice}
use Rattle.lucy_results.specs.Streams.{param_words, main_streams}
use Rattle.lucy_place.specs.declared.placed.PlacedNode.{PlacedNode}
use Rattle.lucy_place.specs.WrittenNodes.{IsWritten}
use Rattle.lucy_freeze.specs.Freezing.{IsFrozen}

-- the inputs that suffice for so many instants give the same output streams up to there
abbrev pub MeansTheSame : Accepted → Accepted → Type 0
MeansTheSame program twin =
    (kinds : List HostKind) (inputs : List (List ℤ)) (instants : ℕ) → Suffice (param_words program.placed.nodes program.clocks.items) inputs instants →
    main_streams kinds inputs twin.placed.nodes twin.clocks.items instants ≡ main_streams kinds inputs program.placed.nodes program.clocks.items instants

-- a frozen program does
abbrev pub FrozenProgramsMeanTheSame : Type 0
FrozenProgramsMeanTheSame = (operators : List Operator) (o : Options) (text frozen : List ℕ) (twin : Accepted) → (is : IsFrozen operators o text frozen twin) → MeansTheSame is.program twin

-- each of its nodes is written
abbrev pub FrozenProgramsAreWritten : Type 0
FrozenProgramsAreWritten =
    (operators : List Operator) (o : Options) (text frozen : List ℕ) (twin : Accepted) → IsFrozen operators o text frozen twin → (i : ℕ) (n : PlacedNode) → slice_get twin.placed.nodes i ≡ Some n → IsWritten n
