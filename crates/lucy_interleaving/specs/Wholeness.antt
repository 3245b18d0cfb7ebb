-- That the streams of an accepted program are whole, and that none of its lines is missing. Instants count from 1, results from 0.
use Rattle.std.specs.Prelude.{ℕ, ◌≤◌, ◌≡◌, true, List, length, ℤ, Some, slice_get}
use Rattle.lucy_word.specs.Bits.{Bits, bit_at, ones_to}
use Rattle.lucy_host.specs.Operators.{Operator, kinds_of}
use Rattle.lucy_stream.specs.Items.{list_at}
use Rattle.lucy_lines.specs.declared.output.OutputSpec.{OutputSpec}
use Rattle.lucy_lines.specs.Outputs.{value_at}
use Rattle.lucy_kahn.specs.Spots.{Spot, IsSpot}
use Rattle.lucy_flat.specs.Instances.{IsSpotWord}
use Rattle.lucy_results.specs.Streams.{main_streams}
use Rattle.lucy_program.specs.declared.accepted.Accepted.{Accepted}
use Rattle.lucy_program.specs.declared.options.Options.{Options}
use Rattle.lucy_interleaving.specs.Interleavings.{stream_for, IsFedText}

-- each place of the program with its calls written out has in K(T * A) at least as many items as its word has ones in T instants
abbrev pub PlacesAreWhole : Type 0
PlacesAreWhole = (ops : List Operator) (o : Options) (text : List ℕ) (a : Accepted) (inputs : List (List ℤ)) (horizon : ℕ)
    (spot : Spot) (word : Bits) →
    IsFedText ops o text a inputs horizon → IsSpot a.placed.nodes spot → IsSpotWord a.placed.nodes a.clocks.items spot word →
    ones_to word horizon ≤ length (stream_for (kinds_of ops) a inputs horizon spot)

-- at each instant up to the horizon at which the word of an output has a one, the output has a value, and so its line is there
abbrev pub NoLineIsMissing : Type 0
NoLineIsMissing = (ops : List Operator) (o : Options) (text : List ℕ) (a : Accepted) (inputs : List (List ℤ)) (horizon i : ℕ)
    (output : OutputSpec) (instant : ℕ) →
    IsFedText ops o text a inputs horizon → slice_get a.outputs.items i ≡ Some output → 1 ≤ instant → instant ≤ horizon →
    bit_at output.word instant ≡ true →
    (value : ℤ)
    × (value_at output (list_at (main_streams (kinds_of ops) inputs a.placed.nodes a.clocks.items horizon) i) instant ≡ Some value)
