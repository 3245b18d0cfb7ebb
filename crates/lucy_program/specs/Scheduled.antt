-- What a program with clocks comes to: its net, its inputs and its outputs.
use Rattle.std.specs.Prelude.{ℕ, ◌-◌, ◌≤◌, List, map, length, slice_get}
use Rattle.std.specs.Option.{unwrap_or}
use Rattle.lucy_host.specs.declared.data_type.DataType.{DataType}
use Rattle.lucy_word.specs.Bits.{Bits}
use Rattle.lucy_word.specs.Limits.{limit_number}
use Rattle.lucy_word.specs.declared.limit.Limit.TheVariants as limit
use Rattle.lucy_lines.specs.declared.input.InputSpec.{InputSpec}
use Rattle.lucy_lines.specs.declared.output.OutputSpec.{OutputSpec}
use Rattle.lucy_place.specs.declared.placed.PlacedNode.{PlacedNode}
use Rattle.lucy_place.specs.Proper.{at_one}
use Rattle.lucy_types.specs.declared.ty.Ty.{Ty}
use Rattle.lucy_types.specs.declared.ty.Ty.TheVariants as ty
use Rattle.lucy_types.specs.Tables.{table_at, held}
use Rattle.lucy_need.specs.Meeting.{assigned}
use Rattle.lucy_clock.specs.declared.node_clock.NodeClock.{NodeClock}
use Rattle.lucy_kahn.specs.Spots.{main_of}
use Rattle.lucy_net.specs.declared.net.Net.{Net}
use Rattle.lucy_flat.specs.Instances.{words_in}
use Rattle.lucy_flat.specs.Refusals.{IsFlatNet, net_bits}
use Rattle.lucy_program.specs.Names.{of_one, place_name, param_places}

-- what a place of main holds, by the types of main's places: an open one holds numbers
abbrev pub held_at : List Ty → ℕ → DataType
held_at types place = held (unwrap_or (at_one types place) ty.Int)

-- an input of main: the place's name and the type of its values
abbrev pub main_input : PlacedNode → List Ty → ℕ → InputSpec
main_input main types place = record { name = place_name main place; holds = held_at types place }

-- an output of main: the place's name, the type of its values, and its word
abbrev pub main_output : PlacedNode → List Ty → List Bits → ℕ → OutputSpec
main_output main types words place = record { name = place_name main place; holds = held_at types place; word = assigned words place }

-- the inputs of a program: one for each parameter of main, its last node, in order
abbrev pub main_inputs : List PlacedNode → List (List Ty) → List InputSpec
main_inputs nodes tables = of_one (λ main. map (main_input main (table_at tables (length nodes - 1))) (param_places main)) (main_of nodes)

-- the outputs of a program: one for each result of main, in order
abbrev pub main_outputs : List PlacedNode → List (List Ty) → List NodeClock → List OutputSpec
main_outputs nodes tables clocks =
    let last = length nodes - 1 in
    of_one (λ main. map (main_output main (table_at tables last) (words_in (slice_get clocks last))) main.results) (main_of nodes)

-- the program's flat net, within its limits
pub record IsNetOf (nodes : List PlacedNode) (clocks : List NodeClock) (net : Net) : Type 0 where
  pub flat : IsFlatNet nodes clocks net
  pub few_bits : net_bits net ≤ limit_number limit.Bits
