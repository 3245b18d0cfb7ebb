-- What an accepted program is to those that run it.
use Rattle.std.proofs.Common.{◌≡◌, ℕ, ◌-◌, ◌<◌, ◌≤◌, ◌^◌, List, Option, Some, None, map, refl, ap, ◌∙◌, arith}
use Rattle.std.specs.Prelude.{length, slice_get}
use Rattle.std.proofs.lemmas.List.{length-map}
use Rattle.std.proofs.lemmas.Simd.{map-map}
use Rattle.lucy_host.specs.Operators.{Operator}
use Rattle.lucy_place.specs.declared.placed.PlacedNode.{PlacedNode}
use Rattle.lucy_place.specs.Proper.{AreProper}
use Rattle.lucy_types.specs.declared.ty.Ty.{Ty}
use Rattle.lucy_types.specs.Tables.{table_at}
use Rattle.lucy_word.specs.Bits.{Bits}
use Rattle.lucy_kahn.specs.Spots.{main_of, results_in}
use Rattle.lucy_kahn.specs.Turns.{params_in}
use Rattle.lucy_net.specs.Schedules.{events_at}
use Rattle.lucy_flat.specs.Instances.{words_in}
use Rattle.lucy_host.specs.declared.kind.HostKind.{HostKind}
use Rattle.lucy_need.specs.Meeting.{assigned}
use Rattle.lucy_lines.specs.declared.output.OutputSpec.{OutputSpec}
use Rattle.lucy_results.specs.Running.{HasSchedule}
use Rattle.lucy_run.specs.Courses.{CanBeRunInBlocks}
use Rattle.lucy_program.specs.declared.accepted.Accepted.{Accepted}
use Rattle.lucy_program.specs.declared.options.Options.{Options}
use Rattle.lucy_program.specs.Accepting.{IsAccepted}
use Rattle.lucy_program.specs.Names.{of_one, param_places}
use Rattle.lucy_program.specs.Scheduled.{main_input, main_output}
use Rattle.lucy_program.proofs.AcceptedLaws.{text_proper}
use Rattle.std.proofs.lemmas.List.FromFn.{length-map-range_with_len}

inputs_counted : (main : Option PlacedNode) (types : List Ty) → length (of_one (λ n. map (main_input n types) (param_places n)) main) ≡ params_in main
inputs_counted None types = refl
inputs_counted (Some n) types = length-map-range_with_len (main_input n types) 1 n.params

outputs_counted : (main : Option PlacedNode) (types : List Ty) (words : List Bits) → length (of_one (λ n. map (main_output n types words) n.results) main) ≡ length (results_in main)
outputs_counted None types words = refl
outputs_counted (Some n) types words = length-map n.results (main_output n types words)

-- of which each has the word of its result
outputs_words : (main : Option PlacedNode) (types : List Ty) (words : List Bits) →
    map (λ (o : OutputSpec). o.word) (of_one (λ n. map (main_output n types words) n.results) main) ≡ map (assigned words) (results_in main)
outputs_words None types words = refl
outputs_words (Some n) types words = map-map (λ (o : OutputSpec). o.word) (main_output n types words) n.results

few_in : (nodes : List PlacedNode) (main : Option PlacedNode) → AreProper nodes → slice_get nodes (length nodes - 1) ≡ main → params_in main < 2 ^ 32
few_in nodes None proper e = omega arith
few_in nodes (Some n) proper e =
    let own = proper (length nodes - 1) n e in
    let few : length n.places ≤ 4096 = own.few in
    let params = own.params in
    omega arith

module _ (ops : List Operator) (text : List ℕ) (o : Options) (a : Accepted) (is : IsAccepted ops o text a) where
  -- an input for each parameter of main, an output for each result
  pub inputs_count : length a.inputs.items ≡ params_in (main_of a.placed.nodes)
  inputs_count = ap length is.inputs ∙ inputs_counted (main_of a.placed.nodes) (table_at a.typed (length a.placed.nodes - 1))

  pub outputs_count : length a.outputs.items ≡ length (results_in (main_of a.placed.nodes))
  outputs_count = ap length is.outputs ∙ outputs_counted (main_of a.placed.nodes) _ _

  pub few_inputs : length a.inputs.items < 2 ^ 32
  few_inputs =
      let few = few_in a.placed.nodes (main_of a.placed.nodes) (text_proper ops o text a.placed is.clocked.program.program) refl in
      let count = inputs_count in
      omega arith

  -- its net has a sound schedule
  pub scheduled : HasSchedule a.placed.nodes a.clocks.items
  scheduled = record { net = a.net; events = events_at a.schedule; flat = is.net.flat.flat; sound = is.schedule.sound }

  -- so it can be run
  pub can_run : (kinds : List HostKind) → CanBeRunInBlocks (record { kinds = kinds; nodes = a.placed.nodes; clocks = a.clocks.items; inputs = a.inputs.items; outputs = a.outputs.items })
  can_run kinds = record {
    proper = text_proper ops o text a.placed is.clocked.program.program;
    scheduled = scheduled;
    inputs = inputs_count;
    words = ap (map (λ (x : OutputSpec). x.word)) is.outputs ∙ outputs_words (main_of a.placed.nodes) (table_at a.typed (length a.placed.nodes - 1)) (words_in (slice_get a.clocks.items (length a.placed.nodes - 1)));
  }
