-- The inputs and outputs of main, place by place.
use Rattle.std.proofs.Common.{ℕ, zero, suc, ◌+◌, ◌-◌, ◌<◌, ◌≤◌, ◌≡◌, List, map, length, Some, ap, sym, ◌∙◌, arith}
use Rattle.std.specs.Prelude.{slice_get}
use Rattle.std.specs.List.{range_with_len}
use Rattle.lucy_place.specs.declared.placed.PlacedNode.{PlacedNode}
use Rattle.lucy_place.specs.Proper.{ArePlaces}
use Rattle.lucy_types.specs.declared.ty.Ty.{Ty}
use Rattle.lucy_types.specs.Tables.{table_at}
use Rattle.lucy_types.specs.Programs.{IsTyped}
use Rattle.lucy_clock.specs.declared.node_clock.NodeClock.{NodeClock}
use Rattle.lucy_kahn.specs.Spots.{main_of}
use Rattle.lucy_flat.specs.Instances.{words_in}
use Rattle.lucy_program.specs.declared.options.Options.{Options}
use Rattle.lucy_program.specs.Clocked.{AreClocksOf}
use Rattle.lucy_program.specs.Names.{of_one, param_places}
use Rattle.lucy_program.specs.Scheduled.{main_input, main_output, main_inputs, main_outputs}
use Rattle.lucy_program.proofs.ReportLaws.{table_found}

-- the parameters are places of their node
params_from : (n : PlacedNode) (first count : ℕ) → 1 ≤ first → first + count ≤ length n.places + 1 → ArePlaces n (range_with_len first count)
params_from n first zero low high = tt
params_from n first (suc count) low high = ((low, omega (arith, high)), params_from n (first + 1) count (omega arith) (omega (arith, high)))

pub params_there : (n : PlacedNode) (places : List ℕ) → n.params ≤ length n.places → places ≡ param_places n → ArePlaces n places
params_there n places few is = rw is (params_from n 1 n.params (omega arith) (omega (arith, few)))

-- the types of main's places
module _ (nodes : List PlacedNode) (tables : List (List Ty)) (last : ℕ) (main : PlacedNode) (typed : IsTyped nodes tables) (is_last : last + 1 ≡ length nodes) (found : slice_get nodes last ≡ Some main) where
  last_is : last ≡ length nodes - 1
  last_is = omega (arith, is_last)

  same_last : length tables - 1 ≡ last
  same_last = omega (arith, is_last, typed.all)

  pub some_types : 0 < length tables
  some_types = omega (arith, is_last, typed.all)

  pub types_all : length (table_at tables (length tables - 1)) ≡ length main.places
  types_all = ap (λ i. length (table_at tables i)) same_last ∙ (typed.each last main (table_at tables last) found (table_found tables last (omega (arith, is_last, typed.all)))).all

  main_is : main_of nodes ≡ Some main
  main_is = ap (slice_get nodes) (sym last_is) ∙ found

  table_is : table_at tables (length tables - 1) ≡ table_at tables (length nodes - 1)
  table_is = ap (table_at tables) (same_last ∙ last_is)

  pub inputs_are : (places : List ℕ) → places ≡ param_places main → map (main_input main (table_at tables (length tables - 1))) places ≡ main_inputs nodes tables
  inputs_are places is =
      ap (λ t. map (main_input main t) places) table_is ∙ ap (map (main_input main (table_at tables (length nodes - 1)))) is ∙ ap (of_one (λ n. map (main_input n (table_at tables (length nodes - 1))) (param_places n))) (sym main_is)

  pub outputs_are : (clocks : List NodeClock) (clock : NodeClock) (places : List ℕ) → slice_get clocks last ≡ Some clock → places ≡ main.results →
      map (main_output main (table_at tables (length tables - 1)) clock.words) places ≡ main_outputs nodes tables clocks
  outputs_are clocks clock places at is =
      let words : words_in (slice_get clocks (length nodes - 1)) ≡ clock.words = ap (λ i. words_in (slice_get clocks i)) (sym last_is) ∙ ap words_in at in
      ap (λ t. map (main_output main t clock.words) places) table_is ∙ ap (map (main_output main (table_at tables (length nodes - 1)) clock.words)) is
      ∙ ap (λ w. map (main_output main (table_at tables (length nodes - 1)) w) main.results) (sym words)
      ∙ ap (of_one (λ n. map (main_output n (table_at tables (length nodes - 1)) (words_in (slice_get clocks (length nodes - 1)))) n.results)) (sym main_is)

-- each place of a clocked node has a word
pub words_past : {o : Options} (nodes : List PlacedNode) (clocks : List NodeClock) (i : ℕ) (n : PlacedNode) (clock : NodeClock) → AreClocksOf o nodes clocks → slice_get nodes i ≡ Some n → slice_get clocks i ≡ Some clock →
    length n.places < length clock.words
words_past nodes clocks i n clock are at of = let count = (are.each i n clock at of).count in omega arith
