-- The lines of a type_report, one step on.
use Rattle.std.proofs.Common.{ℕ, ◌+◌, ◌<◌, ◌≡◌, Bool, List, [], ◌∷◌, ◌++◌, length, drop, Some, nat_eq, refl, ap, sym, ◌∙◌, arith, append_assoc}
use Rattle.std.specs.Prelude.{slice_get}
use Rattle.std.proofs.lemmas.Option.{slice_get_within}
use Rattle.lucy_place.specs.declared.entry.PlaceEntry.{PlaceEntry}
use Rattle.lucy_place.specs.declared.placed.PlacedNode.{PlacedNode}
use Rattle.lucy_types.specs.declared.ty.Ty.{Ty}
use Rattle.lucy_types.specs.Tables.{table_at}
use Rattle.lucy_program.specs.Names.{node_line}
use Rattle.lucy_program.specs.Report.{name_lines}
use Rattle.lucy_program.proofs.ReportLaws.{drop_at, table_found, main_is}
use Rattle.lucy_app.specs.Report.{type_report}

-- the lines of the places of a node with these types
abbrev typed_lines : Bool → List PlaceEntry → List Ty → List ℕ
typed_lines main es ts = name_lines main (λ place. []) 1 es ts

-- one more node
pub report_more : (nodes : List PlacedNode) (tables : List (List Ty)) (i count : ℕ) (n : PlacedNode) (es : List PlaceEntry) (a b c all : List ℕ) → slice_get nodes i ≡ Some n →
    length tables ≡ length nodes → count ≡ length nodes → es ≡ n.places → b ≡ a ++ node_line n → c ≡ b ++ typed_lines (nat_eq (i + 1) count) es (table_at tables i) →
    a ++ type_report (drop i nodes) (drop i tables) ≡ all → c ++ type_report (drop (i + 1) nodes) (drop (i + 1) tables) ≡ all
report_more nodes tables i count n es a b c all is same counted placed line lines before =
    let h : i < length nodes = slice_get_within nodes i n is in
    let k : i < length tables = omega (arith, h, same) in
    let ts : List Ty = table_at tables i in
    let rest : List ℕ = type_report (drop (i + 1) nodes) (drop (i + 1) tables) in
    let here : drop i nodes ≡ n ∷ drop (i + 1) nodes = drop_at nodes i n is in
    let there : drop i tables ≡ ts ∷ drop (i + 1) tables = drop_at tables i ts (table_found tables i k) in
    let main : Bool = nat_eq (length (drop (i + 1) nodes)) 0 in
    let names : List ℕ = typed_lines main n.places ts in
    let step : type_report (drop i nodes) (drop i tables) ≡ (node_line n ++ names) ++ rest =
    ap (λ l. type_report l (drop i tables)) here ∙ ap (λ l. type_report (n ∷ drop (i + 1) nodes) l) there in
    let last : c ≡ (a ++ node_line n) ++ names =
    lines ∙ ap (λ u. u ++ typed_lines (nat_eq (i + 1) count) es ts) line ∙ ap (λ m. (a ++ node_line n) ++ typed_lines m es ts) (main_is nodes _ i count refl counted h)
    ∙ ap (λ u. (a ++ node_line n) ++ typed_lines main u ts) placed in
    ap (λ u. u ++ rest) (last ∙ append_assoc a (node_line n) names) ∙ append_assoc a (node_line n ++ names) rest ∙ ap (λ u. a ++ u) (sym step) ∙ before
