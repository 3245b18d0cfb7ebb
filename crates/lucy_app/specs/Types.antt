-- What `types` prints of a text.
use Rattle.std.specs.Prelude.{ℕ, ◌≡◌, List}
use Rattle.lucy_host.specs.Operators.{Operator}
use Rattle.lucy_place.specs.PlacedProgram.{PlacedProgram}
use Rattle.lucy_types.specs.declared.ty.Ty.{Ty}
use Rattle.lucy_program.specs.Accepting.{IsTypedText}
use Rattle.lucy_app.specs.Report.{type_report}

-- the text has places and types, and this is the type_report of them
abbrev pub IsReportOf : List Operator → (text print : List ℕ) → Type 0
IsReportOf ops text print = (placed : PlacedProgram) × (tables : List (List Ty)) × IsTypedText ops text placed tables × (print ≡ type_report placed.nodes tables)
