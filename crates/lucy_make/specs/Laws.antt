-- How `make` stands to `run`.
use Rattle.std.specs.Prelude.{ℕ, ℤ, ◌≡◌, IsTrue, List, ◌++◌, Option, None}
use Rattle.lucy_host.specs.declared.kind.HostKind.{HostKind}
use Rattle.lucy_lines.specs.declared.reader.TextFault.{TextFault}
use Rattle.lucy_text.specs.Sources.{ReadStop}
use Rattle.lucy_lines.specs.Feeding.{is_closed}
use Rattle.lucy_program.specs.declared.accepted.Accepted.{Accepted}
use Rattle.lucy_run.specs.declared.ending.Ending.{Ending}
use Rattle.lucy_run.specs.Owes.{heading, lines_to, IsMainFed, OwesRun}
use Rattle.lucy_make.specs.Text.{made_input}
use Rattle.lucy_make.specs.Figures.{figures}
use Rattle.lucy_make.specs.Owes.{printed_values, where_done, OwesSummary}

-- The figures that `make` owes are those of the run that `run` owes on the generated input, which is taken whole: of its lists and its
-- horizon, and with its ending.
abbrev pub EndsAsRun : Type 0
EndsAsRun = (stages : ℕ) (kinds : List HostKind) (a : Accepted) (summary : List ℕ) (end : Ending) → OwesSummary stages kinds a summary end →
    (stop : ReadStop) × IsTrue (is_closed stop) × (lists : List (List ℤ)) × (fault : Option TextFault) × (horizon : ℕ) × IsMainFed a None made_input stop lists fault horizon
    × OwesRun kinds a None made_input stop (heading a ++ lines_to kinds a lists horizon) end
    × (summary ≡ where_done end (figures stages a.net horizon (printed_values kinds a lists horizon)))
