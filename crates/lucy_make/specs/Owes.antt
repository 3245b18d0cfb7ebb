-- What `make` owes of an accepted program: the figures of what `run` does with it on the generated input.
use Rattle.std.specs.Prelude.{ℕ, ℤ, ◌≡◌, IsTrue, List, [], Option, None}
use Rattle.lucy_host.specs.declared.kind.HostKind.{HostKind}
use Rattle.lucy_lines.specs.declared.reader.TextFault.{TextFault}
use Rattle.lucy_text.specs.Sources.{ReadStop}
use Rattle.lucy_lines.specs.Feeding.{is_closed}
use Rattle.lucy_stream.specs.Items.{list_at}
use Rattle.lucy_results.specs.Streams.{main_streams}
use Rattle.lucy_program.specs.declared.accepted.Accepted.{Accepted}
use Rattle.lucy_run.specs.declared.ending.Ending.{Ending}
use Rattle.lucy_run.specs.declared.ending.Ending.TheVariants as ending
use Rattle.lucy_run.specs.Owes.{input_words, EndsFor, IsMainFed}
use Rattle.lucy_make.specs.Text.{made_input}
use Rattle.lucy_make.specs.Figures.{figures}

-- the values that `run` prints of main's first result, where it has one, up to the horizon
abbrev pub printed_values : List HostKind → Accepted → (lists : List (List ℤ)) → (horizon : ℕ) → List ℤ
printed_values kinds a lists horizon = list_at (main_streams kinds lists a.placed.nodes a.clocks.items horizon) 0

-- the figures stand where the run is done, and nothing does where it is refused
abbrev pub where_done : Ending → (text : List ℕ) → List ℕ
where_done ending.Done text = text
where_done end text = []

-- `make`: the figures of what `run` does without instants on the generated input, of which all bytes are taken, and its ending
abbrev pub OwesSummary : (stages : ℕ) → List HostKind → Accepted → (output : List ℕ) → Ending → Type 0
OwesSummary stages kinds a output end =
    (stop : ReadStop) × (lists : List (List ℤ)) × (fault : Option TextFault) × (horizon : ℕ) × IsTrue (is_closed stop)
    × IsMainFed a None made_input stop lists fault horizon × EndsFor (input_words a) None lists fault end
    × (output ≡ where_done end (figures stages a.net horizon (printed_values kinds a lists horizon)))
