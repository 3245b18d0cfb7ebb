-- What a run of an accepted program owes, by the bytes taken from the source and how reading stopped: the output, and how it ends.
use Rattle.std.specs.Prelude.{ℕ, ℤ, ◌+◌, ◌≡◌, ◌⊎◌, List, [], ◌++◌, Option, Some, None, codes}
use Rattle.lucy_word.specs.Bits.{Bits}
use Rattle.lucy_word.specs.Limits.{limit_number}
use Rattle.lucy_word.specs.declared.limit.Limit.TheVariants as limit
use Rattle.lucy_host.specs.declared.kind.HostKind.{HostKind}
use Rattle.lucy_lines.specs.declared.reader.TextFault.{TextFault}
use Rattle.lucy_text.specs.Sources.{ReadStop}
use Rattle.lucy_lines.specs.declared.output.OutputSpec.{OutputSpec}
use Rattle.lucy_lines.specs.Outputs.{output_text}
use Rattle.lucy_place.specs.declared.placed.PlacedNode.{PlacedNode}
use Rattle.lucy_clock.specs.declared.node_clock.NodeClock.{NodeClock}
use Rattle.lucy_kahn.specs.Horizons.{Suffice, IsHorizon}
use Rattle.lucy_results.specs.Streams.{param_words, main_streams}
use Rattle.lucy_results.specs.Running.{HasManyTurns, HasManyItems}
use Rattle.lucy_program.specs.declared.accepted.Accepted.{Accepted}
use Rattle.lucy_program.specs.Report.{report}
use Rattle.lucy_run.specs.declared.ending.Ending.{Ending}
use Rattle.lucy_run.specs.declared.ending.Ending.TheVariants as ending
use Rattle.lucy_run.specs.Feeds.{Feeds, LinesFeed}

-- the instants that are given, or else the most that a run may have
abbrev pub most_instants : (given : Option ℕ) → ℕ
most_instants None = limit_number limit.Instants
most_instants (Some given) = given

-- the words of main's inputs
abbrev pub input_words : Accepted → List Bits
input_words a = param_words a.placed.nodes a.clocks.items

-- the horizon of a run: as many instants, up to these, as the items of the inputs of these words allow
abbrev pub IsHorizonOf : (words : List Bits) → (given : Option ℕ) → (lists : List (List ℤ)) → (horizon : ℕ) → Type 0
IsHorizonOf words given lists horizon = IsHorizon words lists (most_instants given) horizon

-- the lines of results up to the horizon, with the values of their Kahn streams
abbrev pub stream_lines : List HostKind → List PlacedNode → List NodeClock → List OutputSpec → (lists : List (List ℤ)) → (horizon : ℕ) → List ℕ
stream_lines kinds nodes clocks outputs lists horizon = output_text outputs (main_streams kinds lists nodes clocks horizon) horizon

-- those of main's results
abbrev pub lines_to : List HostKind → Accepted → (lists : List (List ℤ)) → (horizon : ℕ) → List ℕ
lines_to kinds a lists horizon = stream_lines kinds a.placed.nodes a.clocks.items a.outputs.items lists horizon

-- what stands above the lines: the report of the clocks and sizes, and `run`
abbrev pub heading : Accepted → List ℕ
heading a = report a.placed.nodes a.typed a.clocks.items ++ codes "run\n"

-- the items allow more instants than a run may have
abbrev pub AllowsMore : (words : List Bits) → (lists : List (List ℤ)) → Type 0
AllowsMore words lists = Suffice words lists (limit_number limit.Instants + 1)

-- how a run ends: for a fault of its input; else, where no instants are given, past the limit of instants; else it is done
abbrev pub EndsFor : (words : List Bits) → (given : Option ℕ) → (lists : List (List ℤ)) → Option TextFault → Ending → Type 0
EndsFor words given lists (Some fault) end = end ≡ ending.Input fault
EndsFor words (Some given) lists None end = end ≡ ending.Done
EndsFor words None lists None end = ((end ≡ ending.Limit limit.Instants) × AllowsMore words lists) ⊎ ((end ≡ ending.Done) × (AllowsMore words lists → ⊥))

-- what main is fed for, and its horizon
pub record IsMainFed (a : Accepted) (given : Option ℕ) (taken : List ℕ) (stop : ReadStop) (lists : List (List ℤ)) (fault : Option TextFault) (horizon : ℕ) : Type 0 where
  pub feeds : Feeds a.inputs.items taken stop lists fault
  pub horizon_is : IsHorizonOf (input_words a) given lists horizon

-- `run`: the heading and the lines
abbrev pub OwesRun : List HostKind → Accepted → (given : Option ℕ) → (taken : List ℕ) → ReadStop → (output : List ℕ) → Ending → Type 0
OwesRun kinds a given taken stop output end =
    (lists : List (List ℤ)) × (fault : Option TextFault) × (horizon : ℕ) × IsMainFed a given taken stop lists fault horizon
    × (output ≡ heading a ++ lines_to kinds a lists horizon) × EndsFor (input_words a) given lists fault end

-- in what `run` may break off, by the bytes taken and how reading stopped: the heading, and the lines that the items of their whole lines allow
abbrev pub LinesAllow : List HostKind → Accepted → (given : Option ℕ) → (taken : List ℕ) → ReadStop → (output : List ℕ) → Type 0
LinesAllow kinds a given taken stop output =
    (lists : List (List ℤ)) × (horizon : ℕ) × LinesFeed a.inputs.items taken stop lists × IsHorizonOf (input_words a) given lists horizon
    × (output ≡ heading a ++ lines_to kinds a lists horizon)

-- what the plain interpreter comes to up to the horizon: a limit that it passes, and no line, or the lines
abbrev pub Interprets : List HostKind → List PlacedNode → List NodeClock → List OutputSpec → (given : Option ℕ) → (lists : List (List ℤ)) → Option TextFault → (horizon : ℕ) →
    (output : List ℕ) → Ending → Type 0
Interprets kinds nodes clocks outputs given lists fault horizon output end =
    (HasManyTurns nodes horizon × (output ≡ []) × (end ≡ ending.Limit limit.KahnTurns))
    ⊎ (HasManyItems kinds lists nodes clocks horizon × (output ≡ []) × (end ≡ ending.Limit limit.KahnItems))
    ⊎ ((HasManyTurns nodes horizon → ⊥) × (HasManyItems kinds lists nodes clocks horizon → ⊥)
    × (output ≡ stream_lines kinds nodes clocks outputs lists horizon) × EndsFor (param_words nodes clocks) given lists fault end)

-- `kahn`: the lines alone
abbrev pub OwesKahn : List HostKind → Accepted → (given : Option ℕ) → (taken : List ℕ) → ReadStop → (output : List ℕ) → Ending → Type 0
OwesKahn kinds a given taken stop output end =
    (lists : List (List ℤ)) × (fault : Option TextFault) × (horizon : ℕ) × IsMainFed a given taken stop lists fault horizon
    × Interprets kinds a.placed.nodes a.clocks.items a.outputs.items given lists fault horizon output end
