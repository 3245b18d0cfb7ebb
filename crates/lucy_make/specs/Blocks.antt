-- What a course of the generated program tells of main's first result, and which run it is.
use Rattle.std.specs.Prelude.{ℕ, ℤ, ◌≤◌, ◌≡◌, ◌≢◌, ◌⊎◌, IsTrue, List, [], ◌++◌, length, nat_eq, Option, Some, None}
use Rattle.lucy_host.specs.declared.kind.HostKind.{HostKind}
use Rattle.lucy_stream.specs.Items.{list_at}
use Rattle.lucy_stream.specs.Fronts.{AreFronts}
use Rattle.lucy_lines.specs.Cuts.{ItemOf}
use Rattle.lucy_lines.specs.declared.reader.TextFault.{TextFault}
use Rattle.lucy_text.specs.Outside.{SeenSource}
use Rattle.lucy_text.specs.Sources.{ReadStop}
use Rattle.lucy_lines.specs.Feeding.{is_closed}
use Rattle.lucy_kahn.specs.Horizons.{Suffice}
use Rattle.lucy_results.specs.Streams.{main_streams, later_streams}
use Rattle.lucy_program.specs.declared.accepted.Accepted.{Accepted}
use Rattle.lucy_run.specs.declared.ending.Ending.{Ending}
use Rattle.lucy_run.specs.declared.ending.Ending.TheVariants as ending
use Rattle.lucy_run.specs.Owes.{input_words, EndsFor, IsMainFed}
use Rattle.lucy_run.specs.Courses.{CourseView, Program, CanBeRunInBlocks, words_of, values, IsAlong, HasStopped, EndsOver}
use Rattle.lucy_make.specs.Text.{made_input}
use Rattle.lucy_make.specs.Figures.{sum_of}
use Rattle.lucy_make.specs.Owes.{printed_values}
use Rattle.lucy_make.specs.declared.summing.Told.{Told}

-- by these lists the values of main's first result up to a horizon
abbrev pub first_to : Program → (lists : List (List ℤ)) → (instants : ℕ) → List ℤ
first_to p lists instants = list_at (main_streams p.kinds lists p.nodes p.clocks instants) 0

-- and those past an earlier one
abbrev pub first_after : Program → (lists : List (List ℤ)) → (before instants : ℕ) → List ℤ
first_after p lists before instants = list_at (later_streams p.kinds lists p.nodes p.clocks before instants) 0

-- by the items that were read so many values has it up to the horizon, with this sum
pub record IsTold (p : Program) (items : List ItemOf) (horizon count : ℕ) (sum : ℤ) : Type 0 where
  pub counted : count ≡ length (first_to p (values p items) horizon)
  pub summed : sum ≡ sum_of (first_to p (values p items) horizon)

-- a course before its first block, of some program that can be run by operators of these kinds
abbrev pub IsBeforeFirst : List HostKind → (now : SeenSource) → CourseView → Type 0
IsBeforeFirst kinds now c = (p : Program) × (first : SeenSource) × CanBeRunInBlocks p × IsAlong p first [] now c × (c.horizon ≡ 0) × (kinds ≡ p.kinds)

-- it was run to its last block, and main's first result was told
abbrev pub TellsFirstResult : (before now : SeenSource) (old new : CourseView) (count : ℕ) (sum : ℤ) → Type 0
TellsFirstResult before now old new count sum =
    (p : Program) (first : SeenSource) → CanBeRunInBlocks p → IsAlong p first [] before old → old.horizon ≡ 0 →
    (all : List ItemOf) × IsAlong p first all now new × HasStopped new × IsTold p all new.horizon count sum

-- what is seen of a source that never fails, which holds these bytes
abbrev pub steady : List ℕ → SeenSource
steady bytes = record { left = Some bytes; ended = nat_eq (length bytes) 0; faults = 0; since_stop = None }

-- a course was run on the generated input to its last block, in so many instants, and ended so; and main's first result was told
abbrev pub RunsOut : CourseView → (instants count : ℕ) → (sum : ℤ) → Ending → Type 0
RunsOut course instants count sum end =
    (now : SeenSource) × (rest : List ℕ) × (last : CourseView) × TellsFirstResult (steady made_input) now course last count sum
    × (last.given ≡ course.given) × (instants ≡ last.horizon) × EndsOver now (steady rest) last end

-- the run that `run` owes on the generated input, with its instants, its ending and what main's first result has
abbrev pub IsMadeRun : List HostKind → Accepted → (instants count : ℕ) → (sum : ℤ) → Ending → Type 0
IsMadeRun kinds a instants count sum end =
    (stop : ReadStop) × (lists : List (List ℤ)) × (fault : Option TextFault) × IsTrue (is_closed stop)
    × IsMainFed a None made_input stop lists fault instants × EndsFor (input_words a) None lists fault end
    × (count ≡ length (printed_values kinds a lists instants)) × (sum ≡ sum_of (printed_values kinds a lists instants))

-- a run is done, and told
abbrev pub IsDone : (Ran : (instants count : ℕ) → (sum : ℤ) → Ending → Type 0) → Told → Type 0
IsDone Ran told = Ran told.instants told.tally.count told.tally.sum ending.Done

-- it ends so without being done, or memory ran out
abbrev pub IsUndone : (Ran : (instants count : ℕ) → (sum : ℤ) → Ending → Type 0) → Ending → Type 0
IsUndone Ran end = (end ≡ ending.OutOfMemory) ⊎ ((end ≢ ending.Done) × (instants : ℕ) × (count : ℕ) × (sum : ℤ) × Ran instants count sum end)

-- the values up to a later horizon are those up to an earlier one, and then those past it, by inputs that go on
abbrev pub FirstGoesOn : Type 0
FirstGoesOn = (p : Program) (lists more : List (List ℤ)) (before instants : ℕ) → CanBeRunInBlocks p → AreFronts lists more → before ≤ instants → Suffice (words_of p) lists before →
    first_to p more instants ≡ first_to p lists before ++ first_after p more before instants

-- there is at most one in an instant
abbrev pub FirstIsShort : Type 0
FirstIsShort = (p : Program) (lists : List (List ℤ)) (instants : ℕ) → CanBeRunInBlocks p → Suffice (words_of p) lists instants → length (first_to p lists instants) ≤ instants

-- they are the same by inputs that go on past the items that the horizon needs
abbrev pub FirstAgrees : Type 0
FirstAgrees = (p : Program) (lists more : List (List ℤ)) (instants : ℕ) → CanBeRunInBlocks p → AreFronts lists more → Suffice (words_of p) lists instants →
    first_to p more instants ≡ first_to p lists instants
