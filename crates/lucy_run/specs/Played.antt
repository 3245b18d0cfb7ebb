-- What the parts of a run leave between blocks, of what was read and on the sink.
use Rattle.std.specs.Prelude.{ℕ, ℤ, ◌+◌, ◌≤◌, ◌≡◌, false, List, [], ◌++◌, length, slice_index, Result, MatchResult}
use Rattle.lucy_word.specs.Bits.{Bits}
use Rattle.lucy_word.specs.Limits.{limit_number}
use Rattle.lucy_word.specs.declared.limit.Limit.TheVariants as limit
use Rattle.lucy_stream.specs.Items.{list_at}
use Rattle.lucy_stream.specs.Fronts.{AreFronts}
use Rattle.lucy_lines.specs.Cuts.{ItemOf}
use Rattle.lucy_lines.specs.declared.input.InputSpec.{InputSpec}
use Rattle.lucy_text.specs.Outside.{SeenSource, SeenSink, Writes, Fails}
use Rattle.lucy_lines.specs.Feeding.{values_by_stream}
use Rattle.lucy_lines.specs.Resuming.{FeedState, AreFresh}
use Rattle.lucy_lines.specs.declared.error.OutputError.{OutputError}
use Rattle.lucy_lines.specs.declared.error.OutputError.TheVariants.{Failed, OutOfMemory}
use Rattle.lucy_lines.specs.Outputs.{lines_after}
use Rattle.lucy_lines.specs.Writing.{WriterState}
use Rattle.lucy_kahn.specs.Horizons.{Suffice, IsHorizon}
use Rattle.lucy_results.specs.Streams.{param_words, later_streams}
use Rattle.lucy_results.specs.Playing.{PlayerView, joined}
use Rattle.lucy_run.specs.Feeds.{IsShortOf}
use Rattle.lucy_run.specs.Owes.{most_instants, stream_lines}
use Rattle.lucy_run.specs.Courses.{Program, CanBeRunInBlocks, CourseView, words_of, values, HasFed, IsFedSoFar, IsAlong, HasStopped}

-- the lines that lists allow
abbrev pub lines_of : Program → List (List ℤ) → ℕ → List ℕ
lines_of p lists horizon = stream_lines p.kinds p.nodes p.clocks p.outputs lists horizon

-- the lines of a course up to its horizon were written, since the sink was seen first
pub record HasWritten (p : Program) (was : SeenSink) (items : List ItemOf) (horizon : ℕ) (written : SeenSink) (writer : WriterState) : Type 0 where
  pub outputs : writer.outputs ≡ p.outputs
  pub instants : writer.instants ≡ horizon
  pub whole : writer.broken ≡ false
  pub lines : Writes was written (lines_of p (values p items) horizon)

-- a course whose lines were written, of some program that can be run
abbrev pub AreBlocksWritten : (now : SeenSource) (written : SeenSink) → CourseView → WriterState → Type 0
AreBlocksWritten now written c writer =
    (p : Program) × (first : SeenSource) × (was : SeenSink) × (items : List ItemOf) × CanBeRunInBlocks p × IsAlong p first items now c × HasWritten p was items c.horizon written writer

-- the lines up to an instant were written, and those after it, up to another, could not be
pub record FailsBehind (p : Program) (lists : List (List ℤ)) (done horizon : ℕ) (before after : SeenSink) : Type 0 where
  pub between : SeenSink
  pub rest : List ℕ
  pub lines : Writes before between (lines_of p lists done)
  pub all : lines_of p lists horizon ≡ lines_of p lists done ++ rest
  pub failed : Fails between after rest

-- the lines were written; or a write of those after the first of them failed
abbrev pub LeavesLines : Program → List (List ℤ) → (done horizon : ℕ) → (before after : SeenSink) → OutputError → Type 0
LeavesLines p lists done horizon before after Failed = FailsBehind p lists done horizon before after
LeavesLines p lists done horizon before after OutOfMemory = Writes before after (lines_of p lists horizon)

-- what was wanting where bytes were asked for: where a write failed, items for so many instants
abbrev pub wanting_at : Program → (aim : ℕ) → OutputError → List ItemOf → Type 0
wanting_at p aim Failed items = IsShortOf (words_of p) aim p.inputs items
wanting_at p aim OutOfMemory items = Unit {0}

-- It breaks off: of what main is fed some front allows as many instants as lines were written, or of which a write failed in a block of
-- at most so many instants.
pub record BreaksOff (p : Program) (first : SeenSource) (was : SeenSink) (block most : ℕ) (now : SeenSource) (written : SeenSink) (e : OutputError) : Type 0 where
  pub lists : List (List ℤ)
  pub done : ℕ
  pub horizon : ℕ
  pub aim : ℕ
  pub later : done ≤ horizon
  pub near : aim ≤ done + block
  pub within : horizon ≤ most
  pub suffice : Suffice (words_of p) lists horizon
  pub fed : IsFedSoFar (wanting_at p aim e) p.inputs first now lists
  pub left : LeavesLines p lists done horizon was written e

-- More is read behind what was read, whatever that is, for so many instants, and kept.
abbrev pub ReadsOn : (words : List Bits) (instants : ℕ) → (before after : SeenSource) (old new : FeedState) → Type 0
ReadsOn words instants before after old new = (inputs : List InputSpec) (first : SeenSource) (items : List ItemOf) (aim : ℕ) → aim ≤ instants →
    HasFed words aim inputs first before old items → AreFresh inputs old [] → old.reader.inputs ≡ inputs →
    (more : List ItemOf) × HasFed words instants inputs first after new (items ++ more) × AreFresh inputs new more × (new.reader.inputs ≡ inputs)

-- items of these counts allow so many instants, up to this one
abbrev pub CountsAllow : (words : List Bits) (counts : List ℕ) (most horizon : ℕ) → Type 0
CountsAllow words counts most horizon = (lists : List (List ℤ)) → ((i : ℕ) → slice_index counts i ≡ length (list_at lists i)) → IsHorizon words lists most horizon

-- a program may be run on to the horizon with these items, which follow
pub record PlayerCanGoOn (player : PlayerView) (added : List (List ℤ)) (horizon : ℕ) : Type 0 where
  pub later : player.instants ≤ horizon
  pub early : horizon ≤ limit_number limit.Instants
  pub inputs : length added ≡ length player.inputs
  pub suffice : Suffice (param_words player.nodes player.clocks) (joined player.inputs added) horizon

-- it was, the items are carried away, and these are what the streams of main's results have more
pub record PlayerHasGoneOn (reader : FeedState) (player : PlayerView) (last : FeedState) (now : PlayerView) (horizon : ℕ) (lists : List (List ℤ)) : Type 0 where
  pub reader_is : last ≡ record reader { fresh = values_by_stream (length reader.reader.inputs) [] }
  pub player_is : now ≡ record player { inputs = joined player.inputs reader.fresh; instants = horizon; before = player.instants }
  pub lists_are : lists ≡ later_streams player.kinds (joined player.inputs reader.fresh) player.nodes player.clocks player.instants horizon

-- the lines were written up to the last horizon; or it breaks off
abbrev pub Plays : (before now : SeenSource) (written after : SeenSink) (old new : CourseView) (writer last : WriterState) → Result (Unit {0}) OutputError → Type 0
Plays before now written after old new writer last result =
    (p : Program) (first : SeenSource) (was : SeenSink) (items : List ItemOf) → CanBeRunInBlocks p → IsAlong p first items before old → HasWritten p was items old.horizon written writer →
    MatchResult result (λ _. (all : List ItemOf) × IsAlong p first all now new × HasStopped new × HasWritten p was all new.horizon after last)
    (BreaksOff p first was old.block (most_instants old.given) now after)

-- the lines up to a horizon are the same by inputs that go on past the items that it needs
abbrev pub LinesAgree : Type 0
LinesAgree = (p : Program) (lists more : List (List ℤ)) (horizon : ℕ) → CanBeRunInBlocks p → AreFronts lists more → Suffice (words_of p) lists horizon →
    lines_of p more horizon ≡ lines_of p lists horizon

-- by these inputs the lines up to a later horizon have in front those up to the earlier one, and then those by what the streams have more
abbrev pub LinesByBlock : Type 0
LinesByBlock = (p : Program) (lists more : List (List ℤ)) (before horizon : ℕ) → CanBeRunInBlocks p → AreFronts lists more → before ≤ horizon → Suffice (words_of p) lists before →
    lines_of p more horizon ≡ lines_of p lists before ++ lines_after p.outputs (later_streams p.kinds more p.nodes p.clocks before horizon) before horizon
