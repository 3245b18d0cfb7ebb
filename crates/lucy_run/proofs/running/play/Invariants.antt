use Rattle.std.proofs.Common.{◌-◌, ◌≤◌, ◌≡◌, List, []}
use Rattle.lucy_lines.specs.Cuts.{ItemOf}
use Rattle.lucy_text.specs.Outside.{SeenSource, SeenSink}
use Rattle.lucy_run.specs.Owes.{most_instants}
use Rattle.lucy_run.specs.Courses.{Program, CanBeRunInBlocks, IsAlong}
use Rattle.lucy_run.specs.Played.{HasWritten}
use Rattle.lucy_run.proofs.running.play.Given as goal

-- the lines so far stand there
abbrev pub invariant-blocks-2 : goal.invariant-blocks-2
invariant-blocks-2 g l = record {
  follows : (p : Program) (first : SeenSource) (was : SeenSink) (items : List ItemOf) → CanBeRunInBlocks p → IsAlong p first items (g.I.Source.seen l.fn.source) l.fn.course →
      HasWritten p was items l.fn.course.horizon (g.O.Sink.seen l.fn.out) l.fn.writer →
      (all : List ItemOf) × IsAlong p first all (g.I.Source.seen l.source) l.course × HasWritten p was all l.course.horizon (g.O.Sink.seen l.out) l.writer;
  given : l.course.given ≡ l.fn.course.given;
  block : l.course.block ≡ l.fn.course.block;
  unread : l.fn.course.words ≡ [] → l.source ≡ l.fn.source;
  source_count : (g.I.Source.seen l.fn.source).faults ≤ (g.I.Source.seen l.source).faults;
  out_count : (g.O.Sink.seen l.fn.out).faults ≤ (g.O.Sink.seen l.out).faults;
}

abbrev pub decreases-blocks-2 : goal.decreases-blocks-2
decreases-blocks-2 g l = most_instants l.course.given - l.course.target
