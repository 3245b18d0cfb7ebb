use Rattle.std.proofs.Common.{◌-◌, ◌≡◌, List, []}
use Rattle.lucy_lines.specs.Cuts.{ItemOf}
use Rattle.lucy_text.specs.Outside.{SeenSource}
use Rattle.lucy_run.specs.Owes.{most_instants}
use Rattle.lucy_run.specs.Courses.{Program, CanBeRunInBlocks, IsAlong}
use Rattle.lucy_make.specs.Blocks.{IsTold}
use Rattle.lucy_make.proofs.blocks.tell.Given as goal

-- the values so far are told
abbrev pub invariant-blocks-2 : goal.invariant-blocks-2
invariant-blocks-2 g l = record {
  follows : (p : Program) (first : SeenSource) → CanBeRunInBlocks p → IsAlong p first [] (g.I.Source.seen l.fn.source) l.fn.course → l.fn.course.horizon ≡ 0 →
      (all : List ItemOf) × IsAlong p first all (g.I.Source.seen l.source) l.course × IsTold p all l.course.horizon l.tally.count l.tally.sum;
  given : l.course.given ≡ l.fn.course.given;
}

abbrev pub decreases-blocks-2 : goal.decreases-blocks-2
decreases-blocks-2 g l = most_instants l.course.given - l.course.target
