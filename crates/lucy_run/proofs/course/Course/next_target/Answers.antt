use Rattle.std.proofs.Common.{◌≤◌, sym, subst, arith}
use Rattle.lucy_run.specs.Owes.{most_instants}
use Rattle.lucy_run.specs.Courses.{CourseView, IsNextTarget}
use Rattle.lucy_run.proofs.SilentLaws.{target_is}
use Rattle.lucy_run.proofs.course.Course.next_target.Goals as goal

pub returns-clause-goes : goal.returns-clause-goes
returns-clause-goes c =
    let x = c.self.inside in
    let some : 1 ≤ x.block = subst (λ (w : CourseView). 1 ≤ w.block) (sym c.self.view_is) c.requires.block.0 in
    let early : x.target ≤ most_instants x.given = subst (λ (w : CourseView). w.target ≤ most_instants w.given) (sym c.self.view_is) c.requires.early in
    subst (λ (w : CourseView). IsNextTarget w.outputs w.block (most_instants w.given) w.target c.min-2.result) c.self.view_is
    (target_is x.outputs.now x.block (most_instants x.given) x.target c.silent_to-silent.result c.min-2.result some early c.silent_to-silent.ensures.from c.silent_to-silent.ensures.silent
    (omega (arith, c.silent_to-silent.ensures.most, c.min.ensures, c.saturating_sub-spare.ensures)) (omega (arith, c.min-2.ensures, c.most_instants-most.ensures)))
