use Rattle.std.proofs.Common.{List, ℕ, sym, inr, subst}
use Rattle.lucy_host.specs.Host.{lent}
use Rattle.lucy_host.specs.Operators.{kinds_of}
use Rattle.lucy_run.specs.declared.ending.Ending.{Ending}
use Rattle.lucy_run.specs.Courses.{EndsOver}
use Rattle.lucy_make.specs.Blocks.{steady, IsBeforeFirst, TellsFirstResult}
use Rattle.lucy_make.proofs.Runs.{under_way, still_words}
use Rattle.lucy_make.proofs.summing.run_out.Goals as goal

pub tell-requires-clause-first : goal.tell-requires-clause-first
tell-requires-clause-first g c κs within =
    subst (λ (bytes : List ℕ). IsBeforeFirst (kinds_of (lent c.args.host.now)) (steady bytes) c.args.course) (sym c.in-Ok.ensures) c.requires.first

pub finish-requires-clause-under_way : goal.finish-requires-clause-under_way
finish-requires-clause-under_way g c =
    let first = subst (λ (bytes : List ℕ). IsBeforeFirst (kinds_of (lent c.args.host.now)) (steady bytes) c.args.course) (sym c.in-Ok.ensures) c.requires.first in
    under_way _ _ _ _ _ first _ _ c.in-Ok-tell.ensures.tells

pub finish-requires-clause-given : goal.finish-requires-clause-given
finish-requires-clause-given g c = λ none.
    let first = subst (λ (bytes : List ℕ). IsBeforeFirst (kinds_of (lent c.args.host.now)) (steady bytes) c.args.course) (sym c.in-Ok.ensures) c.requires.first in
    absurd (still_words _ _ _ _ _ first _ _ c.in-Ok-tell.ensures.tells c.requires.words none)

pub returns-in-Done-clause-ok : goal.returns-in-Done-clause-ok
returns-in-Done-clause-ok g c =
    let tells = subst (λ (bytes : List ℕ). TellsFirstResult (steady bytes) (steady c.tell.new.source) c.args.course c.tell.new.course c.in-Ok-tell.tally.count c.in-Ok-tell.tally.sum)
    c.in-Ok.ensures c.in-Ok-tell.ensures.tells in
    let over = subst (λ (end : Ending). EndsOver (steady c.tell.new.source) (steady c.finish.new.source) c.tell.new.course end) c.in-Done.is c.finish.ensures.over in
    (_, c.finish.new.source, c.tell.new.course, tells, c.in-Ok-tell.ensures.given, c.horizon-instants.ensures, over)

pub returns-clause-err : goal.returns-clause-err
returns-clause-err g c =
    let tells = subst (λ (bytes : List ℕ). TellsFirstResult (steady bytes) (steady c.tell.new.source) c.args.course c.tell.new.course c.in-Ok-tell.tally.count c.in-Ok-tell.tally.sum)
    c.in-Ok.ensures c.in-Ok-tell.ensures.tells in
    inr (
      c.in_default.not-Done,
      _,
      _,
      _,
      (_, c.finish.new.source, c.tell.new.course, tells, c.in-Ok-tell.ensures.given, c.horizon-instants.ensures, c.finish.ensures.over),
    )
