use Rattle.std.proofs.Common.{ap, arith}
use Rattle.lucy_check.proofs.StepsBack.{IsBack, best_back}
use Rattle.lucy_check.proofs.classes.step_back.Goals as goal
use Rattle.lucy_check.proofs.classes.step_back.Goals.{then-t-place, else-t-place}

back : (c : goal.After-max) → IsBack c.args.t c.args.place c.args.best c.if-t-place.earlier.0 c.if-t-place.earlier.1
back c =
    elim c.if-t-place.branch [
      | then-t-place w ↦ record { turns = 0; back = omega (arith, ap (λ n. n.0) w.earlier-is); brought = omega (arith, ap (λ n. n.1) w.earlier-is) }
      | else-t-place w ↦ record { turns = 1; back = omega (arith, ap (λ n. n.0) w.earlier-is); brought = omega (arith, ap (λ n. n.1) w.earlier-is) }
    ]

pub returns-clause-best : goal.returns-clause-best
returns-clause-best c steps h =
    best_back c.args.a.now c.args.t c.requires.turn c.args.place c.args.best c.if-t-place.earlier.0 c.if-t-place.earlier.1 c.max.result steps (back c) (omega (arith, c.max.ensures, c.ones.ensures, c.saturating_sub.ensures)) h
