use Rattle.std.proofs.Common.{◌-◌, List, Option, length, take, drop, ap, ◌∙◌}
use Rattle.lucy_types.specs.declared.ty.Ty.{Ty}
use Rattle.lucy_types.proofs.SolveLaws.{listed_more, reached_listed}
use Rattle.lucy_types.proofs.solve.reached_types.Goals as goal
use Rattle.lucy_types.proofs.solve.reached_types.Goals.{in-Some+in_ok-push, in_default}

pub each-preserved : goal.each-preserved
each-preserved c =
    let marks : List (Option Ty) = take (length c.deref.result.now - 1) (drop 1 c.deref.result.now) in
    elim c.match-mark.branch [
      | in-Some+in_ok-push w ↦
          listed_more marks c.each.mark-index c.each.list.items c.match-mark.list.items w.in-Some.ty c.each-test.true c.each.invariant w.in-Some.is
          (ap (λ v. v.items) w.list-is ∙ w.in_ok-push.ensures.items)
      | in_default w ↦
          let r = reached_listed c.args.flood.now c.deref.result.now c.each.mark-index c.deref.ensures.value c.each-test.true c.requires.all in
          absurd (w.in_default.not-Some r.0 r.1)
    ]
