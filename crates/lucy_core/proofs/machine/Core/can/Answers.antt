use Rattle.std.proofs.Common.{◌≡◌, true, false, subst, sym, ◌∙◌, arith}
use Rattle.std.specs.Prelude.{slice_get, IsTrue, not}
use Rattle.lucy_host.specs.Operators.{kinds_of}
use Rattle.lucy_net.specs.Moves.{move_of}
use Rattle.lucy_net.specs.declared.firing.Move.TheVariants.{Take, Give, Done}
use Rattle.lucy_core.specs.Seen.{Seen, machine_of, done_of, CanStep}
use Rattle.lucy_core.proofs.InsideLaws.{machine_of_fields}
use Rattle.lucy_core.proofs.StepLaws.{take_there, give_there, circle_read, can_when_some, can_when_room, can_never}
use Rattle.lucy_core.proofs.machine.Core.can.Goals as goal

pub index-requires : goal.index-requires
index-requires c =
    let x = c.self.inside in
    let op = subst (λ (seen : Seen). Take c.in-Take.ring ≡ move_of (slice_get ((machine_of seen).sys.ops c.args.actor) (done_of seen.done c.args.actor))) (sym c.self.view_is) (sym c.in-Take.is ∙ c.next.ensures) in
    omega (arith, c.self.invariant.1.circles_count, take_there x.net _ _ x.inputs (kinds_of x.ops) x.instants _ _ _ _ (machine_of_fields x c.self.invariant) c.self.invariant.1 c.args.actor c.in-Take.ring op c.self.invariant.0.proper)

pub index-requires-in-Give : goal.index-requires-in-Give
index-requires-in-Give c =
    let x = c.self.inside in
    let op = subst (λ (seen : Seen). Give c.in-Give.ring ≡ move_of (slice_get ((machine_of seen).sys.ops c.args.actor) (done_of seen.done c.args.actor))) (sym c.self.view_is) (sym c.in-Give.is ∙ c.next.ensures) in
    omega (arith, c.self.invariant.1.circles_count, give_there x.net _ _ x.inputs (kinds_of x.ops) x.instants _ _ _ _ (machine_of_fields x c.self.invariant) c.self.invariant.1 c.args.actor c.in-Give.ring op c.self.invariant.0.proper)

pub returns-in-Take : goal.returns-in-Take
returns-in-Take c =
    let x = c.self.inside in
    let op = subst (λ (seen : Seen). Take c.in-Take.ring ≡ move_of (slice_get ((machine_of seen).sys.ops c.args.actor) (done_of seen.done c.args.actor))) (sym c.self.view_is) (sym c.in-Take.is ∙ c.next.ensures) in
    let there = take_there x.net _ _ x.inputs (kinds_of x.ops) x.instants _ _ _ _ (machine_of_fields x c.self.invariant) c.self.invariant.1 c.args.actor c.in-Take.ring op c.self.invariant.0.proper in
    let circle = circle_read x.net _ _ x.inputs (kinds_of x.ops) x.instants _ _ _ _ (machine_of_fields x c.self.invariant) c.self.invariant.1 c.in-Take.ring c.index.result.now there c.index.ensures in
    subst (λ (seen : Seen). (IsTrue (not c.is_empty.result) → CanStep seen c.args.actor) × (CanStep seen c.args.actor → IsTrue (not c.is_empty.result))) c.self.view_is
    (can_when_some x.net _ _ x.inputs (kinds_of x.ops) x.instants _ _ _ _ (machine_of_fields x c.self.invariant) c.self.invariant.1 c.args.actor c.in-Take.ring c.index.result.now c.is_empty.result op circle c.is_empty.ensures)

pub returns-in-Give : goal.returns-in-Give
returns-in-Give c =
    let x = c.self.inside in
    let op = subst (λ (seen : Seen). Give c.in-Give.ring ≡ move_of (slice_get ((machine_of seen).sys.ops c.args.actor) (done_of seen.done c.args.actor))) (sym c.self.view_is) (sym c.in-Give.is ∙ c.next.ensures) in
    let there = give_there x.net _ _ x.inputs (kinds_of x.ops) x.instants _ _ _ _ (machine_of_fields x c.self.invariant) c.self.invariant.1 c.args.actor c.in-Give.ring op c.self.invariant.0.proper in
    let circle = circle_read x.net _ _ x.inputs (kinds_of x.ops) x.instants _ _ _ _ (machine_of_fields x c.self.invariant) c.self.invariant.1 c.in-Give.ring c.index-in-Give.result.now there c.index-in-Give.ensures in
    subst (λ (seen : Seen). (IsTrue (not c.is_full.result) → CanStep seen c.args.actor) × (CanStep seen c.args.actor → IsTrue (not c.is_full.result))) c.self.view_is
    (can_when_room x.net _ _ x.inputs (kinds_of x.ops) x.instants _ _ _ _ (machine_of_fields x c.self.invariant) c.self.invariant.1 c.args.actor c.in-Give.ring c.index-in-Give.result.now c.is_full.result op there circle c.is_full.ensures)

pub returns-in-Done : goal.returns-in-Done
returns-in-Done c =
    let x = c.self.inside in
    let op = subst (λ (seen : Seen). Done ≡ move_of (slice_get ((machine_of seen).sys.ops c.args.actor) (done_of seen.done c.args.actor))) (sym c.self.view_is) (sym c.in-Done.is ∙ c.next.ensures) in
    (λ (h : false ≡ true). cc, λ can. absurd (can_never x.net _ _ x.inputs (kinds_of x.ops) x.instants _ _ _ _ (machine_of_fields x c.self.invariant) c.self.invariant.1 c.args.actor op (subst (λ (seen : Seen). CanStep seen c.args.actor) (sym c.self.view_is) can)))
