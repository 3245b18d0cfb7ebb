use Rattle.std.proofs.Common.{ℕ, ◌≡◌, List, ap, subst, sym, ◌∙◌}
use Rattle.lucy_host.specs.Operators.{Operator, kinds_of}
use Rattle.lucy_stream.specs.Runs.{first_left}
use Rattle.lucy_core.specs.Seen.{machine_on, order_on, done_of, CanMakeCore, first_seen}
use Rattle.lucy_core.specs.Cursors.{StandsInOrder}
use Rattle.lucy_core.specs.Inside.{going_in, KeepsState}
use Rattle.lucy_core.proofs.SeenLaws.{machine_is}
use Rattle.lucy_core.proofs.MakeLaws.{kept_first}
use Rattle.lucy_core.proofs.machine.Core.new.Goals as goal

pub invariant_of-result : goal.invariant_of-result
invariant_of-result c =
    let n = c.args.net in
    let b = c.in_ok-begun.begun in
    let first = c.in_ok-begun.ensures in
    let is = machine_is n c.args.schedule c.args.inputs c.args.ops.now c.args.instants c.requires in
    let m = machine_on n c.args.inputs (kinds_of c.args.ops.now) c.args.instants in
    let order = order_on c.args.schedule c.args.instants in
    let kept = subst (λ (ds : List ℕ). KeepsState n m order c.args.instants ds b.states.items b.circles.items b.trays.items) (sym first.done)
    (kept_first n _ _ c.args.inputs _ c.args.instants b.states.items b.circles.items b.trays.items is first.states first.circles first.trays) in
    subst (λ (os : List Operator). CanMakeCore n c.args.schedule c.args.inputs os c.args.instants × KeepsState n (machine_on n c.args.inputs (kinds_of os) c.args.instants) order c.args.instants b.done.items b.states.items b.circles.items b.trays.items
    × (b.going ≡ going_in b.states.items) × StandsInOrder c.args.schedule c.args.instants b.done.items b.cursor × (b.cursor.next ≡ first_left (done_of b.done.items) order))
    (sym c.in_ok-ops.ensures) (c.requires, kept, first.going, first.within, first.next)

pub returns : goal.returns
returns c =
    ap (λ ds. record { net = c.args.net; schedule = c.args.schedule; inputs = c.args.inputs; operators = c.in_ok-ops.ops; instants = c.args.instants; done = ds }) c.in_ok-begun.ensures.done
    ∙ ap (λ os. first_seen c.args.net c.args.schedule c.args.inputs os c.args.instants) c.in_ok-ops.ensures
