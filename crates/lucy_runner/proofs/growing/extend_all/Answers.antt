use Rattle.std.proofs.Common.{ℕ, ◌<◌, ◌≤◌, List, length, sym, subst, arith, ◌^◌}
use Rattle.std.specs.Prelude.{All}
use Rattle.lucy_runner.specs.declared.seat.Seat.{Seat}
use Rattle.lucy_runner.specs.Growths.{MayGrow, HasSpace, AreExtended}
use Rattle.lucy_runner.proofs.StepLaws.{one_changed, all_changed}
use Rattle.lucy_runner.proofs.GrowLaws.{SeatGrown, of_seat, few_seated, all_grown}
use Rattle.lucy_runner.proofs.growing.extend_all.Goals as goal

pub extend-requires-clause-few : goal.extend-requires-clause-few
extend-requires-clause-few c =
    let i : ℕ = c.loop-seat.seat-index in
    let d : Seat = c.seat-item.result in
    let l : i < length c.args.seats.now = omega arith in
    subst (λ (s : Seat). length s.worker.parts < 2 ^ 32) (sym (c.loop-seat.invariant.rest i d (omega arith))) (few_seated c.args.seats.now i d c.requires.few l)

pub extend-requires-clause-may : goal.extend-requires-clause-may
extend-requires-clause-may c =
    let i : ℕ = c.loop-seat.seat-index in
    let d : Seat = c.seat-item.result in
    let l : i < length c.args.seats.now = omega arith in
    let has = MayGrow c.args.inputs.now c.args.instants in
    subst (λ (s : Seat). All has s.worker.parts) (sym (c.loop-seat.invariant.rest i d (omega arith))) (of_seat has c.args.seats.now i d c.requires.may l)

pub extend-requires-clause-space : goal.extend-requires-clause-space
extend-requires-clause-space c =
    let i : ℕ = c.loop-seat.seat-index in
    let d : Seat = c.seat-item.result in
    let l : i < length c.args.seats.now = omega arith in
    let has = HasSpace c.args.inputs.now c.args.instants in
    subst (λ (s : Seat). All has s.worker.parts) (sym (c.loop-seat.invariant.rest i d (omega arith))) (of_seat has c.args.seats.now i d c.requires.space l)

pub loop-seat-preserved : goal.loop-seat-preserved
loop-seat-preserved c =
    let y : Seat = c.extend.new.self in
    let grown : SeatGrown c.args.inputs.now c.args.instants c.seat-item.result y = subst (λ (s : Seat). AreExtended c.args.inputs.now c.args.instants s.worker.parts y.worker.parts) (sym c.seat-item.is) c.extend.ensures in
    one_changed (SeatGrown c.args.inputs.now c.args.instants) c.args.seats.now c.loop-seat.seats c.loop-seat.seat-index c.seat-item.result y c.loop-seat.invariant (omega arith) c.seat-item.is grown

pub returns : goal.returns
returns c =
    let before : List Seat = c.args.seats.now in
    let after : List Seat = c.loop-seat.seats in
    let over : length before ≤ c.loop-seat.seat-index = omega (arith, c.loop-seat-test.false, c.loop-seat.invariant.as_many) in
    all_grown c.args.inputs.now c.args.instants before after c.loop-seat.invariant.as_many (all_changed (SeatGrown c.args.inputs.now c.args.instants) before after c.loop-seat.seat-index c.loop-seat.invariant over)
