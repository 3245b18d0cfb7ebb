use Rattle.std.proofs.Common.{ℕ, ◌<◌, ◌≤◌, List, length, set, sym, ◌∙◌, subst, arith, ◌^◌}
use Rattle.std.specs.Prelude.{All}
use Rattle.std.proofs.lemmas.List.{length-set}
use Rattle.lucy_runner.specs.declared.seat.Seat.{Seat}
use Rattle.lucy_runner.specs.Growths.{MayGrow, AreSpared}
use Rattle.lucy_runner.proofs.StepLaws.{one_changed, all_changed, cut_short}
use Rattle.lucy_runner.proofs.GrowLaws.{SeatSpared, SeatSpaced, same_parts, of_seat, few_seated, all_spared, all_spaced}
use Rattle.lucy_runner.proofs.growing.reserve_all.Goals as goal

pub reserve-requires-clause-few : goal.reserve-requires-clause-few
reserve-requires-clause-few c =
    let i : ℕ = c.loop-seat.seat-index in
    let d : Seat = c.seat-item.result in
    let l : i < length c.args.seats.now = omega arith in
    subst (λ (s : Seat). length s.worker.parts < 2 ^ 32) (sym (c.loop-seat.invariant.rest i d (omega arith))) (few_seated c.args.seats.now i d c.requires.few l)

pub reserve-requires-clause-may : goal.reserve-requires-clause-may
reserve-requires-clause-may c =
    let i : ℕ = c.loop-seat.seat-index in
    let d : Seat = c.seat-item.result in
    let l : i < length c.args.seats.now = omega arith in
    let has = MayGrow c.args.inputs.now c.args.instants in
    subst (λ (s : Seat). All has s.worker.parts) (sym (c.loop-seat.invariant.rest i d (omega arith))) (of_seat has c.args.seats.now i d c.requires.may l)

pub loop-seat-preserved : goal.loop-seat-preserved
loop-seat-preserved c =
    let y : Seat = c.reserve.new.self in
    let spared : SeatSpared c.seat-item.result y = subst (λ (s : Seat). AreSpared s.worker.parts y.worker.parts) (sym c.seat-item.is) c.reserve.ensures.spared in
    one_changed (SeatSpaced c.args.inputs.now c.args.instants) c.args.seats.now c.loop-seat.seats c.loop-seat.seat-index c.seat-item.result y c.loop-seat.invariant (omega arith) c.seat-item.is (spared, c.in_ok-reserve.ensures.ok)

pub returns-in_err-reserve-clause-spared : goal.returns-in_err-reserve-clause-spared
returns-in_err-reserve-clause-spared c =
    let i : ℕ = c.loop-seat.seat-index in
    let y : Seat = c.reserve.new.self in
    let seats : List Seat = c.loop-seat.seats in
    let spared : SeatSpared c.seat-item.result y = subst (λ (s : Seat). AreSpared s.worker.parts y.worker.parts) (sym c.seat-item.is) c.reserve.ensures.spared in
    all_spared c.args.seats.now (set seats i y) (length-set seats i y ∙ c.loop-seat.invariant.as_many)
    (cut_short (SeatSpaced c.args.inputs.now c.args.instants) SeatSpared c.args.seats.now seats i c.seat-item.result y (λ (a b : Seat) (w : SeatSpaced c.args.inputs.now c.args.instants a b). w.0) (λ (a : Seat). same_parts a.worker.parts)
    c.loop-seat.invariant (omega arith) c.seat-item.is spared)

pub returns-clause-spared : goal.returns-clause-spared
returns-clause-spared c =
    let before : List Seat = c.args.seats.now in
    let after : List Seat = c.loop-seat.seats in
    let over : length before ≤ c.loop-seat.seat-index = omega (arith, c.loop-seat-test.false, c.loop-seat.invariant.as_many) in
    all_spared before after c.loop-seat.invariant.as_many (λ k d l. (all_changed (SeatSpaced c.args.inputs.now c.args.instants) before after c.loop-seat.seat-index c.loop-seat.invariant over k d l).0)

pub returns-clause-ok : goal.returns-clause-ok
returns-clause-ok c =
    let before : List Seat = c.args.seats.now in
    let after : List Seat = c.loop-seat.seats in
    let over : length before ≤ c.loop-seat.seat-index = omega (arith, c.loop-seat-test.false, c.loop-seat.invariant.as_many) in
    all_spaced c.args.inputs.now c.args.instants after (λ k d l.
    (let m : k < length before = omega (arith, c.loop-seat.invariant.as_many) in
    (all_changed (SeatSpaced c.args.inputs.now c.args.instants) before after c.loop-seat.seat-index c.loop-seat.invariant over k d m).1))
